-- What holds of what was read of a file holds of the file, where the cabinet tells it.
use Rattle.std.proofs.Common.{◌≡◌, List, [], ℕ, Option, Some, None, Result, Ok, Err, refl, sym, ◌∙◌, ap, take, subst}
use Rattle.std.specs.Prelude.{IfOk, IfSome, OnErr, OnOk}
use Rattle.std.specs.Option.{option_map}
use Rattle.ibos_capture.specs.declared.fault.CapFault.{CapFault}
use Rattle.ibos_capture.specs.declared.fault.CaptureFault.{CaptureFault}
use Rattle.ibos_origin.specs.Hosts.{HostTable}
use Rattle.ibos_run.specs.Captured.{Captured, IsHeld, IsReadAs, frames_left}
use Rattle.ibos_run.specs.Inputs.{Input, Session, frames_by, frames_in, script_with, session_in, table_in}
use Rattle.ibos_run.specs.Readings.{refused_by}
use Rattle.ibos_run.specs.Refusals.{capture_refusal}

pub table_file : (held : Option (List ℕ)) (text : List ℕ) (P : List ℕ → Type 0) → IfSome held (λ file. text ≡ take 4194305 file) → P text → IfSome held (λ file. P (table_in file))
unfolding table_in
table_file None text P is holds = tt
table_file (Some file) text P is holds = subst P is holds

-- the capture has a fault
pub at_capture : (H : HostTable) (held script : Option (List ℕ)) (fault : ℕ × CapFault) (Q : Input → Type 0) → IfSome held (λ file. frames_in file ≡ Err fault)
    → Q (Session H (refused_by (capture_refusal fault))) → IfSome (session_in H (option_map frames_in held) script) Q
at_capture H None script fault Q is holds = tt
at_capture H (Some file) script fault Q is holds =
    let P : Result (List (List ℕ)) (ℕ × CapFault) → Type 0 = λ r. IfSome (session_in H (Some r) script) Q in
    subst P (sym is) holds

-- ---- the capture that words name, or none

pub with_fault : (H : HostTable) (holds : List ℕ → Option (List ℕ)) (capture : Option (List ℕ)) (name : List ℕ) (script : Option (List ℕ)) (fault : ℕ × CapFault) (Q : Input → Type 0)
    → capture ≡ Some name → IfSome (holds name) (λ file. frames_in file ≡ Err fault) → Q (Session H (refused_by (capture_refusal fault))) → IfSome (session_in H (frames_by holds capture) script) Q
with_fault H holds capture name script fault Q is read told =
    let P : Option (List ℕ) → Type 0 = λ c. IfSome (session_in H (frames_by holds c) script) Q in
    subst P (sym is) (at_capture H (holds name) script fault Q read told)

-- its frames are those that are left
with_frames : (H : HostTable) (holds : List ℕ → Option (List ℕ)) (capture : Option (List ℕ)) (name : List ℕ) (script : Option (List ℕ)) (c : Captured) (Q : Input → Type 0)
    → capture ≡ Some name → IfSome (holds name) (λ file. IsReadAs file (Ok c))
    → ((file : List ℕ) → holds name ≡ Some file → IsReadAs file (Ok c) → IfSome (script_with H (frames_left file (Some c)) script) Q)
    → IfSome (session_in H (frames_by holds capture) script) Q
with_frames H holds capture name script c Q is read told =
    let P : Option (List ℕ) → Type 0 = λ c. IfSome (session_in H (frames_by holds c) script) Q in
    subst P (sym is) (by (holds name) read told)
  where
    by : (held : Option (List ℕ)) → IfSome held (λ file. IsReadAs file (Ok c)) → ((file : List ℕ) → held ≡ Some file → IsReadAs file (Ok c) → IfSome (script_with H (frames_left file (Some c)) script) Q)
        → IfSome (session_in H (option_map frames_in held) script) Q
    by None read told = tt
    by (Some file) read told =
        let R : Result (List (List ℕ)) (ℕ × CapFault) → Type 0 = λ r. IfSome (session_in H (Some r) script) Q in
        subst R (sym read.0) (told file refl read)

-- no capture is named
without_frames : (H : HostTable) (holds : List ℕ → Option (List ℕ)) (capture : Option (List ℕ)) (script : Option (List ℕ)) (Q : Input → Type 0) → capture ≡ None → IfSome (script_with H [] script) Q
    → IfSome (session_in H (frames_by holds capture) script) Q
without_frames H holds capture script Q is told =
    let P : Option (List ℕ) → Type 0 = λ c. IfSome (session_in H (frames_by holds c) script) Q in
    subst P (sym is) told

-- ---- what holds with the frames that are left holds with those of the capture

each_left : (H : HostTable) (holds now : List ℕ → Option (List ℕ)) (capture : Option (List ℕ)) (name script : List ℕ) (c : Captured) (Q : Input → Type 0) → capture ≡ Some name → c.name ≡ name → ((n : List ℕ) → now n ≡ holds n)
    → IfSome (holds name) (λ file. IsReadAs file (Ok c)) → ((file : List ℕ) → IsHeld now file (Some c) → IfSome (script_with H (frames_left file (Some c)) (now script)) Q)
    → IfSome (session_in H (frames_by holds capture) (holds script)) Q
each_left H holds now capture name script c Q is same kept read told =
    with_frames H holds capture name (holds script) c Q is read
    (λ file held told_as.
    let P : Option (List ℕ) → Type 0 = λ s. IfSome (script_with H (frames_left file (Some c)) s) Q in
    subst P (kept script) (told file (kept c.name ∙ ap holds same ∙ held, told_as.1)))

-- the capture that was read has the name that it was read by
pub name_told : (read : Result Captured CaptureFault) (c : Captured) (name : List ℕ) → read ≡ Ok c → IfOk read (λ c. c.name ≡ name) → c.name ≡ name
name_told read c name is told =
    let P : Result Captured CaptureFault → Type 0 = λ r. IfOk r (λ c. c.name ≡ name) in
    subst P is told

pub frames_told : (held : Option (List ℕ)) (read : Result Captured CaptureFault) (c : Captured) → read ≡ Ok c → IfSome held (λ file. IsReadAs file read) → IfSome held (λ file. IsReadAs file (Ok c))
frames_told held read c is told =
    let P : Result Captured CaptureFault → Type 0 = λ r. IfSome held (λ file. IsReadAs file r) in
    subst P is told

-- where the run came to an end
pub left_ok : {T E : Type 0} (result : Result T E) (H : HostTable) (holds now : List ℕ → Option (List ℕ)) (capture : Option (List ℕ)) (name script : List ℕ) (c : Captured) (Q : T → Input → Type 0) → capture ≡ Some name → c.name ≡ name
    → ((n : List ℕ) → now n ≡ holds n) → IfSome (holds name) (λ file. IsReadAs file (Ok c)) → IfOk result (λ v. (file : List ℕ) → IsHeld now file (Some c) → IfSome (script_with H (frames_left file (Some c)) (now script)) (Q v))
    → IfOk result (λ v. IfSome (session_in H (frames_by holds capture) (holds script)) (Q v))
left_ok (Err e) H holds now capture name script c Q is same kept read told = tt
left_ok (Ok v) H holds now capture name script c Q is same kept read told = each_left H holds now capture name script c (Q v) is same kept read told

pub left_on_ok : {T E : Type 0} (result : Result T E) (H : HostTable) (holds now : List ℕ → Option (List ℕ)) (capture : Option (List ℕ)) (name script : List ℕ) (c : Captured) (Q : Input → Type 0) → capture ≡ Some name → c.name ≡ name
    → ((n : List ℕ) → now n ≡ holds n) → IfSome (holds name) (λ file. IsReadAs file (Ok c)) → OnOk result ((file : List ℕ) → IsHeld now file (Some c) → IfSome (script_with H (frames_left file (Some c)) (now script)) Q)
    → OnOk result (IfSome (session_in H (frames_by holds capture) (holds script)) Q)
left_on_ok (Err e) H holds now capture name script c Q is same kept read told = tt
left_on_ok (Ok v) H holds now capture name script c Q is same kept read told = each_left H holds now capture name script c Q is same kept read told

-- and where it was cut off
pub left_on_err : {T E : Type 0} (result : Result T E) (H : HostTable) (holds now : List ℕ → Option (List ℕ)) (capture : Option (List ℕ)) (name script : List ℕ) (c : Captured) (Q : Input → Type 0) → capture ≡ Some name → c.name ≡ name
    → ((n : List ℕ) → now n ≡ holds n) → IfSome (holds name) (λ file. IsReadAs file (Ok c)) → OnErr result ((file : List ℕ) → IsHeld now file (Some c) → IfSome (script_with H (frames_left file (Some c)) (now script)) Q)
    → OnErr result (IfSome (session_in H (frames_by holds capture) (holds script)) Q)
left_on_err (Ok v) H holds now capture name script c Q is same kept read told = tt
left_on_err (Err e) H holds now capture name script c Q is same kept read told = each_left H holds now capture name script c Q is same kept read told

-- the same, where no capture is named
pub none_ok : {T E : Type 0} (result : Result T E) (H : HostTable) (holds : List ℕ → Option (List ℕ)) (capture : Option (List ℕ)) (script : Option (List ℕ)) (Q : T → Input → Type 0) → capture ≡ None
    → IfOk result (λ v. (file : List ℕ) → IsHeld holds file None → IfSome (script_with H [] script) (Q v)) → IfOk result (λ v. IfSome (session_in H (frames_by holds capture) script) (Q v))
none_ok (Err e) H holds capture script Q is told = tt
none_ok (Ok v) H holds capture script Q is told = without_frames H holds capture script (Q v) is (told [] tt)

pub none_on_ok : {T E : Type 0} (result : Result T E) (H : HostTable) (holds : List ℕ → Option (List ℕ)) (capture : Option (List ℕ)) (script : Option (List ℕ)) (Q : Input → Type 0) → capture ≡ None
    → OnOk result ((file : List ℕ) → IsHeld holds file None → IfSome (script_with H [] script) Q) → OnOk result (IfSome (session_in H (frames_by holds capture) script) Q)
none_on_ok (Err e) H holds capture script Q is told = tt
none_on_ok (Ok v) H holds capture script Q is told = without_frames H holds capture script Q is (told [] tt)

pub none_on_err : {T E : Type 0} (result : Result T E) (H : HostTable) (holds : List ℕ → Option (List ℕ)) (capture : Option (List ℕ)) (script : Option (List ℕ)) (Q : Input → Type 0) → capture ≡ None
    → OnErr result ((file : List ℕ) → IsHeld holds file None → IfSome (script_with H [] script) Q) → OnErr result (IfSome (session_in H (frames_by holds capture) script) Q)
none_on_err (Ok v) H holds capture script Q is told = tt
none_on_err (Err e) H holds capture script Q is told = without_frames H holds capture script Q is (told [] tt)
