-- What was read of a capture, and the frames of it that are left.
use Rattle.std.proofs.Common.{◌≡◌, ℕ, ◌+◌, ◌-◌, ◌≤◌, ◌<◌, List, [], ◌∷◌, Result, Ok, Err, Option, Some, None, refl, sym, ◌∙◌, ap, drop, take, length, length-take, length-drop, subst, arith}
use Rattle.std.specs.Prelude.{IfOk, IfSome, slice_get}
use Rattle.std.proofs.lemmas.Bool.Decides.{nat_tests}
use Rattle.std.proofs.lemmas.List.{drop_more, take_all}
use Rattle.std.proofs.lemmas.Option.{get_or_from_slice_get, slice_get_within}
use Rattle.ibos_capture.specs.declared.fault.CapFault.{CapFault}
use Rattle.ibos_capture.specs.declared.fault.CapFault.TheVariants.{TooLong}
use Rattle.ibos_capture.specs.declared.fault.CaptureFault.{CaptureFault}
use Rattle.ibos_capture.specs.declared.fault.CaptureFault.TheVariants.{At, Memory}
use Rattle.ibos_capture.specs.declared.index.Entry.{Entry}
use Rattle.ibos_capture.specs.Captures.{capture_in, capture_with, header_in, index_in, index_with}
use Rattle.ibos_capture.specs.Progress.{IsFront, IsReadTo, Progress}
use Rattle.ibos_capture.specs.Reads.{Reads}
use Rattle.ibos_run.specs.Captured.{Captured, IsAt, IsHeld, IsPieceOf, IsReadAs, Piece, Shows}
use Rattle.ibos_run.specs.Inputs.{frames_in}
use Rattle.ibos_run.specs.declared.fault.Fault.{Fault}
use Rattle.ibos_run.proofs.Shown.{front_is}

-- what holds of each file that the cabinet may tell
pub each_held : (held : Option (List ℕ)) (P : List ℕ → Type 0) → ((file : List ℕ) → held ≡ Some file → P file) → IfSome held P
each_held None P each = tt
each_held (Some file) P each = each file refl

-- the cabinet holds what it held
pub held_same : (holds now : List ℕ → Option (List ℕ)) (file : List ℕ) (c : Option Captured) → ((name : List ℕ) → now name ≡ holds name) → IsHeld holds file c → IsHeld now file c
held_same holds now file None same held = tt
held_same holds now file (Some c) same held = (same c.name ∙ held.0, held.1)

-- ---- the limit

pub frames_short : (file : List ℕ) → length file ≤ 67108864 → frames_in file ≡ capture_in file
unfolding frames_in
frames_short file short = ap capture_in (take_all 67108865 file (omega (arith, short)))

header_long : (bytes : List ℕ) → 67108864 < length bytes → header_in bytes ≡ Err TooLong
unfolding header_in
header_long bytes more = grind (arith, nat_tests, more)

frames_long : (file : List ℕ) → 67108864 < length file → frames_in file ≡ Err (0, TooLong)
unfolding frames_in capture_in index_in
frames_long file more =
    let bytes : List ℕ = take 67108865 file in
    ap (λ h. capture_with bytes (index_with h bytes)) (header_long bytes (omega (arith, more, length-take 67108865 file)))

-- the file has more bytes than a capture may
pub is_too_long : (held : Option (List ℕ)) → ((file : List ℕ) → held ≡ Some file → 67108864 < length file) → IfSome held (λ file. IsReadAs file (Err (At 0 TooLong)))
is_too_long None more = tt
is_too_long (Some file) more = frames_long file (more file refl)

-- ---- faults

-- a fault of the index is that of the capture
fault_read : (bytes : List ℕ) (fault : CaptureFault) → Reads {T = List Entry} (Err fault) (index_in bytes) → Reads {T = List (List ℕ)} (Err fault) (capture_in bytes)
unfolding capture_in
fault_read bytes (At n fault) is = ap (capture_with bytes) is
fault_read bytes Memory is = tt

pub refused_as : (file : List ℕ) (fault : CaptureFault) → length file ≤ 67108864 → Reads {T = List Entry} (Err fault) (index_in file) → IsReadAs file (Err fault)
refused_as file fault short is =
    let P : Result (List (List ℕ)) (ℕ × CapFault) → Type 0 = Reads {T = List (List ℕ)} (Err fault) in
    subst P (sym (frames_short file short)) (fault_read file fault is)

-- the fault that was read is that of the file
pub fault_told : (held : Option (List ℕ)) (read : Result Captured CaptureFault) (n : ℕ) (fault : CapFault) → read ≡ Err (At n fault)
    → IfSome held (λ file. IsReadAs file read) → IfSome held (λ file. frames_in file ≡ Err (n, fault))
fault_told held read n fault is told =
    let P : Result Captured CaptureFault → Type 0 = λ r. IfSome held (λ file. IsReadAs file r) in
    subst P is told

-- ---- entries

-- the header of the next entry is in the window
pub header_is : (file : List ℕ) (p : Progress) (place : ℕ) (piece : Piece) (header : List ℕ) → place ≡ p.place → IsAt place piece → Shows file place 16 piece
    → header ≡ take 16 (drop (place - piece.place) piece.bytes) → IsFront file p.place 16 header
header_is file p place piece header same at shows is =
    is ∙ front_is file place 16 piece at shows ∙ ap (λ i. take 16 (drop i file)) same

-- where it has no byte the file ends
pub no_header : (file : List ℕ) (place : ℕ) (header : List ℕ) → IsFront file place 16 header → length header ≡ 0 → length file ≤ place
no_header file place header is none = omega (arith, none, ap (λ (bs : List ℕ). length bs) is, length-take 16 (drop place file), length-drop place file)

-- the entries behind the header are read
pub entries_if : (result : Result (Result Captured CaptureFault) Fault) (held now : Option (List ℕ)) (p : Progress) (piece : Piece)
    → IfOk result (λ read. (file : List ℕ) → now ≡ Some file → IsReadTo file p → IsPieceOf file piece → IsReadAs file read)
    → ((file : List ℕ) → held ≡ Some file → (now ≡ Some file) × (IsReadTo file p × IsPieceOf file piece))
    → IfOk result (λ read. IfSome held (λ file. IsReadAs file read))
entries_if (Err fault) held now p piece reads before = tt
entries_if (Ok read) held now p piece reads before =
    each_held held (λ file. IsReadAs file read) (λ file is. let b = before file is in reads file b.0 b.1.0 b.1.1)

-- ---- frames

-- the next frame is the first of those that are left
pub next_taken : (frames left : List (List ℕ)) (k : ℕ) (frame : List ℕ) → drop k frames ≡ left → slice_get frames k ≡ Some frame → left ≡ frame ∷ drop (k + 1) frames
next_taken frames left k frame is got =
    sym is ∙ drop_more frames k [] (slice_get_within frames k frame got)
    ∙ ap (λ (first : List ℕ). first ∷ drop (k + 1) frames) (get_or_from_slice_get frames k frame [] got)
