-- The end of a run.
use Rattle.std.proofs.Common.{◌≡◌, ℕ, List, [], ◌++◌, Option, Some, None, sym, ◌∙◌, ap, subst, length, append-nil}
use Rattle.std.proofs.lemmas.List.Elements.{All-take}
use Rattle.std.proofs.Math.Seq.{take-append_seam}
use Rattle.std.specs.List.{All}
use Rattle.std.specs.Prelude.{IfSome}
use Rattle.ibos_origin.specs.Hosts.{HostTable}
use Rattle.ibos_nic.specs.declared.log.LogEntry.{LogEntry}
use Rattle.ibos_nic.specs.Registers.{Registers}
use Rattle.ibos_make.specs.Drill.{drill_acts, drill_table}
use Rattle.ibos_run.specs.Inputs.{Input, NoForm, NoHosts, Session, Drill, journal_of, last_line, session_text, wanted}
use Rattle.ibos_run.specs.Readings.{Reading, refused_by}
use Rattle.ibos_run.specs.Refusals.{Refusal, refusal_line}
use Rattle.ibos_run.specs.Summaries.{drill_journal}
use Rattle.ibos_model.specs.Journal.{Journal, frames}
use Rattle.ibos_model.specs.Logs.{frames_in, sent_in, written_in}
use Rattle.ibos_model.specs.Laws.{AreRuns, AreSentRightly as AreRight, IsOfASend}
use Rattle.ibos_model.specs.Network.{network, sent_frames}
use Rattle.ibos_model.specs.Text.{text_of}
use Rattle.ibos_run.specs.Device.{AreRegistersOf, AreSentRightly, IsLogFront, IsLogOf, IsLogged, IsLoggedFront}
use Rattle.ibos_run.specs.Faults.{OnWhole}
use Rattle.ibos_run.specs.declared.fault.Status.{Status}
use Rattle.ibos_run.specs.declared.fault.Status.TheVariants.{Done, Usage, Refused, ReadFault, WriteFault, Memory as NoMemory}
use Rattle.ibos_run.specs.Session.{IsBroken, IsOver, IsServed, IsStopped, IsTold}
use Rattle.ibos_run.specs.Took.{Took, TookFront}
use Rattle.ibos_run.proofs.Taken.{front_kept, front_more, front_of, front_then, took_more, took_then}

-- the last line joins what is gathered
pub with_last : (H : HostTable) (whole : Reading) (first now : Option (List ℕ)) (gathered text : List ℕ) (f : Registers) (l : List LogEntry) (acts : ℕ) (refused : Option Refusal)
    → IsOver H whole first now gathered f l acts refused → text ≡ gathered ++ last_line acts refused → Took first now text (session_text H whole (written_in l))
unfolding session_text
with_last H whole first now gathered text f l acts refused over pushed =
    let J : Journal = journal_of H whole (written_in l) in
    let last : text ≡ gathered ++ last_line (length J) whole.refused =
    pushed ∙ ap (λ n. gathered ++ last_line n refused) over.counted ∙ ap (λ r. gathered ++ last_line (length J) r) over.refuses in
    subst (λ t. Took first now t (text_of J ++ last_line (length J) whole.refused)) (sym last)
    (took_more first now gathered (text_of J) (last_line (length J) whole.refused) over.served.text)

all_front : (J : Journal) (l : List LogEntry) → IsLogOf J l → IsLogFront J l
all_front J l is = record { came = ([], append-nil (frames_in l) ∙ is.came); sent = ([], append-nil (sent_in l) ∙ is.sent) }

-- all is handed over
pub told : (H : HostTable) (whole : Reading) (first now new : Option (List ℕ)) (gathered text : List ℕ) (f : Registers) (l : List LogEntry)
    → IsServed H whole first now gathered f l → Took first now text (session_text H whole (written_in l)) → Took now new [] text → IsTold (Session H whole) first new f l
told H whole first now new gathered text f l served took handed = record {
  text = took_then first now new text [] (session_text H whole (written_in l)) took handed;
  logged = served.logged;
  registers = λ whole. served.registers;
}

-- a write of it failed
pub unhanded : (H : HostTable) (whole : Reading) (first now new : Option (List ℕ)) (gathered text left : List ℕ) (f : Registers) (l : List LogEntry)
    → IsServed H whole first now gathered f l → Took first now text (session_text H whole (written_in l)) → TookFront now new left text → IsBroken (Session H whole) first new left l
unhanded H whole first now new gathered text left f l served took handed = record {
  text = front_then first now new text left (session_text H whole (written_in l)) (front_of first now text (session_text H whole (written_in l)) took) handed;
  logged = all_front (journal_of H whole (written_in l)) l served.logged;
}

-- the last line was not gathered
pub without_last : (H : HostTable) (whole : Reading) (first now : Option (List ℕ)) (gathered text : List ℕ) (f : Registers) (l : List LogEntry)
    → IsServed H whole first now gathered f l → text ≡ gathered → IsBroken (Session H whole) first now text l
unfolding session_text
without_last H whole first now gathered text f l served same =
    let J : Journal = journal_of H whole (written_in l) in
    record {
      text = subst (λ t. TookFront first now t (text_of J ++ last_line (length J) whole.refused)) (sym same)
          (front_more first now gathered (text_of J) (last_line (length J) whole.refused) (front_of first now gathered (text_of J) served.text));
      logged = all_front J l served.logged;
    }

pub stopped_broken : (H : HostTable) (whole : Reading) (first now : Option (List ℕ)) (gathered : List ℕ) (l : List LogEntry) → IsStopped H whole first now gathered l → IsBroken (Session H whole) first now gathered l
stopped_broken H whole first now gathered l stopped = record { text = stopped.text; logged = stopped.logged }

-- ---- before a session

none_front : (J : Journal) (l : List LogEntry) → l ≡ [] → IsLogFront J l
none_front J l is = record {
  came = (frames J, ap (λ (m : List LogEntry). frames_in m ++ frames J) is);
  sent = (sent_frames (network J), ap (λ (m : List LogEntry). sent_in m ++ sent_frames (network J)) is);
}

none_logged : (i : Input) (l : List LogEntry) → l ≡ [] → IsLoggedFront i l
none_logged NoForm l is = is
none_logged (NoHosts refusal) l is = is
none_logged (Session H reading) l is = none_front (journal_of H reading (written_in l)) l is
none_logged (Drill seed rounds) l is = none_front (drill_journal seed rounds (written_in l)) l is

-- nothing was taken, and nothing is gathered
pub untouched : (i : Input) (first : Option (List ℕ)) (gathered : List ℕ) (l : List LogEntry) → gathered ≡ [] → l ≡ [] → IsBroken i first first gathered l
untouched i first gathered l empty none = record {
  text = front_kept first gathered [] (wanted i (written_in l)) empty;
  logged = none_logged i l none;
}

pub untouched_if : (i : Option Input) (first : Option (List ℕ)) (gathered : List ℕ) (l : List LogEntry) → gathered ≡ [] → l ≡ [] → IfSome i (λ i. IsBroken i first first gathered l)
untouched_if None first gathered l empty none = tt
untouched_if (Some i) first gathered l empty none = untouched i first gathered l empty none

-- what was gathered is handed over as well
pub handed_if : (i : Option Input) (first now new : Option (List ℕ)) (gathered left : List ℕ) (l : List LogEntry)
    → IfSome i (λ i. IsBroken i first now gathered l) → TookFront now new left gathered → IfSome i (λ i. IsBroken i first new left l)
handed_if None first now new gathered left l broken front = tt
handed_if (Some i) first now new gathered left l broken front = record {
  text = front_then first now new gathered left (wanted i (written_in l)) broken.text front;
  logged = broken.logged;
}

-- the host table has a fault
pub refused_told : (refusal : Refusal) (first now : Option (List ℕ)) (f : Registers) (l : List LogEntry) → l ≡ [] → Took first now [] (refusal_line refusal) → IsTold (NoHosts refusal) first now f l
refused_told refusal first now f l none took = record { text = took; logged = none; registers = tt }

pub refused_broken : (refusal : Refusal) (first now : Option (List ℕ)) (gathered : List ℕ) (l : List LogEntry) → l ≡ [] → TookFront first now gathered (refusal_line refusal) → IsBroken (NoHosts refusal) first now gathered l
refused_broken refusal first now gathered l none front = record { text = front; logged = none }

-- the capture has a fault
pub capture_told : (H : HostTable) (refusal : Refusal) (first now : Option (List ℕ)) (f : Registers) (l : List LogEntry) → l ≡ [] → Took first now [] (refusal_line refusal) → IsTold (Session H (refused_by refusal)) first now f l
unfolding session_text network
capture_told H refusal first now f l none took = record {
  text = took;
  logged = record { came = ap frames_in none; sent = ap sent_in none };
  registers = λ whole. cc;
}

pub capture_broken : (H : HostTable) (refusal : Refusal) (first now : Option (List ℕ)) (gathered : List ℕ) (l : List LogEntry) → l ≡ [] → TookFront first now gathered (refusal_line refusal) → IsBroken (Session H (refused_by refusal)) first now gathered l
unfolding session_text
capture_broken H refusal first now gathered l none front = record { text = front; logged = none_front (journal_of H (refused_by refusal) (written_in l)) l none }

-- ---- what registers are

pub on_whole : (status : Status) (P : Type 0) → P → OnWhole status P
on_whole Done P holds = holds
on_whole Usage P holds = holds
on_whole Refused P holds = holds
on_whole ReadFault P holds = tt
on_whole WriteFault P holds = tt
on_whole NoMemory P holds = tt

registers_if : (i : Option Input) (first now : Option (List ℕ)) (f : Registers) (l : List LogEntry) → IfSome i (λ i. IsTold i first now f l) → IfSome i (λ i. AreRegistersOf i f (written_in l))
registers_if None first now f l told = tt
registers_if (Some i) first now f l told = told.registers

pub told_registers : (i j : Option Input) → j ≡ i → (first now : Option (List ℕ)) (f : Registers) (l : List LogEntry) → IfSome i (λ i. IsTold i first now f l) → IfSome j (λ i. AreRegistersOf i f (written_in l))
told_registers i j same first now f l told =
    let P : Option Input → Type 0 = λ x. IfSome x (λ i. AreRegistersOf i f (written_in l)) in
    subst P (sym same) (registers_if i first now f l told)

-- ---- what went out

-- what holds of all holds of each front
all_of_front : {A : Type 0} (P : A → Type 0) (xs more : List A) → All P (xs ++ more) → All P xs
all_of_front {A} P xs more all =
    let Q : List A → Type 0 = All P in
    subst Q (take-append_seam xs more) (All-take P (length xs) (xs ++ more) all)

sent_right : AreRuns → AreRight → (i : Input) (l : List LogEntry) → IsLoggedFront i l → AreSentRightly i l
sent_right runs right NoForm l logged = tt
sent_right runs right (NoHosts refusal) l logged = tt
sent_right runs right (Session H reading) l logged =
    let J : Journal = journal_of H reading (written_in l) in
    let P : List (List ℕ) → Type 0 = All (IsOfASend H J) in
    all_of_front (IsOfASend H J) (sent_in l) logged.sent.0 (subst P (sym logged.sent.1) (right H J (runs H reading.acts (written_in l))))
sent_right runs right (Drill seed rounds) l logged =
    let J : Journal = drill_journal seed rounds (written_in l) in
    let P : List (List ℕ) → Type 0 = All (IsOfASend drill_table J) in
    all_of_front (IsOfASend drill_table J) (sent_in l) logged.sent.0 (subst P (sym logged.sent.1) (right drill_table J (runs drill_table (drill_acts seed rounds) (written_in l))))

front_right_if : AreRuns → AreRight → (i : Option Input) (l : List LogEntry) → IfSome i (λ i. IsLoggedFront i l) → IfSome i (λ i. AreSentRightly i l)
front_right_if runs right None l logged = tt
front_right_if runs right (Some i) l logged = sent_right runs right i l logged

logged_front : (i : Input) (l : List LogEntry) → IsLogged i l → IsLoggedFront i l
logged_front NoForm l logged = logged
logged_front (NoHosts refusal) l logged = logged
logged_front (Session H reading) l logged = all_front (journal_of H reading (written_in l)) l logged
logged_front (Drill seed rounds) l logged = all_front (drill_journal seed rounds (written_in l)) l logged

told_front_if : (i : Option Input) (first now : Option (List ℕ)) (f : Registers) (l : List LogEntry) → IfSome i (λ i. IsTold i first now f l) → IfSome i (λ i. IsLoggedFront i l)
told_front_if None first now f l told = tt
told_front_if (Some i) first now f l told = logged_front i l told.logged

broken_front_if : (i : Option Input) (first now : Option (List ℕ)) (gathered : List ℕ) (l : List LogEntry) → IfSome i (λ i. IsBroken i first now gathered l) → IfSome i (λ i. IsLoggedFront i l)
broken_front_if None first now gathered l broken = tt
broken_front_if (Some i) first now gathered l broken = broken.logged

-- the words' inputs are those of the files that they name
pub told_right : AreRuns → AreRight → (i j : Option Input) → j ≡ i → (first now : Option (List ℕ)) (f : Registers) (l : List LogEntry) → IfSome i (λ i. IsTold i first now f l) → IfSome j (λ i. AreSentRightly i l)
told_right runs right i j same first now f l told =
    let P : Option Input → Type 0 = λ x. IfSome x (λ i. AreSentRightly i l) in
    subst P (sym same) (front_right_if runs right i l (told_front_if i first now f l told))

pub broken_right : AreRuns → AreRight → (i j : Option Input) → j ≡ i → (first now : Option (List ℕ)) (gathered : List ℕ) (l : List LogEntry) → IfSome i (λ i. IsBroken i first now gathered l) → IfSome j (λ i. AreSentRightly i l)
broken_right runs right i j same first now gathered l broken =
    let P : Option Input → Type 0 = λ x. IfSome x (λ i. AreSentRightly i l) in
    subst P (sym same) (front_right_if runs right i l (broken_front_if i first now gathered l broken))
