-- A run goes on: by one entry, and to the text of the whole.
use Rattle.std.proofs.Common.{◌≡◌, ℕ, ◌+◌, List, [], ◌∷◌, ◌++◌, Bool, true, false, refl, sym, ◌∙◌, ap, append_assoc, append-nil, length}
use Rattle.std.specs.Prelude.{if◌then◌else◌}
use Rattle.ibos_kinds.specs.declared.act.Act.{Act}
use Rattle.ibos_kinds.specs.declared.outcome.Outcome.{Outcome}
use Rattle.ibos_outcome.specs.Printed.{outcome_text}
use Rattle.ibos_origin.specs.Hosts.{HostTable}
use Rattle.ibos_model.specs.Journal.{Entry, Journal, acts, frame_of, frames, heard, is_heard, if_heard}
use Rattle.ibos_model.specs.Outcomes.{out}
use Rattle.ibos_model.specs.Runs.{Follows, GoesOn, IsRun, IsWritten, written_by, left_by, entry_of, run_from, run}
use Rattle.ibos_model.specs.Text.{text_of}
use Rattle.ibos_model.specs.Laws.{AreRuns, AreOfTheirActs, DoGoOn, AreFronts, AreFrameFronts}

written_is : (h : Bool) (w : List ℕ) (W : List (List ℕ)) → IsWritten h w → written_by h ((if h then w ∷ [] else []) ++ W) ≡ w
written_is true w W is = refl
written_is false w W is = sym is

left_is : (h : Bool) (w : List ℕ) (W : List (List ℕ)) → left_by h ((if h then w ∷ [] else []) ++ W) ≡ W
left_is true w W = refl
left_is false w W = refl

-- an entry that follows is the one that the run makes
entry_is : (H : HostTable) (J : Journal) (e : Entry) (W : List (List ℕ)) → Follows H J e → entry_of H J (if_heard e.outcome e.written ++ W) e.act ≡ e
entry_is H J e W follows =
    rw (← follows.outcome) (ap (λ w. let made : Entry = record { act = e.act; outcome = e.outcome; written = w } in made)
    (written_is (is_heard e.outcome) e.written W follows.written))

step_is : (H : HostTable) (J : Journal) (e : Entry) (A : List Act) (W : List (List ℕ)) → Follows H J e
    → run_from H (e ∷ J) A W ≡ run_from H J (e.act ∷ A) (if_heard e.outcome e.written ++ W)
step_is H J e A W follows =
    sym (ap (λ (j : Entry). run_from H (j ∷ J) A (left_by (is_heard (out H J e.act)) (if_heard e.outcome e.written ++ W))) (entry_is H J e W follows)
    ∙ ap (λ (o : Outcome). run_from H (e ∷ J) A (left_by (is_heard o) (if_heard e.outcome e.written ++ W))) (sym follows.outcome)
    ∙ ap (run_from H (e ∷ J) A) (left_is (is_heard e.outcome) e.written W))

pub goes_on : DoGoOn
goes_on H J e left all follows goes = λ W.
    step_is H J e left W follows ∙ goes (if_heard e.outcome e.written ++ W)
    ∙ ap (run H all) (sym (append_assoc (heard J) (if_heard e.outcome e.written) W))

-- a run goes on by its own acts
runs_from : (H : HostTable) (J : Journal) (A : List Act) → IsRun H J → GoesOn H J A (acts J ++ A)
runs_from H [] A is = λ W. refl
runs_from H (e ∷ J) A is = λ W.
    goes_on H J e A (acts J ++ e.act ∷ A) is.0 (runs_from H J (e.act ∷ A) is.1) W
    ∙ ap (λ B. run H B (heard (e ∷ J) ++ W)) (sym (append_assoc (acts J) (e.act ∷ []) A))

pub of_its_acts : AreOfTheirActs
of_its_acts H J is =
    runs_from H J [] is [] ∙ ap (λ A. run H A (heard J ++ [])) (append-nil (acts J)) ∙ ap (run H (acts J)) (append-nil (heard J))

pub fronts : AreFronts
fronts H J [] W = ([], append-nil (text_of J))
fronts H J (a ∷ A) W =
    let e = entry_of H J W a in
    let rest = fronts H (e ∷ J) A (left_by (is_heard (out H J a)) W) in
    (outcome_text (length J + 1) e.outcome ++ rest.0, sym (append_assoc (text_of J) (outcome_text (length J + 1) e.outcome) rest.0) ∙ rest.1)

pub frame_fronts : AreFrameFronts
frame_fronts H J [] W = ([], append-nil (frames J))
frame_fronts H J (a ∷ A) W =
    let e = entry_of H J W a in
    let rest = frame_fronts H (e ∷ J) A (left_by (is_heard (out H J a)) W) in
    (if_heard e.outcome (frame_of a) ++ rest.0, sym (append_assoc (frames J) (if_heard e.outcome (frame_of a)) rest.0) ∙ rest.1)

-- ---- runs that acts make

made_written : (h : Bool) (W : List (List ℕ)) → IsWritten h (written_by h W)
made_written true W = tt
made_written false W = refl

-- the entry that a run makes follows
pub made_follows : (H : HostTable) (J : Journal) (W : List (List ℕ)) (a : Act) → Follows H J (entry_of H J W a)
made_follows H J W a = record { outcome = refl; written = made_written (is_heard (out H J a)) W }

is_run_from : (H : HostTable) (J : Journal) (A : List Act) (W : List (List ℕ)) → IsRun H J → IsRun H (run_from H J A W)
is_run_from H J [] W is = is
is_run_from H J (a ∷ A) W is =
    is_run_from H (entry_of H J W a ∷ J) A (left_by (is_heard (out H J a)) W)
    (made_follows H J W a, is)

pub is_run : AreRuns
is_run H A W = is_run_from H [] A W tt
