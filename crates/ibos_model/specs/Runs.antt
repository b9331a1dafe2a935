-- Whole runs.
use Rattle.std.specs.Prelude.{ℕ, ◌≡◌, List, [], ◌∷◌, ◌++◌, Bool, true, false}
use Rattle.ibos_kinds.specs.declared.act.Act.{Act}
use Rattle.ibos_origin.specs.Hosts.{HostTable}
use Rattle.ibos_model.specs.Journal.{Entry, Journal, heard, is_heard}
use Rattle.ibos_model.specs.Outcomes.{out}

-- the device wrote nothing where no frame was heard
abbrev pub IsWritten : Bool → List ℕ → Type 0
IsWritten true w = Unit {0}
IsWritten false w = w ≡ []

-- an entry may come after a journal: its outcome is that of its act there
pub record Follows (H : HostTable) (J : Journal) (e : Entry) : Type 0 where
  pub outcome : e.outcome ≡ out H J e.act
  pub written : IsWritten (is_heard e.outcome) e.written

-- each entry follows the entries before it
abbrev pub IsRun : HostTable → Journal → Type 0
IsRun H [] = Unit {0}
IsRun H (e ∷ J) = Follows H J e × IsRun H J

abbrev pub first_of : List (List ℕ) → List ℕ
first_of [] = []
first_of (w ∷ W) = w

abbrev pub rest_of : List (List ℕ) → List (List ℕ)
rest_of [] = []
rest_of (w ∷ W) = W

-- what the device wrote for an act, and what is left of the list for the acts behind it
abbrev pub written_by : Bool → List (List ℕ) → List ℕ
written_by true W = first_of W
written_by false W = []

abbrev pub left_by : Bool → List (List ℕ) → List (List ℕ)
left_by true W = rest_of W
left_by false W = W

-- the entry of an act; what the device wrote for a heard one is the next of the list
abbrev pub entry_of : HostTable → Journal → List (List ℕ) → Act → Entry
entry_of H J W a = record {
  act = a;
  outcome = out H J a;
  written = written_by
      (is_heard (out H J a)) W;
}

abbrev pub run_from : HostTable → Journal → List Act → List (List ℕ) → Journal
run_from H J [] W = J
run_from H J (a ∷ A) W = run_from H (entry_of H J W a ∷ J) A (left_by (is_heard (out H J a)) W)

-- the run of acts, for which the device wrote these lists where a frame was heard
abbrev pub run : HostTable → List Act → List (List ℕ) → Journal
run H A W = run_from H [] A W

-- whatever will be heard, the run goes on from a journal, by the acts that are left, to the run of
-- all
abbrev pub GoesOn : HostTable → Journal → List Act → List Act → Type 0
GoesOn H J left all = (W : List (List ℕ)) → run_from H J left W ≡ run H all (heard J ++ W)
