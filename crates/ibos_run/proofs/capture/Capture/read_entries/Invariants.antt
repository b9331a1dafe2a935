use Rattle.std.proofs.Common.{◌≡◌, ◌-◌, ◌≤◌, ℕ, List, Some}
use Rattle.ibos_capture.specs.Progress.{IsReadTo}
use Rattle.ibos_run.specs.Captured.{IsPieceOf}
use Rattle.ibos_run.proofs.capture.Capture.read_entries.Given as goal

abbrev pub invariant-entries : goal.invariant-entries
invariant-entries g l = record {
  limit : l.reader.place ≤ 67108864;
  read : (file : List ℕ) → g.C.Cabinet.holds l.fn.cabinet l.name ≡ Some file → IsReadTo file l.fn.reader → IsPieceOf file l.fn.window → IsReadTo file l.reader;
  of : (file : List ℕ) → g.C.Cabinet.holds l.fn.cabinet l.name ≡ Some file → IsReadTo file l.fn.reader → IsPieceOf file l.fn.window → IsPieceOf file l.window;
  holds : (name : List ℕ) → g.C.Cabinet.holds l.cabinet name ≡ g.C.Cabinet.holds l.fn.cabinet name;
  later : (name : List ℕ) → g.C.Cabinet.faults l.fn.cabinet name ≤ g.C.Cabinet.faults l.cabinet name;
}

abbrev pub decreases-entries : goal.decreases-entries
decreases-entries g l = 67108864 - l.reader.place
