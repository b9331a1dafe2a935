use Rattle.std.proofs.Common.{◌≡◌, ◌-◌, ◌≤◌, ℕ, List, Some, length}
use Rattle.ibos_run.specs.Captured.{IsPieceOf}
use Rattle.ibos_run.proofs.window.Window.look.Given as goal

abbrev pub invariant-reads : goal.invariant-reads
invariant-reads g l = record {
  at : l.self.place ≡ l.place;
  of : (file : List ℕ) → g.C.Cabinet.holds l.fn.cabinet l.name ≡ Some file → IsPieceOf file l.self;
  holds : (name : List ℕ) → g.C.Cabinet.holds l.cabinet name ≡ g.C.Cabinet.holds l.fn.cabinet name;
  later : (name : List ℕ) → g.C.Cabinet.faults l.fn.cabinet name ≤ g.C.Cabinet.faults l.cabinet name;
}

abbrev pub decreases-reads : goal.decreases-reads
decreases-reads g l = l.least - length l.self.bytes
