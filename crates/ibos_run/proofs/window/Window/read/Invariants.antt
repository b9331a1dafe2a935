use Rattle.std.proofs.Common.{◌≡◌, ◌-◌, ◌≤◌, ℕ, List, Some, length, take, drop}
use Rattle.ibos_run.specs.Captured.{IsPieceOf}
use Rattle.ibos_run.proofs.window.Window.read.Given as goal

-- the bytes are the first of those that are wanted
abbrev pub invariant-pieces : goal.invariant-pieces
invariant-pieces g l = record {
  within : length l.bytes ≤ l.len;
  front : (file : List ℕ) → g.C.Cabinet.holds l.fn.cabinet l.name ≡ Some file → IsPieceOf file l.fn.self → l.bytes ≡ take (length l.bytes) (drop l.place file);
  of : (file : List ℕ) → g.C.Cabinet.holds l.fn.cabinet l.name ≡ Some file → IsPieceOf file l.fn.self → IsPieceOf file l.self;
  holds : (name : List ℕ) → g.C.Cabinet.holds l.cabinet name ≡ g.C.Cabinet.holds l.fn.cabinet name;
  later : (name : List ℕ) → g.C.Cabinet.faults l.fn.cabinet name ≤ g.C.Cabinet.faults l.cabinet name;
}

abbrev pub decreases-pieces : goal.decreases-pieces
decreases-pieces g l = l.len - length l.bytes
