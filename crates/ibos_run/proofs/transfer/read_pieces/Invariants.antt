use Rattle.std.proofs.Common.{◌≡◌, ◌+◌, ◌-◌, ◌≤◌, ℕ, List, length, take}
use Rattle.std.specs.Prelude.{IfSome}
use Rattle.ibos_run.proofs.transfer.read_pieces.Given as goal

-- the text is the front of the file
abbrev pub invariant-pieces : goal.invariant-pieces
invariant-pieces g l = record {
  within : length l.text ≤ l.max_len + 1;
  front : IfSome (g.C.Cabinet.holds l.fn.cabinet l.name) (λ file. l.text ≡ take (length l.text) file);
  holds : (name : List ℕ) → g.C.Cabinet.holds l.cabinet name ≡ g.C.Cabinet.holds l.fn.cabinet name;
  later : (name : List ℕ) → g.C.Cabinet.faults l.fn.cabinet name ≤ g.C.Cabinet.faults l.cabinet name;
}

abbrev pub decreases-pieces : goal.decreases-pieces
decreases-pieces g l = l.max_len + 1 - length l.text
