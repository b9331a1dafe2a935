use Rattle.std.proofs.Common.{◌≡◌, ◌+◌, ◌-◌, ◌≤◌, ℕ, List, length, take}
use Rattle.std.specs.Prelude.{IfSome, if◌then◌else◌}
use Rattle.ibos_text.specs.Parts.{len_before}
use Rattle.ibos_run.specs.Readings.{script_in}
use Rattle.ibos_run.specs.Sources.{ReadsOn}
use Rattle.ibos_run.proofs.source.Source.find_line.Given as goal

-- no line ends in the bytes that were searched
abbrev pub invariant-pieces : goal.invariant-pieces
invariant-pieces g l = record {
  within : l.searched ≤ length l.self.bytes;
  none : len_before 10 (take l.searched l.self.bytes) ≡ l.searched;
  text : IfSome (g.C.Cabinet.holds l.fn.cabinet l.name) (λ file. ReadsOn (script_in file) l.fn.self l.self);
  more : length l.self.bytes + l.fn.self.place ≡ length l.fn.self.bytes + l.self.place;
  holds : (name : List ℕ) → g.C.Cabinet.holds l.cabinet name ≡ g.C.Cabinet.holds l.fn.cabinet name;
  later : (name : List ℕ) → g.C.Cabinet.faults l.fn.cabinet name ≤ g.C.Cabinet.faults l.cabinet name;
}

abbrev pub decreases-pieces : goal.decreases-pieces
decreases-pieces g l = (67108865 - l.self.place) + (if l.self.over then 0 else 1)
