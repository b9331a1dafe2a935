use Rattle.std.proofs.Common.{◌≡◌, ◌≤◌, ◌-◌, length, take, All}
use Rattle.ibos_outcome.specs.Printed.{items_text}
use Rattle.ibos_outcome.specs.Canonical.{IsCanonicalItem}
use Rattle.ibos_outcome.proofs.read.read_items.Given as goal

-- the lines so far
abbrev pub invariant-loop-item : goal.invariant-loop-item
invariant-loop-item l = record {
  within : l.len ≤ length l.text;
  head : l.outcome.head ≡ l.fn.outcome.head;
  canonical : All IsCanonicalItem l.outcome.items;
  told : items_text l.digits l.outcome.items ≡ take l.len l.text;
}

abbrev pub decreases-loop-item : goal.decreases-loop-item
decreases-loop-item l = length l.text - l.len
