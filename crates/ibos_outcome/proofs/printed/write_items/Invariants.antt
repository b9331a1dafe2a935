use Rattle.std.proofs.Common.{◌≡◌, ◌++◌, take}
use Rattle.ibos_outcome.specs.Printed.{items_text}
use Rattle.ibos_outcome.proofs.printed.write_items.Given as goal

abbrev pub invariant-loop-item : goal.invariant-loop-item
invariant-loop-item l = l.text ≡ l.fn.text ++ items_text l.digits (take l.item-index l.items)
