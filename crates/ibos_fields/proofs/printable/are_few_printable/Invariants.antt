use Rattle.std.proofs.Common.{◌≡◌, take}
use Rattle.std.specs.List.{list_all}
use Rattle.ibos_fields.specs.Printable.{is_printable}
use Rattle.ibos_fields.proofs.printable.are_few_printable.Given as goal

abbrev pub invariant-loop-b : goal.invariant-loop-b
invariant-loop-b l = l.all ≡ list_all is_printable (take l.b-index l.text)
