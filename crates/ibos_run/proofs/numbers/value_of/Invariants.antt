use Rattle.std.proofs.Common.{◌≡◌, ◌<◌, ◌^◌, true, take}
use Rattle.std.specs.List.{list_all}
use Rattle.ibos_fields.specs.Fields.{is_digit, value_of}
use Rattle.ibos_run.proofs.numbers.value_of.Given as goal

-- the digits so far
abbrev pub invariant-loop-b : goal.invariant-loop-b
invariant-loop-b l = record {
  digits : list_all is_digit (take l.b-index l.word) ≡ true;
  value : l.value ≡ value_of (take l.b-index l.word);
  small : l.value < 10 ^ l.b-index;
}
