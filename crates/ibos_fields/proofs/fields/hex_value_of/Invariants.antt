use Rattle.std.proofs.Common.{◌≡◌, ◌<◌, ◌^◌, true, take}
use Rattle.std.specs.Char.{is_digit}
use Rattle.std.specs.List.{list_all}
use Rattle.std.specs.Str.Parse.{digits_value}
use Rattle.ibos_fields.proofs.fields.hex_value_of.Given as goal

-- the digits so far
abbrev pub invariant-loop-b : goal.invariant-loop-b
invariant-loop-b l = record {
  digits : list_all (λ b. is_digit b 16) (take l.b-index l.digits) ≡ true;
  value : l.value ≡ digits_value 16 (take l.b-index l.digits);
  small : l.value < 16 ^ l.b-index;
}
