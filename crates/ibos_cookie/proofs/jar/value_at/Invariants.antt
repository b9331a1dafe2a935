use Rattle.std.proofs.Common.{◌≡◌, ◌+◌}
use Rattle.ibos_cookie.specs.Lines.{table_len, value_at}
use Rattle.ibos_cookie.proofs.jar.value_at.Given as goal

-- what was passed and what is left make the place and the whole
abbrev pub invariant-loop-name : goal.invariant-loop-name
invariant-loop-name l = record {
  place : l.at + value_at l.name-iterator l.left ≡ value_at l.lens.entries l.index;
  whole : l.at + table_len l.name-iterator ≡ table_len l.lens.entries;
}
