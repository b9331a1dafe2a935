use Rattle.std.proofs.Common.{◌≡◌, ◌+◌, drop}
use Rattle.ibos_kinds.specs.Cookies.{name_len}
use Rattle.ibos_cookie.proofs.texts.name_len.Given as goal

-- what was passed and what is left make the name
abbrev pub invariant-loop-i : goal.invariant-loop-i
invariant-loop-i l = l.i + name_len (drop l.i l.text) ≡ name_len l.text
