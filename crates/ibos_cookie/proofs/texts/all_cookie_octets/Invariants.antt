use Rattle.std.proofs.Common.{◌≡◌, take}
use Rattle.std.specs.List.{list_all}
use Rattle.ibos_kinds.specs.Cookies.{is_cookie_octet}
use Rattle.ibos_cookie.proofs.texts.all_cookie_octets.Given as goal

abbrev pub invariant-loop-b : goal.invariant-loop-b
invariant-loop-b l = l.all ≡ list_all is_cookie_octet (take l.b-index l.value)
