-- What a set answers: the first rule that it breaks, unless memory is wanting.
use Rattle.std.specs.Prelude.{◌≡◌, List, Option, Some, None, Result, Ok, Err, if◌then◌else◌}
use Rattle.ibos_kinds.specs.declared.cookies.Cookie.{Cookie}
use Rattle.ibos_kinds.specs.declared.rule.Rule.{Rule}
use Rattle.ibos_kinds.specs.declared.rule.Rule.TheVariants.{C3}
use Rattle.ibos_kinds.specs.Cookies.{is_over}
use Rattle.ibos_cookie.specs.declared.jars.CookieFault.{CookieFault}
use Rattle.ibos_cookie.specs.declared.jars.CookieFault.TheVariants.{Denied, Memory}

abbrev pub Answers : Result Unit CookieFault → Option Rule → Type 0
Answers (Ok done) broken = broken ≡ None
Answers (Err (Denied rule)) broken = broken ≡ Some rule
Answers (Err Memory) broken = Unit {0}

-- the rule that a jar breaks which passes a limit
abbrev pub full_rule : List Cookie → Option Rule
full_rule cookies = if is_over cookies then Some C3 else None
