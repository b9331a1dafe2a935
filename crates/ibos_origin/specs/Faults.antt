-- A page, or the first broken rule, unless memory ran out.
use Rattle.std.specs.Prelude.{◌≡◌, Result, Ok, Err}
use Rattle.ibos_kinds.specs.declared.rule.Rule.{Rule}
use Rattle.ibos_origin.specs.declared.page.UrlFault.{UrlFault}
use Rattle.ibos_origin.specs.declared.page.UrlFault.TheVariants.{Denied, Memory}
use Rattle.ibos_origin.specs.Pages.{Page}

abbrev pub Gives : Result Page UrlFault → Result Page Rule → Type 0
Gives (Ok page) wanted = wanted ≡ Ok page
Gives (Err (Denied rule)) wanted = wanted ≡ Err rule
Gives (Err Memory) wanted = Unit {0}
