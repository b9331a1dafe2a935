-- Who may act.
use Rattle.std.specs.Prelude.{Option, None}
use Rattle.ibos_kinds.specs.declared.rule.Rule.{Rule}
use Rattle.ibos_kinds.specs.declared.act.Act.{Act}
use Rattle.ibos_kinds.specs.declared.party.Party.{Party}
use Rattle.ibos_kinds.specs.declared.party.Party.TheVariants.{Page}
use Rattle.ibos_kinds.specs.Parties.{actor}
use Rattle.ibos_page.specs.Tabs.{TabTable, admission}

abbrev pub admission_by : TabTable → Party → Option Rule
admission_by t (Page who) = admission t who
admission_by t other = None

-- an act of an instance is admitted while it lives; all other acts are
abbrev pub admission_of : TabTable → Act → Option Rule
admission_of t act = admission_by t (actor act)
