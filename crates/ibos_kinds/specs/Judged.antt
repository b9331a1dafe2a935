-- What a whole frame says: its heading, or the first rule that it breaks.
use Rattle.std.specs.Prelude.{ℕ, List, Option, Some, None, Result, Ok, Err}
use Rattle.ibos_kinds.specs.declared.names.Local.{Local}
use Rattle.ibos_kinds.specs.declared.names.Dir.{Dir}
use Rattle.ibos_kinds.specs.declared.names.Heading.{Heading}
use Rattle.ibos_kinds.specs.declared.rule.Rule.{Rule}
use Rattle.ibos_kinds.specs.Frames.{first_broken, heading_of}

-- a broken rule, or else the value
abbrev pub unless_broken : {A : Type 0} → Option Rule → A → Result A Rule
unless_broken None x = Ok x
unless_broken (Some rule) x = Err rule

abbrev pub judged : Local → Dir → List ℕ → Result Heading Rule
judged local dir w = unless_broken (first_broken local dir w) (heading_of dir w)
