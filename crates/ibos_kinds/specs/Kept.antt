-- Where a vector of bytes keeps them. No public clause cites this module.
use Rattle.std.specs.Prelude.{ℕ, List}
use Rattle.ibos_kinds.specs.declared.bytes.Kept.{Kept}
use Rattle.ibos_kinds.specs.declared.bytes.Kept.TheVariants.{Short, Long}

abbrev pub kept_bytes : Kept → List ℕ
kept_bytes (Short _ short) = short.items
kept_bytes (Long long) = long.items
