use Rattle.ibos_kernel.proofs.DamagedChrome.{all_damaged}
use Rattle.ibos_kernel.proofs.parts.Parts.compose.Goals as goal

pub redraw-requires-clause-rest : goal.redraw-requires-clause-rest
redraw-requires-clause-rest c r low none = absurd (all_damaged r none)
