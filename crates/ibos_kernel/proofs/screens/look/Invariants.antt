use Rattle.std.proofs.Common.{◌≡◌, ◌≤◌}
use Rattle.ibos_kinds.specs.declared.outcome.Head.TheVariants.{Ok}
use Rattle.ibos_frame.specs.ScreenStates.{seen_at}
use Rattle.ibos_model.specs.Screen.{seen_row}
use Rattle.ibos_model.specs.Outcomes.{rows_from}
use Rattle.ibos_kernel.proofs.screens.look.Given as goal

abbrev pub invariant-rows : goal.invariant-rows
invariant-rows l = (l.row ≤ 25) × (l.out.head ≡ Ok) × (l.out.items ≡ rows_from 0 l.row (seen_row (seen_at l.fn.screen)))
