use Rattle.std.proofs.Common.{◌∙◌, Some, ap}
use Rattle.ibos_frame.specs.ScreenStates.{pixel_in}
use Rattle.ibos_frame.proofs.ScreenPixels.{pixel-blank}
use Rattle.ibos_frame.proofs.screen.Screen.begin.Goals as goal

pub returns-clause-blank : goal.returns-clause-blank
returns-clause-blank c r col rows columns =
    ap (λ x. pixel_in x r col) (c.in_ok-begin.ensures.own ∙ ap (λ xs. Some xs) c.in_ok-content.ensures) ∙ pixel-blank r col rows columns
