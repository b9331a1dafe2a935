use Rattle.std.proofs.Common.{◌∙◌, ap}
use Rattle.ibos_frame.specs.ScreenStates.{line_of}
use Rattle.ibos_frame.proofs.ScreenPixels.{line-blank}
use Rattle.ibos_frame.proofs.screen.Screen.new.Goals as goal

pub returns-clause-chrome : goal.returns-clause-chrome
returns-clause-chrome c r low = ap (λ xs. line_of xs r) c.in_ok-new.ensures.chrome ∙ line-blank r low
