use Rattle.std.proofs.Common.{◌∙◌}
use Rattle.ibos_kernel.proofs.KernelSteps.{pixels_seen}
use Rattle.ibos_kernel.proofs.kernel.Kernel.pixels.Goals as goal

pub returns-clause-screen : goal.returns-clause-screen
returns-clause-screen c = λ J stands r col low left. c.pixels.ensures.pixels r col low left
    ∙ pixels_seen J c.args.self.now c.self.inside.parts c.self.inside.net c.self.inside.acts c.self.inside.usable c.self.view_is stands r col low left
