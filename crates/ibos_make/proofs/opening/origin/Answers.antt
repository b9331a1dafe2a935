use Rattle.std.proofs.Common.{◌∙◌}
use Rattle.ibos_make.proofs.DrillTexts.{origin-spelled}
use Rattle.ibos_make.proofs.opening.origin.Goals as goal

pub returns : goal.returns
returns c = c.in_ok-text.ensures ∙ origin-spelled c.args.tab c.requires
