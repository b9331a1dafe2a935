use Rattle.std.proofs.Common.{◌∙◌}
use Rattle.ibos_make.proofs.DrillTexts.{key-spelled}
use Rattle.ibos_make.proofs.rounds.key_name.Goals as goal

pub returns : goal.returns
returns c = c.in_ok-name.ensures ∙ key-spelled c.args.byte
