use Rattle.ibos_model.proofs.JarSteps.{jar-set}
use Rattle.ibos_model.proofs.sets_are_put.Goals as goal

pub returns : goal.returns
returns c = jar-set
