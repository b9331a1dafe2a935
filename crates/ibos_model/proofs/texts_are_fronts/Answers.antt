use Rattle.ibos_model.proofs.GoingOn.{fronts}
use Rattle.ibos_model.proofs.texts_are_fronts.Goals as goal

pub returns : goal.returns
returns c = fronts
