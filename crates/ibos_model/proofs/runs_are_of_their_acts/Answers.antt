use Rattle.ibos_model.proofs.GoingOn.{of_its_acts}
use Rattle.ibos_model.proofs.runs_are_of_their_acts.Goals as goal

pub returns : goal.returns
returns c = of_its_acts
