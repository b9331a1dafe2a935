use Rattle.ibos_model.proofs.GoingOn.{goes_on}
use Rattle.ibos_model.proofs.runs_go_on.Goals as goal

pub returns : goal.returns
returns c = goes_on
