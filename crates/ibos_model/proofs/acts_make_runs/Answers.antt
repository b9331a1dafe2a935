use Rattle.ibos_model.proofs.GoingOn.{is_run}
use Rattle.ibos_model.proofs.acts_make_runs.Goals as goal

pub returns : goal.returns
returns c = is_run
