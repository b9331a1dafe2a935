use Rattle.ibos_model.proofs.Isolated.{isolated_over_two}
use Rattle.ibos_model.proofs.isolation_of_two_runs.Goals as goal

pub returns : goal.returns
returns c = isolated_over_two
