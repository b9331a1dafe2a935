use Rattle.ibos_model.proofs.Isolated.{carried}
use Rattle.ibos_model.proofs.isolation_of_each_entry.Goals as goal

pub returns : goal.returns
returns c = carried
