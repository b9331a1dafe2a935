use Rattle.ibos_model.proofs.Isolated.{isolated}
use Rattle.ibos_model.proofs.isolation.Goals as goal

pub returns : goal.returns
returns c = isolated
