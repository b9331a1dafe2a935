use Rattle.ibos_model.proofs.Denials.{unchanged}
use Rattle.ibos_model.proofs.denials_change_nothing.Goals as goal

pub returns : goal.returns
returns c = unchanged
