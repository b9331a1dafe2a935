use Rattle.ibos_outcome.proofs.ReadLines.{outcome_same}
use Rattle.ibos_outcome.proofs.laws.texts_tell_one_outcome.Goals as goal

pub returns : goal.returns
returns c = outcome_same
