use Rattle.ibos_mediate.proofs.Rings.{names-apart}
use Rattle.ibos_mediate.proofs.laws.names_are_apart.Goals as goal

pub returns : goal.returns
returns c = λ m mem names one other j k memory owned owned'. names-apart m mem names memory one other owned owned' j k
