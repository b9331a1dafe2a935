use Rattle.ibos_device.proofs.CardLemmas.{short_for_us}
use Rattle.ibos_device.proofs.model.Model8254xNic.arrive.Goals as goal

pub arrive-requires-clause-size : goal.arrive-requires-clause-size
arrive-requires-clause-size c = short_for_us _ _
