use Rattle.ibos_nic.proofs.SlotLemmas.{distance-reaches, distance-slot, slot-add, slot-next, slots-differ}
use Rattle.ibos_nic.proofs.laws.slots_go_around.Goals as goal

pub returns-clause-next : goal.returns-clause-next
returns-clause-next c = slot-next

pub returns-clause-further : goal.returns-clause-further
returns-clause-further c = slot-add

pub returns-clause-distance : goal.returns-clause-distance
returns-clause-distance c = distance-slot

pub returns-clause-reached : goal.returns-clause-reached
returns-clause-reached c = distance-reaches

pub returns-clause-apart : goal.returns-clause-apart
returns-clause-apart c = slots-differ
