use Rattle.ibos_nic.proofs.DeviceLemmas.{received-leaves, transmitted-leaves}
use Rattle.ibos_nic.proofs.laws.buffers_are_left.Goals as goal

pub returns-clause-received : goal.returns-clause-received
returns-clause-received c = received-leaves c.parts_are_apart.ensures.buffers c.parts_are_apart.ensures.behind

pub returns-clause-transmitted : goal.returns-clause-transmitted
returns-clause-transmitted c = transmitted-leaves c.parts_are_apart.ensures.buffers c.parts_are_apart.ensures.behind c.descriptors_are_their_bytes.ensures.tx_length
