use Rattle.ibos_device.specs.Cards.{regs_of}
use Rattle.ibos_cli.proofs.mediator_tests.Desk.transmit.Goals as goal

pub transmit-requires : goal.transmit-requires
transmit-requires g c = let was = c.self.invariant in c.transmissions_keep_the_relation.ensures.condition _ _ (regs_of c.self.inside.nic) was.memory was.device

pub invariant_of-self : goal.invariant_of-self
invariant_of-self g c =
    let done = c.transmit.ensures in
    c.transmissions_keep_the_relation.ensures.whole _ _ _ _ _ _ _ c.transmit.result c.self.invariant done.sent done.sent_memory done.unsent_memory done.registers
