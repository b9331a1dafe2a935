use Rattle.ibos_device.specs.Cards.{regs_of}
use Rattle.ibos_cli.proofs.mediator_tests.Desk.arrive.Goals as goal

pub arrive-requires : goal.arrive-requires
arrive-requires g c = let was = c.self.invariant in c.arrivals_keep_the_relation.ensures.condition _ _ (regs_of c.self.inside.nic) was.memory was.device

pub invariant_of-self : goal.invariant_of-self
invariant_of-self g c =
    let done = c.arrive.ensures in
    c.arrivals_keep_the_relation.ensures.whole _ _ _ _ _ _ _ _ _ _ c.arrive.result c.self.invariant done.verdict done.heard done.unheard_memory done.registers
