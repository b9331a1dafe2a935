use Rattle.std.proofs.Common.{[], subst, sym}
use Rattle.ibos_device.specs.Cards.{regs_of}
use Rattle.ibos_pool.specs.declared.name.Ring.TheVariants.{Receive}
use Rattle.ibos_pool.specs.Names.{Names}
use Rattle.ibos_mediate.specs.Relation.{Mediates}
use Rattle.ibos_cli.proofs.mediator_tests.Desk.take.Goals as goal

pub rx_take-requires-clause-owned : goal.rx_take-requires-clause-owned
rx_take-requires-clause-owned c = let was = c.self.invariant in was.owned Receive

pub invariant_of-self : goal.invariant_of-self
invariant_of-self c =
    let some = c.in-Some.ensures in
    let same = subst (λ (n : Names). Mediates c.self.inside.mediator c.self.inside.mem (regs_of c.self.inside.nic) n) (sym c.rx_take.ensures.same_pool) c.self.invariant in
    let taken = c.parts_keep_the_whole.ensures.taken _ _ _ _ _ some.keeps [] (regs_of c.self.inside.nic) c.rx_take.new.pool same in
    c.gifts_keep_the_relation.ensures.receive _ _ _ _ _ [] _ some.is_pools.0 some.kept c.give.ensures.claimed taken
