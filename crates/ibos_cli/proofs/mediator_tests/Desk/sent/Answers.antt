use Rattle.std.proofs.Common.{[]}
use Rattle.ibos_device.specs.Cards.{regs_of}
use Rattle.ibos_pool.specs.declared.name.Ring.TheVariants.{Transmit}
use Rattle.ibos_cli.proofs.mediator_tests.Desk.sent.Goals as goal

pub give-requires : goal.give-requires
give-requires c = let was = c.self.invariant in c.in-Some.ensures.is_pools c.self.inside.pool (was.owned Transmit)

pub invariant_of-self : goal.invariant_of-self
invariant_of-self c =
    let some = c.in-Some.ensures in
    let was = c.self.invariant in
    let taken = c.parts_keep_the_whole.ensures.taken [] _ _ _ _ c.tx_take.ensures.keeps [] (regs_of c.self.inside.nic) c.self.inside.pool was in
    c.gifts_keep_the_relation.ensures.transmit _ _ _ _ _ [] _ (some.is_pools c.self.inside.pool (was.owned Transmit)) some.kept c.give.ensures.claimed taken
