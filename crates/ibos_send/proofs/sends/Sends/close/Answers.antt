use Rattle.ibos_send.proofs.PartedHands.{front_of}
use Rattle.ibos_send.proofs.Words.{gathered, held_at_home, held_waiting}
use Rattle.ibos_send.proofs.sends.Sends.close.Goals as goal

pub close-requires : goal.close-requires
close-requires c =
    let hands = c.requires.1 in
    let hands' = rw (← c.self.view_is) at hands in
    (c.requires.0, front_of c.args.pool.now c.requires.0 (held_at_home c.self.inside.homes) (gathered held_waiting c.self.inside.list.waiting) hands')

pub returns-clause-whole : goal.returns-clause-whole
returns-clause-whole c m mem regs out hands mediates =
    let hands' = rw (← c.self.view_is) at hands in
    c.close-2.ensures.whole m mem regs out (c.close.ensures.hands mem (gathered held_waiting c.self.inside.list.waiting) hands')
    (c.close.ensures.whole m mem regs out (front_of c.args.pool.now mem (held_at_home c.self.inside.homes) (gathered held_waiting c.self.inside.list.waiting) hands') mediates)
