use Rattle.std.proofs.Common.{◌++◌}
use Rattle.ibos_send.proofs.PartedHands.{front_of, grouped, regrouped}
use Rattle.ibos_send.proofs.Words.{gathered, held_at_home, held_waiting}
use Rattle.ibos_send.proofs.sends.Sends.end.Goals as goal

pub end-requires-clause-hands : goal.end-requires-clause-hands
end-requires-clause-hands c =
    let are = c.requires.hands in
    let hands = are.1 in
    let hands' = rw (← c.self.view_is) at hands in
    (are.0, front_of c.args.pool.now are.0 (held_at_home c.self.inside.homes) (gathered held_waiting c.self.inside.list.waiting) hands')

pub returns-clause-hands : goal.returns-clause-hands
returns-clause-hands c mem more hands =
    let hands' = rw (← c.self.view_is) at hands in
    grouped c.end.new.pool mem (held_at_home c.end.new.self) (gathered held_waiting c.self.inside.list.waiting) more
    (c.end.ensures.hands mem ((gathered held_waiting c.self.inside.list.waiting) ++ more) (regrouped c.args.pool.now mem (held_at_home c.self.inside.homes) (gathered held_waiting c.self.inside.list.waiting) more hands'))

pub returns-clause-whole : goal.returns-clause-whole
returns-clause-whole c m mem regs out hands mediates =
    let hands' = rw (← c.self.view_is) at hands in
    c.end.ensures.whole m mem regs out (front_of c.args.pool.now mem (held_at_home c.self.inside.homes) (gathered held_waiting c.self.inside.list.waiting) hands') mediates
