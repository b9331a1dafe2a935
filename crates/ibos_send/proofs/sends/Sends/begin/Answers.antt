use Rattle.std.proofs.Common.{◌++◌}
use Rattle.ibos_send.proofs.PartedHands.{grouped, regrouped}
use Rattle.ibos_send.proofs.Words.{gathered, held_at_home, held_waiting}
use Rattle.ibos_send.proofs.sends.Sends.begin.Goals as goal

pub returns-clause-hands : goal.returns-clause-hands
returns-clause-hands c mem more fresh hands =
    let hands' = rw (← c.self.view_is) at hands in
    grouped c.begin.new.pool mem (held_at_home c.begin.new.self) (gathered held_waiting c.self.inside.list.waiting) more
    (c.in_ok-begin.ensures.hands mem ((gathered held_waiting c.self.inside.list.waiting) ++ more) fresh (regrouped c.args.pool.now mem (held_at_home c.self.inside.homes) (gathered held_waiting c.self.inside.list.waiting) more hands'))
