use Rattle.std.proofs.Common.{◌++◌, sym, subst}
use Rattle.ibos_send.proofs.PartedHands.{front_of}
use Rattle.ibos_send.proofs.Words.{AreAtHand, gathered, held_at_home, held_of, held_waiting, left_over}
use Rattle.ibos_send.proofs.sends.Sends.bring_back.Goals as goal

pub give_left-requires : goal.give_left-requires
give_left-requires c =
    let are = c.requires.hands in
    let hands = are.1 in
    let hands' = rw (← c.self.view_is) at hands in
    let all = c.put-left.ensures.hands c.args.pool.now are.0 (gathered held_waiting c.self.inside.list.waiting) hands' in
    let left = front_of c.args.pool.now are.0 (held_of (left_over c.come_back-post.result.who c.come_back-post.result.buffer c.args.loan c.self.inside.homes)) (held_at_home c.put-left.new.self ++ (gathered held_waiting c.self.inside.list.waiting)) all in
    let own = subst (λ o. AreAtHand c.args.pool.now are.0 (held_of o)) (sym c.put-left.ensures.left) left in
    (are.0, own)

pub returns-in_err-tell_return-clause-owned : goal.returns-in_err-tell_return-clause-owned
returns-in_err-tell_return-clause-owned c m mem ring memory hands owned =
    let hands' = rw (← c.self.view_is) at hands in
    let all = c.put-left.ensures.hands c.args.pool.now mem (gathered held_waiting c.self.inside.list.waiting) hands' in
    let left = front_of c.args.pool.now mem (held_of (left_over c.come_back-post.result.who c.come_back-post.result.buffer c.args.loan c.self.inside.homes)) (held_at_home c.put-left.new.self ++ (gathered held_waiting c.self.inside.list.waiting)) all in
    let own = subst (λ o. AreAtHand c.args.pool.now mem (held_of o)) (sym c.put-left.ensures.left) left in
    c.give_left.ensures.owned m mem ring memory own owned

pub returns-in_err-tell_return-clause-unheld : goal.returns-in_err-tell_return-clause-unheld
returns-in_err-tell_return-clause-unheld c m mem more hands unheld =
    let hands' = rw (← c.self.view_is) at hands in
    let all = c.put-left.ensures.hands c.args.pool.now mem (gathered held_waiting c.self.inside.list.waiting) hands' in
    let left = front_of c.args.pool.now mem (held_of (left_over c.come_back-post.result.who c.come_back-post.result.buffer c.args.loan c.self.inside.homes)) (held_at_home c.put-left.new.self ++ (gathered held_waiting c.self.inside.list.waiting)) all in
    let own = subst (λ o. AreAtHand c.args.pool.now mem (held_of o)) (sym c.put-left.ensures.left) left in
    c.give_left.ensures.unheld m mem more own unheld

pub returns-clause-owned : goal.returns-clause-owned
returns-clause-owned c m mem ring memory hands owned =
    let hands' = rw (← c.self.view_is) at hands in
    let all = c.put-left.ensures.hands c.args.pool.now mem (gathered held_waiting c.self.inside.list.waiting) hands' in
    let left = front_of c.args.pool.now mem (held_of (left_over c.come_back-post.result.who c.come_back-post.result.buffer c.args.loan c.self.inside.homes)) (held_at_home c.put-left.new.self ++ (gathered held_waiting c.self.inside.list.waiting)) all in
    let own = subst (λ o. AreAtHand c.args.pool.now mem (held_of o)) (sym c.put-left.ensures.left) left in
    c.give_left.ensures.owned m mem ring memory own owned

pub returns-clause-unheld : goal.returns-clause-unheld
returns-clause-unheld c m mem more hands unheld =
    let hands' = rw (← c.self.view_is) at hands in
    let all = c.put-left.ensures.hands c.args.pool.now mem (gathered held_waiting c.self.inside.list.waiting) hands' in
    let left = front_of c.args.pool.now mem (held_of (left_over c.come_back-post.result.who c.come_back-post.result.buffer c.args.loan c.self.inside.homes)) (held_at_home c.put-left.new.self ++ (gathered held_waiting c.self.inside.list.waiting)) all in
    let own = subst (λ o. AreAtHand c.args.pool.now mem (held_of o)) (sym c.put-left.ensures.left) left in
    c.give_left.ensures.unheld m mem more own unheld
