use Rattle.std.proofs.Common.{◌≡◌, List, [], ◌++◌, rules, subst}
use Rattle.ibos_recv.proofs.Givings.{giving-loan, giving-step}
use Rattle.ibos_recv.proofs.Words.{AreAtHand, Held}
use Rattle.ibos_recv.proofs.inbox.give_all.Goals as goal

pub give-requires : goal.give-requires
give-requires c = giving-loan c.args.loans.items c.given.loans.items c.pop.new.self.items c.in-Some.loan c.args.pool.now c.given.pool c.in-Some.ensures.items c.given.invariant

pub given-preserved : goal.given-preserved
given-preserved c = giving-step c.gifts_keep_the_relation.ensures.transmit c.args.loans.items c.given.loans.items c.pop.new.self.items c.in-Some.loan c.args.pool.now c.given.pool c.give.new.self c.in-Some.ensures.items c.given.invariant c.give.ensures.claimed

pub returns-clause-hands : goal.returns-clause-hands
returns-clause-hands c mem more hands =
    let empty : c.given.loans.items ≡ [] = search rules in
    subst (λ (xs : List Held). AreAtHand c.given.pool mem (xs ++ more)) empty (c.given.invariant.hands mem more hands)
