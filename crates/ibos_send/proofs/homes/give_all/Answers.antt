use Rattle.std.proofs.Common.{◌≡◌, [], ◌++◌, rules, ◌∙◌, ap, subst}
use Rattle.std.proofs.lemmas.List.{append-nil}
use Rattle.ibos_send.proofs.Gathered.{gathered-push}
use Rattle.ibos_send.proofs.Givings.{IsGiving, giving-loan, giving-step}
use Rattle.ibos_send.proofs.Words.{AreAtHand, Homes, gathered, held_of}
use Rattle.ibos_send.proofs.homes.give_all.Goals as goal

pub give-requires : goal.give-requires
give-requires c =
    let left = ap (λ (t : Homes). gathered held_of t) c.in-Some.ensures.items ∙ gathered-push held_of c.pop.new.self.items c.in-Some.place ∙ ap (λ o. gathered held_of c.pop.new.self.items ++ held_of o) c.in-Some-place.is in
    giving-loan (gathered held_of c.args.loans.items) (gathered held_of c.given.loans.items) (gathered held_of c.pop.new.self.items) c.in-Some-place.loan c.args.pool.now c.given.pool left c.given.invariant

pub given-preserved-in-Some-place : goal.given-preserved-in-Some-place
given-preserved-in-Some-place c =
    let left = ap (λ (t : Homes). gathered held_of t) c.in-Some.ensures.items ∙ gathered-push held_of c.pop.new.self.items c.in-Some.place ∙ ap (λ o. gathered held_of c.pop.new.self.items ++ held_of o) c.in-Some-place.is in
    giving-step c.gifts_keep_the_relation.ensures.transmit (gathered held_of c.args.loans.items) (gathered held_of c.given.loans.items) (gathered held_of c.pop.new.self.items) c.in-Some-place.loan c.args.pool.now c.given.pool c.give.new.self left c.given.invariant c.give.ensures.claimed

pub given-preserved : goal.given-preserved
given-preserved c =
    let left = ap (λ (t : Homes). gathered held_of t) c.in-Some.ensures.items ∙ gathered-push held_of c.pop.new.self.items c.in-Some.place ∙ ap (λ o. gathered held_of c.pop.new.self.items ++ held_of o) c.in-None.is ∙ append-nil (gathered held_of c.pop.new.self.items) in
    subst (λ hs. IsGiving (gathered held_of c.args.loans.items) hs c.args.pool.now c.given.pool) left c.given.invariant

pub returns-clause-hands : goal.returns-clause-hands
returns-clause-hands c mem more hands =
    let empty : c.given.loans.items ≡ [] = search rules in
    subst (λ (xs : Homes). AreAtHand c.given.pool mem (gathered held_of xs ++ more)) empty (c.given.invariant.hands mem more hands)
