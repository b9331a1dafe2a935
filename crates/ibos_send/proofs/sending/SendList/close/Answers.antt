use Rattle.std.proofs.Common.{◌≡◌, List, [], ◌++◌, Option, rules, sym, ◌∙◌, ap, subst}
use Rattle.std.proofs.lemmas.List.{append-nil}
use Rattle.ibos_send.proofs.Gathered.{gathered-push}
use Rattle.ibos_send.proofs.Givings.{IsGiving, giving-all, giving-loan, giving-none, giving-step}
use Rattle.ibos_send.proofs.Words.{AreAtHand, SendList, Waiting, gathered, held_waiting}
use Rattle.ibos_send.proofs.sending.SendList.close.Goals as goal

pub closed-init : goal.closed-init
closed-init c =
    let same = ap (λ (l : SendList). gathered held_waiting l.waiting) c.self.view_is in
    subst (λ hs. IsGiving (gathered held_waiting c.args.self.waiting) hs c.args.pool.now c.args.pool.now) (sym same) (giving-all (gathered held_waiting c.args.self.waiting) c.args.pool.now c.requires)

pub give-requires : goal.give-requires
give-requires c =
    let left = ap (λ (t : List (Option Waiting)). gathered held_waiting t) c.in-Some.ensures.items ∙ gathered-push held_waiting c.pop.new.self.items c.in-Some.place ∙ ap (λ o. gathered held_waiting c.pop.new.self.items ++ held_waiting o) c.in-Some-place.is in
    giving-loan (gathered held_waiting c.args.self.waiting) (gathered held_waiting c.closed.waiting.items) (gathered held_waiting c.pop.new.self.items) c.in-Some-place.field-0.loan c.args.pool.now c.closed.pool left c.closed.invariant

pub closed-preserved-in-Some-place : goal.closed-preserved-in-Some-place
closed-preserved-in-Some-place c =
    let left = ap (λ (t : List (Option Waiting)). gathered held_waiting t) c.in-Some.ensures.items ∙ gathered-push held_waiting c.pop.new.self.items c.in-Some.place ∙ ap (λ o. gathered held_waiting c.pop.new.self.items ++ held_waiting o) c.in-Some-place.is in
    giving-step c.gifts_keep_the_relation.ensures.transmit (gathered held_waiting c.args.self.waiting) (gathered held_waiting c.closed.waiting.items) (gathered held_waiting c.pop.new.self.items) c.in-Some-place.field-0.loan c.args.pool.now c.closed.pool c.give.new.self left c.closed.invariant c.give.ensures.claimed

pub closed-preserved : goal.closed-preserved
closed-preserved c =
    let left = ap (λ (t : List (Option Waiting)). gathered held_waiting t) c.in-Some.ensures.items ∙ gathered-push held_waiting c.pop.new.self.items c.in-Some.place ∙ ap (λ o. gathered held_waiting c.pop.new.self.items ++ held_waiting o) c.in-None.is ∙ append-nil (gathered held_waiting c.pop.new.self.items) in
    subst (λ hs. IsGiving (gathered held_waiting c.args.self.waiting) hs c.args.pool.now c.closed.pool) left c.closed.invariant

pub returns-clause-returned : goal.returns-clause-returned
returns-clause-returned c =
    let empty : c.closed.waiting.items ≡ [] = search rules in
    let giving = subst (λ (xs : List (Option Waiting)). IsGiving (gathered held_waiting c.args.self.waiting) (gathered held_waiting xs) c.args.pool.now c.closed.pool) empty c.closed.invariant in
    giving-none (gathered held_waiting c.args.self.waiting) c.args.pool.now c.closed.pool giving

pub returns-clause-hands : goal.returns-clause-hands
returns-clause-hands c mem more hands =
    let empty : c.closed.waiting.items ≡ [] = search rules in
    subst (λ (xs : List (Option Waiting)). AreAtHand c.closed.pool mem (gathered held_waiting xs ++ more)) empty (c.closed.invariant.hands mem more hands)

pub returns-clause-whole : goal.returns-clause-whole
returns-clause-whole c = c.closed.invariant.whole
