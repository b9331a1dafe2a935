use Rattle.std.proofs.Common.{◌≡◌, ◌++◌, [], rules, ◌∙◌, ap, subst}
use Rattle.std.proofs.lemmas.List.{append-nil}
use Rattle.ibos_recv.proofs.Givings.{IsGiving, giving-held, giving-many}
use Rattle.ibos_recv.proofs.TablePlaces.{held-push}
use Rattle.ibos_recv.proofs.Words.{AreAtHand, Inboxes, held_at, held_in}
use Rattle.ibos_recv.proofs.inboxes.Inboxes.close.Goals as goal

pub close-requires : goal.close-requires
close-requires c =
    let left = ap (λ (t : Inboxes). held_in t) c.in-Some.ensures.items ∙ held-push c.pop.new.self.items c.in-Some.place ∙ ap (λ o. held_in c.pop.new.self.items ++ held_at o) c.in-Some-place.is in
    giving-held (held_in c.args.self) (held_in c.closed.places.items) (held_in c.pop.new.self.items) c.in-Some-place.inbox.held c.args.pool.now c.closed.pool left c.closed.invariant

pub closed-preserved-in-Some-place : goal.closed-preserved-in-Some-place
closed-preserved-in-Some-place c =
    let left = ap (λ (t : Inboxes). held_in t) c.in-Some.ensures.items ∙ held-push c.pop.new.self.items c.in-Some.place ∙ ap (λ o. held_in c.pop.new.self.items ++ held_at o) c.in-Some-place.is in
    giving-many (held_in c.args.self) (held_in c.closed.places.items) (held_in c.pop.new.self.items) c.in-Some-place.inbox.held c.args.pool.now c.closed.pool c.close.new.pool left c.closed.invariant
    c.close.ensures.returned c.close.ensures.hands c.close.ensures.whole

pub closed-preserved : goal.closed-preserved
closed-preserved c =
    let left = ap (λ (t : Inboxes). held_in t) c.in-Some.ensures.items ∙ held-push c.pop.new.self.items c.in-Some.place ∙ ap (λ o. held_in c.pop.new.self.items ++ held_at o) c.in-None.is ∙ append-nil (held_in c.pop.new.self.items) in
    subst (λ hs. IsGiving (held_in c.args.self) hs c.args.pool.now c.closed.pool) left c.closed.invariant

pub returns-clause-hands : goal.returns-clause-hands
returns-clause-hands c mem more hands =
    let empty : c.closed.places.items ≡ [] = search rules in
    subst (λ (t : Inboxes). AreAtHand c.closed.pool mem (held_in t ++ more)) empty (c.closed.invariant.hands mem more hands)
