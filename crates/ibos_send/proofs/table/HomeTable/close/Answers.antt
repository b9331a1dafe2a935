use Rattle.std.proofs.Common.{◌≡◌, ◌++◌, [], rules, ◌∙◌, ap, subst}
use Rattle.std.proofs.lemmas.List.{append-nil}
use Rattle.ibos_send.proofs.Givings.{IsGiving, giving-held, giving-many}
use Rattle.ibos_send.proofs.Gathered.{gathered-push}
use Rattle.ibos_send.proofs.Words.{AreAtHand, Table, gathered, held_at_home, held_of, homes_of}
use Rattle.ibos_send.proofs.table.HomeTable.close.Goals as goal

pub close-requires : goal.close-requires
close-requires c =
    let left = ap (λ (t : Table). held_at_home t) c.in-Some.ensures.items ∙ gathered-push homes_of c.pop.new.self.items c.in-Some.place ∙ ap (λ o. held_at_home c.pop.new.self.items ++ homes_of o) c.in-Some-place.is in
    giving-held (held_at_home c.args.self) (held_at_home c.closed.places.items) (held_at_home c.pop.new.self.items) (gathered held_of c.in-Some-place.homes) c.args.pool.now c.closed.pool left c.closed.invariant

pub closed-preserved-in-Some-place : goal.closed-preserved-in-Some-place
closed-preserved-in-Some-place c =
    let left = ap (λ (t : Table). held_at_home t) c.in-Some.ensures.items ∙ gathered-push homes_of c.pop.new.self.items c.in-Some.place ∙ ap (λ o. held_at_home c.pop.new.self.items ++ homes_of o) c.in-Some-place.is in
    giving-many (held_at_home c.args.self) (held_at_home c.closed.places.items) (held_at_home c.pop.new.self.items) (gathered held_of c.in-Some-place.homes) c.args.pool.now c.closed.pool c.close.new.pool left c.closed.invariant
    c.close.ensures.returned c.close.ensures.hands c.close.ensures.whole

pub closed-preserved : goal.closed-preserved
closed-preserved c =
    let left = ap (λ (t : Table). held_at_home t) c.in-Some.ensures.items ∙ gathered-push homes_of c.pop.new.self.items c.in-Some.place ∙ ap (λ o. held_at_home c.pop.new.self.items ++ homes_of o) c.in-None.is ∙ append-nil (held_at_home c.pop.new.self.items) in
    subst (λ hs. IsGiving (held_at_home c.args.self) hs c.args.pool.now c.closed.pool) left c.closed.invariant

pub returns-clause-hands : goal.returns-clause-hands
returns-clause-hands c mem more hands =
    let empty : c.closed.places.items ≡ [] = search rules in
    subst (λ (t : Table). AreAtHand c.closed.pool mem (held_at_home t ++ more)) empty (c.closed.invariant.hands mem more hands)
