use Rattle.std.proofs.Common.{◌++◌, ◌≡◌, ap, sym, ◌∙◌, subst}
use Rattle.ibos_mediate.proofs.Words.{AreAway, Mediated, Receive}
use Rattle.ibos_pool.proofs.GivingLemmas.{hands-closed}
use Rattle.ibos_mediate.proofs.AwayLemmas.{away-both, away-ring, given-lists}
use Rattle.ibos_mediate.proofs.mediator.Mediator.close.Goals as goal

pub give_all-requires : goal.give_all-requires
give_all-requires c =
    let view : c.into_held.result.items ≡ c.args.self.receive.held = c.into_held.ensures ∙ ap (λ (m : Mediated). m.receive.held) c.self.view_is in
    subst (λ xs. AreAway c.args.pool.now c.args.mem.now xs) (sym view) (away-ring c.args.self c.args.mem.now c.args.pool.now c.requires.memory c.requires.owned Receive)

pub give_all-requires-2 : goal.give_all-requires-2
give_all-requires-2 c =
    let both = away-both c.args.self c.args.mem.now c.args.pool.now c.requires.memory c.requires.owned in
    let receive : c.into_held.result.items ≡ c.args.self.receive.held = c.into_held.ensures ∙ ap (λ (m : Mediated). m.receive.held) c.self.view_is in
    let transmit : c.into_held-2.result.items ≡ c.args.self.transmit.held = c.into_held-2.ensures ∙ ap (λ (m : Mediated). m.transmit.held) c.self.view_is in
    let before = subst (λ xs. AreAway c.args.pool.now c.args.mem.now (xs ++ c.args.self.transmit.held)) (sym receive) both in
    subst (λ xs. AreAway c.give_all.new.pool c.give_all.new.mem xs) (sym transmit) (c.give_all.ensures.others c.args.self.transmit.held before)

pub returns-clause-given : goal.returns-clause-given
returns-clause-given c =
    let receive = c.into_held.ensures ∙ ap (λ (m : Mediated). m.receive.held) c.self.view_is in
    let transmit = c.into_held-2.ensures ∙ ap (λ (m : Mediated). m.transmit.held) c.self.view_is in
    given-lists _ _ _ _ _ _ _ _ _ _ receive transmit c.give_all.ensures.given c.give_all-2.ensures.given

pub returns-clause-hands : goal.returns-clause-hands
returns-clause-hands c = λ held.
    let receive = c.into_held.ensures ∙ ap (λ (m : Mediated). m.receive.held) c.self.view_is in
    let transmit = c.into_held-2.ensures ∙ ap (λ (m : Mediated). m.transmit.held) c.self.view_is in
    hands-closed _ _ _ _ _ held (away-both c.args.self c.args.mem.now c.args.pool.now c.requires.memory c.requires.owned) (given-lists _ _ _ _ _ _ _ _ _ _ receive transmit c.give_all.ensures.given c.give_all-2.ensures.given)
