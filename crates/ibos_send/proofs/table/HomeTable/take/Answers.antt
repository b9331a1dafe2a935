use Rattle.std.proofs.Common.{◌<◌, length, Some, None, sym, ◌∙◌, ap, subst, arith}
use Rattle.ibos_send.proofs.HomeSteps.{set-others, take-hands, taken-own}
use Rattle.ibos_send.proofs.OpenPlaces.{opened, still-open, still-sized}
use Rattle.std.proofs.lemmas.List.{length-set}
use Rattle.ibos_send.proofs.TablePlaces.{named_of}
use Rattle.ibos_send.proofs.Words.{AreAtHand, held_at_home, held_of, home_at}
use Rattle.std.specs.Prelude.{slice_set, ◌++◌}
use Rattle.ibos_send.proofs.table.HomeTable.take.Goals as goal

pub place_of-requires : goal.place_of-requires
place_of-requires c = named_of c.args.self.now c.args.who c.requires.open

pub unreachable-requires : goal.unreachable-requires
unreachable-requires c =
    let open' = opened c.self.inside.places.items c.args.self.now c.args.who c.place_of.result None c.index_mut.result.now c.self.view_is c.self.invariant c.place_of.ensures.place (named_of c.args.self.now c.args.who c.requires.open) c.index_mut.ensures.value c.in-None.is in
    c.requires.open open'.was

pub returns-clause-taken : goal.returns-clause-taken
returns-clause-taken c =
    let open' = opened c.self.inside.places.items c.args.self.now c.args.who c.place_of.result (Some c.in-Some.homes) c.index_mut.result.now c.self.view_is c.self.invariant c.place_of.ensures.place (named_of c.args.self.now c.args.who c.requires.open) c.index_mut.ensures.value c.in-Some.is in
    c.take.ensures.taken ∙ sym (ap (λ x. home_at x c.args.buffer) open'.was)

pub returns-clause-own : goal.returns-clause-own
returns-clause-own c =
    let open' = opened c.self.inside.places.items c.args.self.now c.args.who c.place_of.result (Some c.in-Some.homes) c.index_mut.result.now c.self.view_is c.self.invariant c.place_of.ensures.place (named_of c.args.self.now c.args.who c.requires.open) c.index_mut.ensures.value c.in-Some.is in
    taken-own c.self.inside.places.items c.args.self.now c.args.who c.place_of.result c.in-Some.homes c.args.buffer open' c.take.new.self c.take.ensures.after

pub returns-clause-others : goal.returns-clause-others
returns-clause-others c =
    let open' = opened c.self.inside.places.items c.args.self.now c.args.who c.place_of.result (Some c.in-Some.homes) c.index_mut.result.now c.self.view_is c.self.invariant c.place_of.ensures.place (named_of c.args.self.now c.args.who c.requires.open) c.index_mut.ensures.value c.in-Some.is in
    set-others c.self.inside.places.items c.args.self.now c.args.who c.place_of.result c.in-Some.homes c.args.buffer open' c.take.new.self None c.take.ensures.after

pub returns-clause-open : goal.returns-clause-open
returns-clause-open c =
    let open' = opened c.self.inside.places.items c.args.self.now c.args.who c.place_of.result (Some c.in-Some.homes) c.index_mut.result.now c.self.view_is c.self.invariant c.place_of.ensures.place (named_of c.args.self.now c.args.who c.requires.open) c.index_mut.ensures.value c.in-Some.is in
    still-open c.self.inside.places.items c.args.self.now c.args.who c.place_of.result c.in-Some.homes open' c.take.new.self

pub returns-clause-sizes : goal.returns-clause-sizes
returns-clause-sizes c q =
    let open' = opened c.self.inside.places.items c.args.self.now c.args.who c.place_of.result (Some c.in-Some.homes) c.index_mut.result.now c.self.view_is c.self.invariant c.place_of.ensures.place (named_of c.args.self.now c.args.who c.requires.open) c.index_mut.ensures.value c.in-Some.is in
    still-sized c.self.inside.places.items c.args.self.now c.args.who c.place_of.result c.in-Some.homes open' c.take.new.self q (ap length c.take.ensures.after ∙ length-set c.in-Some.homes c.args.buffer None)

pub returns-clause-hands : goal.returns-clause-hands
returns-clause-hands c names mem more hands =
    let open' = opened c.self.inside.places.items c.args.self.now c.args.who c.place_of.result (Some c.in-Some.homes) c.index_mut.result.now c.self.view_is c.self.invariant c.place_of.ensures.place (named_of c.args.self.now c.args.who c.requires.open) c.index_mut.ensures.value c.in-Some.is in
    let size = c.take.ensures.size in
    let below : c.args.buffer < length c.in-Some.homes = omega (arith, size, c.requires.buffer) in
    subst (λ o. AreAtHand names mem (held_at_home (slice_set c.self.inside.places.items c.place_of.result (Some c.take.new.self)) ++ (held_of o ++ more))) (sym (ap (λ x. home_at x c.args.buffer) open'.was))
    (take-hands c.self.inside.places.items c.args.self.now c.args.who c.place_of.result c.in-Some.homes c.args.buffer open' names mem below c.take.new.self c.take.ensures.after more hands)
