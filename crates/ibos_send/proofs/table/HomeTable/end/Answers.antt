use Rattle.std.proofs.Common.{◌++◌, Some, None, sym, ◌∙◌, subst}
use Rattle.ibos_send.proofs.OpenPlaces.{end-hands, open-first, open-hands, opened}
use Rattle.ibos_send.proofs.TablePlaces.{named_of}
use Rattle.ibos_send.proofs.Words.{AreReturned, homes_of}
use Rattle.ibos_send.proofs.table.HomeTable.end.Goals as goal

pub place_of-requires : goal.place_of-requires
place_of-requires c = named_of c.args.self.now c.args.who c.requires.open

pub close-requires : goal.close-requires
close-requires c =
    let open' = opened c.self.inside.places.items c.args.self.now c.args.who c.place_of.result (Some c.in-Some.homes) c.index_mut.result.now c.self.view_is c.self.invariant c.place_of.ensures.place (named_of c.args.self.now c.args.who c.requires.open) c.index_mut.ensures.value (sym c.take.ensures.value ∙ c.in-Some.is) in
    let hands = c.requires.hands in
    (hands.0, open-hands c.self.inside.places.items c.args.self.now c.args.who c.place_of.result c.in-Some.homes open' c.args.pool.now hands.0 hands.1)

pub unreachable-requires : goal.unreachable-requires
unreachable-requires c =
    let open' = opened c.self.inside.places.items c.args.self.now c.args.who c.place_of.result None c.index_mut.result.now c.self.view_is c.self.invariant c.place_of.ensures.place (named_of c.args.self.now c.args.who c.requires.open) c.index_mut.ensures.value (sym c.take.ensures.value ∙ c.in-None.is) in
    c.requires.open open'.was

pub returns-clause-own : goal.returns-clause-own
returns-clause-own c =
    let open' = opened c.self.inside.places.items c.args.self.now c.args.who c.place_of.result (Some c.in-Some.homes) c.index_mut.result.now c.self.view_is c.self.invariant c.place_of.ensures.place (named_of c.args.self.now c.args.who c.requires.open) c.index_mut.ensures.value (sym c.take.ensures.value ∙ c.in-Some.is) in
    rw c.take.ensures.after (open'.own None)

pub returns-clause-others : goal.returns-clause-others
returns-clause-others c q other =
    let open' = opened c.self.inside.places.items c.args.self.now c.args.who c.place_of.result (Some c.in-Some.homes) c.index_mut.result.now c.self.view_is c.self.invariant c.place_of.ensures.place (named_of c.args.self.now c.args.who c.requires.open) c.index_mut.ensures.value (sym c.take.ensures.value ∙ c.in-Some.is) in
    rw c.take.ensures.after (open'.others None q other)

pub returns-clause-returned : goal.returns-clause-returned
returns-clause-returned c =
    let open' = opened c.self.inside.places.items c.args.self.now c.args.who c.place_of.result (Some c.in-Some.homes) c.index_mut.result.now c.self.view_is c.self.invariant c.place_of.ensures.place (named_of c.args.self.now c.args.who c.requires.open) c.index_mut.ensures.value (sym c.take.ensures.value ∙ c.in-Some.is) in
    subst (λ x. AreReturned (homes_of x) c.args.pool.now c.close.new.pool) (sym open'.was) c.close.ensures.returned

pub returns-clause-hands : goal.returns-clause-hands
returns-clause-hands c mem more hands =
    let open' = opened c.self.inside.places.items c.args.self.now c.args.who c.place_of.result (Some c.in-Some.homes) c.index_mut.result.now c.self.view_is c.self.invariant c.place_of.ensures.place (named_of c.args.self.now c.args.who c.requires.open) c.index_mut.ensures.value (sym c.take.ensures.value ∙ c.in-Some.is) in
    rw c.take.ensures.after (end-hands c.self.inside.places.items c.args.self.now c.args.who c.place_of.result (Some c.in-Some.homes) c.close.new.pool mem more open'
    (c.close.ensures.hands mem ((open'.front ++ open'.back) ++ more) (open-first c.self.inside.places.items c.args.self.now c.args.who c.place_of.result c.in-Some.homes open' c.args.pool.now mem more hands)))

pub returns-clause-whole : goal.returns-clause-whole
returns-clause-whole c m mem regs out hands mediates =
    let open' = opened c.self.inside.places.items c.args.self.now c.args.who c.place_of.result (Some c.in-Some.homes) c.index_mut.result.now c.self.view_is c.self.invariant c.place_of.ensures.place (named_of c.args.self.now c.args.who c.requires.open) c.index_mut.ensures.value (sym c.take.ensures.value ∙ c.in-Some.is) in
    c.close.ensures.whole m mem regs out (open-hands c.self.inside.places.items c.args.self.now c.args.who c.place_of.result c.in-Some.homes open' c.args.pool.now mem hands) mediates
