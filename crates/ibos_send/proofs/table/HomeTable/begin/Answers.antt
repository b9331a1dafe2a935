use Rattle.std.proofs.Common.{◌++◌, Some, None, sym, ◌∙◌, ap}
use Rattle.ibos_send.proofs.OpenPlaces.{begin-hands, clash_some, opened}
use Rattle.ibos_send.proofs.Words.{Homes, held_at_home}
use Rattle.ibos_send.proofs.table.HomeTable.begin.Goals as goal

pub unreachable-requires : goal.unreachable-requires
unreachable-requires c =
    let open' = opened c.self.inside.places.items c.args.self.now c.args.who c.place_of.result (Some c.in-Some._other) c.index_mut.result.now c.self.view_is c.self.invariant c.place_of.ensures.place c.requires.named c.index_mut.ensures.value (sym c.replace.ensures.value ∙ c.in-Some.is) in
    clash_some _ (sym open'.was ∙ c.requires.new)

pub returns-clause-own : goal.returns-clause-own
returns-clause-own c =
    let open' = opened c.self.inside.places.items c.args.self.now c.args.who c.place_of.result None c.index_mut.result.now c.self.view_is c.self.invariant c.place_of.ensures.place c.requires.named c.index_mut.ensures.value (sym c.in-None.ensures.value) in
    open'.own c.replace.new.self ∙ c.replace.ensures.after ∙ ap (λ (b : Homes). Some b) c.in_ok-homes.ensures.homes

pub returns-clause-others : goal.returns-clause-others
returns-clause-others c =
    let open' = opened c.self.inside.places.items c.args.self.now c.args.who c.place_of.result None c.index_mut.result.now c.self.view_is c.self.invariant c.place_of.ensures.place c.requires.named c.index_mut.ensures.value (sym c.in-None.ensures.value) in
    open'.others c.replace.new.self

pub returns-clause-hands : goal.returns-clause-hands
returns-clause-hands c mem more fresh hands =
    let open' = opened c.self.inside.places.items c.args.self.now c.args.who c.place_of.result None c.index_mut.result.now c.self.view_is c.self.invariant c.place_of.ensures.place c.requires.named c.index_mut.ensures.value (sym c.in-None.ensures.value) in
    rw c.replace.ensures.after (begin-hands c.self.inside.places.items c.args.self.now c.args.who c.place_of.result c.in_ok-homes.homes c.new.new.pool mem more open'
    (c.in_ok-homes.ensures.hands mem (held_at_home c.args.self.now ++ more) fresh hands))
