use Rattle.std.proofs.Common.{refl, sym, ◌∙◌, ap}
use Rattle.std.specs.Prelude.{is_some}
use Rattle.ibos_send.proofs.OpenPlaces.{opened}
use Rattle.ibos_send.proofs.table.HomeTable.is_open.Goals as goal

pub returns : goal.returns
returns c =
    let open' = opened c.self.inside.places.items c.args.self.now c.args.who c.place_of.result c.index.result.now c.index.result.now c.self.view_is c.self.invariant c.place_of.ensures.place c.requires c.index.ensures refl in
    c.is_some.ensures ∙ sym (ap (λ x. is_some x) open'.was)
