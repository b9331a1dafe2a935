use Rattle.std.proofs.Common.{Some, None, sym, ◌∙◌, ap}
use Rattle.ibos_send.proofs.OpenPlaces.{opened}
use Rattle.ibos_send.proofs.Words.{home_at}
use Rattle.ibos_send.proofs.table.HomeTable.get.Goals as goal

pub returns-in-Some : goal.returns-in-Some
returns-in-Some c =
    let open' = opened c.self.inside.places.items c.args.self.now c.args.who c.place_of.result (Some c.in-Some.homes) c.index.result.now c.self.view_is c.self.invariant c.place_of.ensures.place c.requires.named c.index.ensures c.in-Some.is in
    c.get.ensures ∙ sym (ap (λ x. home_at x c.args.buffer) open'.was)

pub returns-in-None : goal.returns-in-None
returns-in-None c =
    let open' = opened c.self.inside.places.items c.args.self.now c.args.who c.place_of.result None c.index.result.now c.self.view_is c.self.invariant c.place_of.ensures.place c.requires.named c.index.ensures c.in-None.is in
    sym (ap (λ x. home_at x c.args.buffer) open'.was)
