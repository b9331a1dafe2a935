use Rattle.std.proofs.Common.{◌<◌, length, Some, ◌∙◌, ap, arith, vec_len}
use Rattle.ibos_kinds.specs.Requests.{Requests}
use Rattle.ibos_store.specs.Stores.{requests_in}
use Rattle.ibos_store.proofs.Places.{requests-set_same, requests-set_other, requests-same}
use Rattle.ibos_store.proofs.table.RequestTable.begin.Goals as goal

pub returns-clause-own : goal.returns-clause-own
returns-clause-own c =
    let longer = c.reach.new.places in
    let reached : c.place_of-place.result < vec_len longer = c.in_ok-reach.ensures.ok in
    let within : c.place_of-place.result < length longer.items = omega (arith, reached, longer.ok.0) in
    requests-set_same longer.items c.args.who c.place_of-place.result (Some c.new.result) c.place_of-place.ensures.place c.place_of-place.ensures.tab within ∙ ap (λ (r : Requests). Some r) c.new.ensures

pub returns-clause-others : goal.returns-clause-others
returns-clause-others c q other =
    requests-set_other c.reach.new.places.items c.args.who q c.place_of-place.result (Some c.new.result) c.place_of-place.ensures.place c.place_of-place.ensures.tab other ∙ requests-same c.self.inside.places.items c.reach.new.places.items c.reach.ensures.same q ∙ ap (λ t. requests_in t q) c.self.view_is
