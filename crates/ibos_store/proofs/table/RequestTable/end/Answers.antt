use Rattle.std.proofs.Common.{◌≢◌, ◌<◌, List, length, Option, None, sym, ◌∙◌, ap, subst, arith}
use Rattle.ibos_kinds.specs.Requests.{Requests}
use Rattle.ibos_store.specs.Stores.{requests_in}
use Rattle.ibos_store.proofs.Places.{requests_within, requests-set_same, requests-set_other}
use Rattle.ibos_store.proofs.table.RequestTable.end.Goals as goal

pub index_mut-requires : goal.index_mut-requires
index_mut-requires c =
    let P : List (Option Requests) → Type 0 = λ t. requests_in t c.args.who ≢ None in
    let within : c.place_of.result < length c.self.inside.places.items = requests_within c.self.inside.places.items c.args.who c.place_of.result c.place_of.ensures.place c.place_of.ensures.tab (subst P (sym c.self.view_is) c.requires) in
    omega (arith, within, c.self.inside.places.ok.0)

pub returns-clause-own : goal.returns-clause-own
returns-clause-own c =
    let P : List (Option Requests) → Type 0 = λ t. requests_in t c.args.who ≢ None in
    requests-set_same c.self.inside.places.items c.args.who c.place_of.result None c.place_of.ensures.place c.place_of.ensures.tab (requests_within c.self.inside.places.items c.args.who c.place_of.result c.place_of.ensures.place c.place_of.ensures.tab (subst P (sym c.self.view_is) c.requires))

pub returns-clause-others : goal.returns-clause-others
returns-clause-others c q other =
    requests-set_other c.self.inside.places.items c.args.who q c.place_of.result None c.place_of.ensures.place c.place_of.ensures.tab other ∙ ap (λ t. requests_in t q) c.self.view_is
