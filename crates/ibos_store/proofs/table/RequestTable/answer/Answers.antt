use Rattle.std.proofs.Common.{◌≡◌, ◌≢◌, ◌<◌, List, length, Option, None, Some, sym, ◌∙◌, ap, subst, arith}
use Rattle.std.specs.Option.{option_map}
use Rattle.ibos_kinds.specs.Requests.{Requests, without_request}
use Rattle.ibos_store.specs.Stores.{requests_in}
use Rattle.ibos_store.proofs.Places.{answered_once, held_by, requests_within}
use Rattle.ibos_store.proofs.table.RequestTable.answer.Goals as goal

pub index_mut-requires : goal.index_mut-requires
index_mut-requires c =
    let P : List (Option Requests) → Type 0 = λ t. requests_in t c.args.who ≢ None in
    let within : c.place_of.result < length c.self.inside.places.items = requests_within c.self.inside.places.items c.args.who c.place_of.result c.place_of.ensures.place c.place_of.ensures.tab (subst P (sym c.self.view_is) c.requires) in
    omega (arith, within, c.self.inside.places.ok.0)

pub unreachable-requires : goal.unreachable-requires
unreachable-requires c =
    let at = held_by c.self.inside.places.items c.args.self.now c.args.who c.place_of.result c.index_mut.result.now c.self.view_is c.requires c.place_of.ensures.place c.place_of.ensures.tab c.index_mut.ensures.value in
    c.requires (sym (ap (λ t. requests_in t c.args.who) c.self.view_is) ∙ at.was ∙ c.in-None.is)

pub returns-clause-own : goal.returns-clause-own
returns-clause-own c =
    let at = held_by c.self.inside.places.items c.args.self.now c.args.who c.place_of.result c.index_mut.result.now c.self.view_is c.requires c.place_of.ensures.place c.place_of.ensures.tab c.index_mut.ensures.value in
    let was : requests_in c.args.self.now c.args.who ≡ Some c.in-Some.requests = sym (ap (λ t. requests_in t c.args.who) c.self.view_is) ∙ at.was ∙ c.in-Some.is in
    at.own (Some c.answer.new.self) ∙ ap (λ (r : Requests). Some r) c.answer.ensures ∙ sym (ap (λ (x : Option Requests). option_map (without_request c.args.number) x) was)

pub returns-clause-others : goal.returns-clause-others
returns-clause-others c q other =
    let at = held_by c.self.inside.places.items c.args.self.now c.args.who c.place_of.result c.index_mut.result.now c.self.view_is c.requires c.place_of.ensures.place c.place_of.ensures.tab c.index_mut.ensures.value in
    at.others (Some c.answer.new.self) q other ∙ ap (λ t. requests_in t q) c.self.view_is

pub returns-clause-once : goal.returns-clause-once
returns-clause-once c = answered_once c.args.self.now _ c.args.who c.args.number (returns-clause-own c)
