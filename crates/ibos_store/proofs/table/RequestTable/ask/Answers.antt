use Rattle.std.proofs.Common.{◌≡◌, ◌≢◌, ◌<◌, List, length, Option, None, Some, sym, ◌∙◌, ap, subst, arith}
use Rattle.std.specs.Prelude.{IfSome, ◌^◌}
use Rattle.std.specs.Option.{option_map}
use Rattle.ibos_kinds.specs.Requests.{Requests, with_ask}
use Rattle.ibos_store.specs.Answers.{Answers}
use Rattle.ibos_kinds.specs.Labels.{ask_answer}
use Rattle.ibos_store.specs.Stores.{requests_in}
use Rattle.ibos_store.proofs.Places.{held_by, requests_within}
use Rattle.ibos_store.proofs.Putting.{then_ok}
use Rattle.ibos_store.proofs.table.RequestTable.ask.Goals as goal

pub index_mut-requires : goal.index_mut-requires
index_mut-requires c =
    let P : List (Option Requests) → Type 0 = λ t. requests_in t c.args.who ≢ None in
    let within : c.place_of.result < length c.self.inside.places.items = requests_within c.self.inside.places.items c.args.who c.place_of.result c.place_of.ensures.place c.place_of.ensures.tab (subst P (sym c.self.view_is) c.requires.begun) in
    omega (arith, within, c.self.inside.places.ok.0)

pub unreachable-requires : goal.unreachable-requires
unreachable-requires c =
    let at = held_by c.self.inside.places.items c.args.self.now c.args.who c.place_of.result c.index_mut.result.now c.self.view_is c.requires.begun c.place_of.ensures.place c.place_of.ensures.tab c.index_mut.ensures.value in
    c.requires.begun (sym (ap (λ t. requests_in t c.args.who) c.self.view_is) ∙ at.was ∙ c.in-None.is)

pub ask-requires : goal.ask-requires
ask-requires c =
    let at = held_by c.self.inside.places.items c.args.self.now c.args.who c.place_of.result c.index_mut.result.now c.self.view_is c.requires.begun c.place_of.ensures.place c.place_of.ensures.tab c.index_mut.ensures.value in
    let was : requests_in c.args.self.now c.args.who ≡ Some c.in-Some.requests = sym (ap (λ t. requests_in t c.args.who) c.self.view_is) ∙ at.was ∙ c.in-Some.is in
    let P : Option Requests → Type 0 = λ x. IfSome x (λ r. r.count < 2 ^ 31) in
    subst P was c.requires.few

pub returns-clause-answer : goal.returns-clause-answer
returns-clause-answer c =
    let at = held_by c.self.inside.places.items c.args.self.now c.args.who c.place_of.result c.index_mut.result.now c.self.view_is c.requires.begun c.place_of.ensures.place c.place_of.ensures.tab c.index_mut.ensures.value in
    let was : requests_in c.args.self.now c.args.who ≡ Some c.in-Some.requests = sym (ap (λ t. requests_in t c.args.who) c.self.view_is) ∙ at.was ∙ c.in-Some.is in
    let P : Option Requests → Type 0 = λ x. IfSome x (λ r. Answers c.ask.result (ask_answer c.args.key.now r)) in
    subst P (sym was) c.ask.ensures.answer

pub returns-clause-own : goal.returns-clause-own
returns-clause-own c =
    let at = held_by c.self.inside.places.items c.args.self.now c.args.who c.place_of.result c.index_mut.result.now c.self.view_is c.requires.begun c.place_of.ensures.place c.place_of.ensures.tab c.index_mut.ensures.value in
    let was : requests_in c.args.self.now c.args.who ≡ Some c.in-Some.requests = sym (ap (λ t. requests_in t c.args.who) c.self.view_is) ∙ at.was ∙ c.in-Some.is in
    then_ok c.ask.result (λ is. at.own (Some c.ask.new.self) ∙ ap (λ (r : Requests). Some r) is ∙ sym (ap (λ (x : Option Requests). option_map (with_ask c.args.key.now) x) was)) c.ask.ensures.ok

pub returns-clause-others : goal.returns-clause-others
returns-clause-others c q other =
    let at = held_by c.self.inside.places.items c.args.self.now c.args.who c.place_of.result c.index_mut.result.now c.self.view_is c.requires.begun c.place_of.ensures.place c.place_of.ensures.tab c.index_mut.ensures.value in
    at.others (Some c.ask.new.self) q other ∙ ap (λ t. requests_in t q) c.self.view_is
