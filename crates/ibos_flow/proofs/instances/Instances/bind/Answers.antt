use Rattle.std.proofs.Common.{◌≡◌, ◌≢◌, Option, Some, None, sym, ◌∙◌, ap, subst}
use Rattle.std.specs.Prelude.{IfSome}
use Rattle.std.specs.Option.{option_map}
use Rattle.ibos_kinds.specs.Flows.{Bound, with_flow, bind_answer}
use Rattle.ibos_flow.specs.Flows.{Table, bound_by}
use Rattle.ibos_flow.proofs.Places.{held, not_held, named_of, then_ok}
use Rattle.ibos_flow.proofs.instances.Instances.bind.Goals as goal

pub place_of-requires : goal.place_of-requires
place_of-requires c = named_of c.args.self.now c.args.who c.requires

pub unreachable-requires : goal.unreachable-requires
unreachable-requires c =
    let named = named_of c.args.self.now c.args.who c.requires in
    let none = not_held c.self.inside.places.items c.args.who c.place_of.result c.index_mut.result.now c.place_of.ensures.place named c.self.invariant c.index_mut.ensures.value c.in-None.is in
    c.requires (sym (ap (λ (t : Table). bound_by t c.args.who) c.self.view_is) ∙ none)

pub returns-clause-answer : goal.returns-clause-answer
returns-clause-answer c =
    let named = named_of c.args.self.now c.args.who c.requires in
    let at = held c.self.inside.places.items c.args.who c.place_of.result c.index_mut.result.now c.in-Some.flows c.place_of.ensures.place named c.self.invariant c.index_mut.ensures.value c.in-Some.is in
    let was : bound_by c.args.self.now c.args.who ≡ Some c.in-Some.flows = sym (ap (λ (t : Table). bound_by t c.args.who) c.self.view_is) ∙ at.was in
    let P : Option Bound → Type 0 = λ x. IfSome x (λ bound. c.bind.result ≡ bind_answer bound) in
    subst P (sym was) c.bind.ensures.answer

pub returns-clause-open : goal.returns-clause-open
returns-clause-open c =
    let named = named_of c.args.self.now c.args.who c.requires in
    let at = held c.self.inside.places.items c.args.who c.place_of.result c.index_mut.result.now c.in-Some.flows c.place_of.ensures.place named c.self.invariant c.index_mut.ensures.value c.in-Some.is in
    let P : Option Bound → Type 0 = λ x. x ≢ None in
    subst P (sym (at.own (Some c.bind.new.self))) (λ e. cc)

pub returns-clause-own : goal.returns-clause-own
returns-clause-own c =
    let named = named_of c.args.self.now c.args.who c.requires in
    let at = held c.self.inside.places.items c.args.who c.place_of.result c.index_mut.result.now c.in-Some.flows c.place_of.ensures.place named c.self.invariant c.index_mut.ensures.value c.in-Some.is in
    let was : bound_by c.args.self.now c.args.who ≡ Some c.in-Some.flows = sym (ap (λ (t : Table). bound_by t c.args.who) c.self.view_is) ∙ at.was in
    then_ok c.bind.result (λ is. at.own (Some c.bind.new.self) ∙ ap (λ (b : Bound). Some b) is ∙ sym (ap (λ (x : Option Bound). option_map (with_flow c.args.proto) x) was)) c.bind.ensures.ok

pub returns-clause-others : goal.returns-clause-others
returns-clause-others c q other =
    let named = named_of c.args.self.now c.args.who c.requires in
    let at = held c.self.inside.places.items c.args.who c.place_of.result c.index_mut.result.now c.in-Some.flows c.place_of.ensures.place named c.self.invariant c.index_mut.ensures.value c.in-Some.is in
    at.others (Some c.bind.new.self) q other ∙ ap (λ (t : Table). bound_by t q) c.self.view_is
