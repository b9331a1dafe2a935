use Rattle.std.proofs.Common.{◌≡◌, Option, Some, sym, ◌∙◌, ap, subst}
use Rattle.std.specs.Prelude.{IfSome}
use Rattle.ibos_kinds.specs.Flows.{Bound}
use Rattle.ibos_flow.specs.Flows.{Table, bound_by}
use Rattle.ibos_flow.proofs.Places.{held, not_held, named_of}
use Rattle.ibos_flow.proofs.instances.Instances.remote.Goals as goal

pub place_of-requires : goal.place_of-requires
place_of-requires c = named_of c.args.self.now c.args.who c.requires

pub unreachable-requires : goal.unreachable-requires
unreachable-requires c =
    let named = named_of c.args.self.now c.args.who c.requires in
    let none = not_held c.self.inside.places.items c.args.who c.place_of.result c.index.result.now c.place_of.ensures.place named c.self.invariant c.index.ensures c.in-None.is in
    c.requires (sym (ap (λ (t : Table). bound_by t c.args.who) c.self.view_is) ∙ none)

pub returns : goal.returns
returns c =
    let named = named_of c.args.self.now c.args.who c.requires in
    let at = held c.self.inside.places.items c.args.who c.place_of.result c.index.result.now c.in-Some.flows c.place_of.ensures.place named c.self.invariant c.index.ensures c.in-Some.is in
    let was : bound_by c.args.self.now c.args.who ≡ Some c.in-Some.flows = sym (ap (λ (t : Table). bound_by t c.args.who) c.self.view_is) ∙ at.was in
    let P : Option Bound → Type 0 = λ x. IfSome x (λ bound. c.remote.result ≡ bound.remote) in
    subst P (sym was) c.remote.ensures
