use Rattle.std.proofs.Common.{◌≢◌, List, None, sym, subst}
use Rattle.ibos_flow.specs.declared.ports.PortPlace.{PortPlace}
use Rattle.ibos_flow.specs.Flows.{Table, bound_by}
use Rattle.ibos_flow.specs.Ports.{ArePlaced}
use Rattle.ibos_flow.proofs.Places.{named_of}
use Rattle.ibos_flow.proofs.PortPlaces.{closed_placed}
use Rattle.ibos_flow.proofs.table.FlowTable.close.Goals as goal

pub unbind-requires-clause-who : goal.unbind-requires-clause-who
unbind-requires-clause-who c = named_of c.args.self.now c.args.who c.requires

pub invariant_of-self-2 : goal.invariant_of-self-2
invariant_of-self-2 c =
    let who = c.args.who in
    let named = named_of c.args.self.now who c.requires in
    let T : Table → Type 0 = λ t. bound_by t who ≢ None in
    let there : bound_by c.self.inside.instances who ≢ None = subst T (sym c.self.view_is) c.requires in
    let P : List PortPlace → Type 0 = λ places. ArePlaced c.close.new.self places in
    subst P (sym c.unbind.ensures) (closed_placed c.self.inside.instances c.close.new.self c.self.inside.ports who c.args.flow named c.in_ok-close.ensures.few c.self.invariant there c.in_ok-close.ensures.own c.close.ensures.others)
