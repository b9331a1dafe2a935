use Rattle.std.proofs.Common.{◌≡◌, ◌≢◌, length, List, None, sym, subst}
use Rattle.ibos_flow.specs.declared.ports.PortPlace.{PortPlace}
use Rattle.ibos_flow.specs.Flows.{Table, bound_by}
use Rattle.ibos_flow.specs.Ports.{ArePlaced}
use Rattle.ibos_flow.proofs.Places.{named_of}
use Rattle.ibos_flow.proofs.PortPlaces.{bound_placed}
use Rattle.ibos_flow.proofs.table.FlowTable.bind.Goals as goal

pub set-requires-clause-who : goal.set-requires-clause-who
set-requires-clause-who c = named_of c.args.self.now c.args.who c.requires

pub invariant_of-self-2 : goal.invariant_of-self-2
invariant_of-self-2 c =
    let who = c.args.who in
    let named = named_of c.args.self.now who c.requires in
    let T : Table → Type 0 = λ t. bound_by t who ≢ None in
    let there : bound_by c.self.inside.instances who ≢ None = subst T (sym c.self.view_is) c.requires in
    let S : List PortPlace → Type 0 = λ places. length places ≡ 32768 in
    let P : List PortPlace → Type 0 = λ places. ArePlaced c.bind.new.self places in
    subst P (sym c.set.ensures.places) (bound_placed c.self.inside.instances c.bind.new.self c.self.inside.ports who c.in_ok-flow.flow c.args.proto c.remote-remote.result named (subst S c.set.ensures.places c.set.ensures.count) c.self.invariant there c.remote-remote.ensures c.in_ok-flow.ensures.answer c.in_ok-flow.ensures.own c.bind.ensures.others)
