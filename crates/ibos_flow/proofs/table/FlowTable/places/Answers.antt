use Rattle.std.proofs.Common.{List, sym, subst}
use Rattle.ibos_flow.specs.declared.ports.PortPlace.{PortPlace}
use Rattle.ibos_flow.specs.Flows.{Table}
use Rattle.ibos_flow.specs.Ports.{ArePlaces, ArePlaced}
use Rattle.ibos_flow.proofs.PortPlaces.{places_are}
use Rattle.ibos_flow.proofs.table.FlowTable.places.Goals as goal

pub returns : goal.returns
returns c =
    let P : List PortPlace → Type 0 = λ places. ArePlaced c.self.inside.instances places in
    let placed : ArePlaced c.self.inside.instances c.as_slice.result.now = subst P (sym c.as_slice.ensures.value) c.self.invariant in
    let Q : Table → Type 0 = λ t. ArePlaces t c.as_slice.result.now in
    subst Q c.self.view_is (places_are c.self.inside.instances c.as_slice.result.now c.as_slice.ensures.count placed)
