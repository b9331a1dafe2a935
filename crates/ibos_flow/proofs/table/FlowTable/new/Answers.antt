use Rattle.std.proofs.Common.{List, sym, subst}
use Rattle.ibos_flow.specs.declared.ports.PortPlace.{PortPlace}
use Rattle.ibos_flow.specs.Ports.{ArePlaced}
use Rattle.ibos_flow.proofs.PortPlaces.{none_placed}
use Rattle.ibos_flow.proofs.table.FlowTable.new.Goals as goal

pub invariant_of-result : goal.invariant_of-result
invariant_of-result c =
    let P : List PortPlace → Type 0 = λ places. ArePlaced c.in_ok-instances.instances places in
    subst P (sym c.in_ok-ports.ensures) (none_placed c.in_ok-instances.instances c.in_ok-instances.ensures)
