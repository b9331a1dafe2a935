use Rattle.ibos_flow.proofs.Places.{named_of}
use Rattle.ibos_flow.proofs.PortPlaces.{ended_placed}
use Rattle.ibos_flow.proofs.table.FlowTable.end.Goals as goal

pub unbind_all-requires : goal.unbind_all-requires
unbind_all-requires c = named_of c.args.self.now c.args.who c.requires

pub invariant_of-self : goal.invariant_of-self
invariant_of-self c = ended_placed c.self.inside.instances c.end.new.self c.self.inside.ports c.unbind_all.new.self c.args.who (named_of c.args.self.now c.args.who c.requires) c.self.invariant c.end.ensures.own c.end.ensures.others c.unbind_all.ensures.own c.unbind_all.ensures.others
