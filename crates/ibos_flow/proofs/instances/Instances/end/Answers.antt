use Rattle.std.proofs.Common.{None, ◌∙◌, ap, arith}
use Rattle.ibos_flow.specs.Flows.{Table, bound_by}
use Rattle.ibos_flow.proofs.Places.{bound-set_same, bound-set_other, named_of}
use Rattle.ibos_flow.proofs.instances.Instances.end.Goals as goal

pub place_of-requires : goal.place_of-requires
place_of-requires c = named_of c.args.self.now c.args.who c.requires

pub returns-clause-own : goal.returns-clause-own
returns-clause-own c = bound-set_same c.self.inside.places.items c.args.who c.place_of.result None c.place_of.ensures.place (named_of c.args.self.now c.args.who c.requires) (omega (arith, c.place_of.ensures.within, c.self.invariant))

pub returns-clause-others : goal.returns-clause-others
returns-clause-others c q other = bound-set_other c.self.inside.places.items c.args.who q c.place_of.result None c.place_of.ensures.place (named_of c.args.self.now c.args.who c.requires) other ∙ ap (λ (t : Table). bound_by t q) c.self.view_is
