use Rattle.std.proofs.Common.{Some, ◌∙◌, ap, arith}
use Rattle.ibos_flow.specs.Flows.{Table, bound_by}
use Rattle.ibos_flow.proofs.Places.{bound-set_same, bound-set_other}
use Rattle.ibos_flow.proofs.instances.Instances.begin.Goals as goal

pub returns-clause-own : goal.returns-clause-own
returns-clause-own c = bound-set_same c.self.inside.places.items c.args.who c.place_of.result (Some c.new.result) c.place_of.ensures.place c.requires (omega (arith, c.place_of.ensures.within, c.self.invariant)) ∙ ap (λ b. Some b) c.new.ensures

pub returns-clause-others : goal.returns-clause-others
returns-clause-others c q other = bound-set_other c.self.inside.places.items c.args.who q c.place_of.result (Some c.new.result) c.place_of.ensures.place c.requires other ∙ ap (λ (t : Table). bound_by t q) c.self.view_is
