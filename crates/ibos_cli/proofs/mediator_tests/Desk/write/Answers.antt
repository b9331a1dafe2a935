use Rattle.std.proofs.Common.{[]}
use Rattle.ibos_cli.proofs.mediator_tests.Desk.write.Goals as goal

pub invariant_of-self : goal.invariant_of-self
invariant_of-self c = c.write.ensures.whole c.self.inside.pool [] c.self.invariant
