use Rattle.std.proofs.Common.{◌≡◌, true, arith}
use Rattle.ibos_kinds.specs.Parties.{same}
use Rattle.ibos_flow.proofs.PortPlaces.{checked_own}
use Rattle.ibos_flow.proofs.table.FlowTable.check.Goals as goal

pub returns : goal.returns
returns c =
    let own : same c.in-Some.owner c.args.who ≡ true = grind (arith, c.is_same.ensures, c.if-not-is_same.false) in
    checked_own c.args.self.now c.args.who c.in-Some.owner c.in-Some.flow c.args.heading.now c.admit.result c.in-Some.ensures.owner own c.admit.ensures
