use Rattle.ibos_kinds.proofs.PortLemmas.{owned, owners}
use Rattle.ibos_kinds.proofs.ports.ports_are_apart.Goals as goal

pub returns-clause-owned : goal.returns-clause-owned
returns-clause-owned c = owned

pub returns-clause-owners : goal.returns-clause-owners
returns-clause-owners c = owners
