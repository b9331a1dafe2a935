use Rattle.ibos_send.proofs.FreshAreas.{fresh-memory}
use Rattle.ibos_send.proofs.laws.areas_are_fresh.Goals as goal

pub returns-clause-memory : goal.returns-clause-memory
returns-clause-memory c = fresh-memory
