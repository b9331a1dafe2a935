use Rattle.ibos_recv.proofs.FreshAreas.{fresh-memory}
use Rattle.ibos_recv.proofs.laws.fresh_areas.Goals as goal

pub returns-clause-memory : goal.returns-clause-memory
returns-clause-memory c = fresh-memory
