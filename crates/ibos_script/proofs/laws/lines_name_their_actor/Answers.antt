use Rattle.ibos_script.proofs.Actors.{named_actor, named_next}
use Rattle.ibos_script.proofs.laws.lines_name_their_actor.Goals as goal

pub returns-clause-acts : goal.returns-clause-acts
returns-clause-acts c = named_actor

pub returns-clause-next : goal.returns-clause-next
returns-clause-next c = named_next
