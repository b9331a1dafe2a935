use Rattle.ibos_model.proofs.SentFrames.{sent_in_turn}
use Rattle.ibos_model.proofs.frames_are_sent_in_turn.Goals as goal

pub returns : goal.returns
returns c = sent_in_turn c.rings_are_ordered.ensures
