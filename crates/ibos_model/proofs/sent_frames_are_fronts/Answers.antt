use Rattle.ibos_model.proofs.SentFrames.{sent_fronts}
use Rattle.ibos_model.proofs.sent_frames_are_fronts.Goals as goal

pub returns : goal.returns
returns c = sent_fronts c.rings_are_ordered.ensures
