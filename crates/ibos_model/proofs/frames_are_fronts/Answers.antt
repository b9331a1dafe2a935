use Rattle.ibos_model.proofs.GoingOn.{frame_fronts}
use Rattle.ibos_model.proofs.frames_are_fronts.Goals as goal

pub returns : goal.returns
returns c = frame_fronts
