use Rattle.ibos_recv.proofs.TableFrames.{frames-hands, frames-length, frames-same}
use Rattle.ibos_recv.proofs.laws.inboxes_keep_their_frames.Goals as goal

pub returns-clause-count : goal.returns-clause-count
returns-clause-count c = frames-length

pub returns-clause-same : goal.returns-clause-same
returns-clause-same c = frames-same

pub returns-clause-hands : goal.returns-clause-hands
returns-clause-hands c = frames-hands
