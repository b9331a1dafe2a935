use Rattle.ibos_model.proofs.PendingFrames.{pending_last}
use Rattle.ibos_model.proofs.PostedHandles.{lent_in_order}
use Rattle.ibos_model.proofs.ReadFrames.{read_in_order}
use Rattle.ibos_model.proofs.frames_keep_their_order.Goals as goal

pub returns-clause-lent : goal.returns-clause-lent
returns-clause-lent c = lent_in_order (λ v names turns slot handle is. (c.rules_are_exact.ensures.receive v names turns slot handle).0 is) c.rings_are_ordered.ensures

pub returns-clause-read : goal.returns-clause-read
returns-clause-read c = read_in_order

pub returns-clause-pending : goal.returns-clause-pending
returns-clause-pending c = pending_last c.rings_are_ordered.ensures
