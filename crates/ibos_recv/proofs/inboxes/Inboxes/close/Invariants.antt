use Rattle.std.proofs.Common.{vec_len}
use Rattle.ibos_recv.proofs.Givings.{IsGiving}
use Rattle.ibos_recv.proofs.Words.{held_in}
use Rattle.ibos_recv.proofs.inboxes.Inboxes.close.Given as goal

abbrev pub invariant-closed : goal.invariant-closed
invariant-closed l = IsGiving (held_in l.fn.self) (held_in l.places.items) l.fn.pool l.pool

abbrev pub decreases-closed : goal.decreases-closed
decreases-closed l = vec_len l.places
