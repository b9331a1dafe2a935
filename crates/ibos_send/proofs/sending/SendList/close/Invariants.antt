use Rattle.std.proofs.Common.{vec_len}
use Rattle.ibos_send.proofs.Givings.{IsGiving}
use Rattle.ibos_send.proofs.Words.{gathered, held_waiting}
use Rattle.ibos_send.proofs.sending.SendList.close.Given as goal

abbrev pub invariant-closed : goal.invariant-closed
invariant-closed l = IsGiving (gathered held_waiting l.fn.self.waiting) (gathered held_waiting l.waiting.items) l.fn.pool l.pool

abbrev pub decreases-closed : goal.decreases-closed
decreases-closed l = vec_len l.waiting
