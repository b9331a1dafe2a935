use Rattle.std.proofs.Common.{vec_len}
use Rattle.ibos_recv.proofs.Givings.{IsGiving}
use Rattle.ibos_recv.proofs.inbox.give_all.Given as goal

abbrev pub invariant-given : goal.invariant-given
invariant-given l = IsGiving l.fn.loans.items l.loans.items l.fn.pool l.pool

abbrev pub decreases-given : goal.decreases-given
decreases-given l = vec_len l.loans
