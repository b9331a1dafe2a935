use Rattle.std.proofs.Common.{vec_len}
use Rattle.ibos_send.proofs.Givings.{IsGiving}
use Rattle.ibos_send.proofs.Words.{gathered, held_of}
use Rattle.ibos_send.proofs.homes.give_all.Given as goal

abbrev pub invariant-given : goal.invariant-given
invariant-given l = IsGiving (gathered held_of l.fn.loans.items) (gathered held_of l.loans.items) l.fn.pool l.pool

abbrev pub decreases-given : goal.decreases-given
decreases-given l = vec_len l.loans
