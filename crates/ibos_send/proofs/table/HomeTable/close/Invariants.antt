use Rattle.std.proofs.Common.{vec_len}
use Rattle.ibos_send.proofs.Givings.{IsGiving}
use Rattle.ibos_send.proofs.Words.{held_at_home}
use Rattle.ibos_send.proofs.table.HomeTable.close.Given as goal

abbrev pub invariant-closed : goal.invariant-closed
invariant-closed l = IsGiving (held_at_home l.fn.self) (held_at_home l.places.items) l.fn.pool l.pool

abbrev pub decreases-closed : goal.decreases-closed
decreases-closed l = vec_len l.places
