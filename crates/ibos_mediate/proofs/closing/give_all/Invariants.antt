use Rattle.ibos_mediate.proofs.Words.{length}
use Rattle.ibos_pool.proofs.GivingLemmas.{IsClosing}
use Rattle.ibos_mediate.proofs.closing.give_all.Given as goal

abbrev pub invariant-loop-away : goal.invariant-loop-away
invariant-loop-away l = IsClosing l.initial.held.items l.held.items l.fn.pool l.pool l.fn.mem l.mem

abbrev pub decreases-loop-away : goal.decreases-loop-away
decreases-loop-away l = length l.held.items
