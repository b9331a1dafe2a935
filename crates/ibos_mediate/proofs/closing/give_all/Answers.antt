use Rattle.std.proofs.Common.{ap}
use Rattle.ibos_mediate.proofs.Words.{Buffer, Held}
use Rattle.ibos_pool.proofs.GivingLemmas.{closing-popped}
use Rattle.ibos_mediate.proofs.closing.give_all.Goals as goal

pub loop-away-preserved : goal.loop-away-preserved
loop-away-preserved c =
    let rest = ap (λ (b : Buffer Held). b.items) c.in-Some.ensures.items in
    let value = c.in-Some.ensures.value in
    let marked = c.regain.ensures.marked in
    let claimed = c.give.ensures.claimed in
    let is = c.regain.ensures.same in
    closing-popped _ c.loop-away.held.items _ c.in-Some.away _ _ _ _ _ _ c.loop-away.invariant value rest (rw is at claimed) marked
