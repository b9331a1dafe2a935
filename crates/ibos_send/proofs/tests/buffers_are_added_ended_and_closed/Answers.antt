use Rattle.std.proofs.Common.{◌≡◌, ◌++◌, [], length, sym, ◌∙◌, ap, subst, arith}
use Rattle.std.proofs.lemmas.List.{append-nil}
use Rattle.ibos_send.proofs.Words.{AreAtHand, AreFreshIn, Outgoing, held_in}
use Rattle.ibos_send.proofs.tests.buffers_are_added_ended_and_closed.Goals as goal

pub close-requires : goal.close-requires
close-requires g c =
    let none = ap (λ (t : Outgoing). held_in t) c.in-Err.ensures.err ∙ c.in_ok-sends.ensures.held in
    (c.in_ok-mem.mem, rw none tt)

pub fill_end_and_close-requires-clause-hands : goal.fill_end_and_close-requires-clause-hands
fill_end_and_close-requires-clause-hands g c =
    let old = c.in_ok-pool.pool in
    let new = c.grow_instance.new.self in
    let mem = c.grow_instance-2.new.self in
    let one : length c.in_ok-pool.pool ≡ 1 = c.in_ok-pool.ensures.areas in
    let first : length c.in_ok-mem.mem ≡ 1 = c.in_ok-mem.ensures.areas in
    let fresh = c.areas_are_fresh.ensures.memory old new c.in_ok-mem.mem mem (omega (arith, first)) (first ∙ sym one) c.in_ok-grow_instance.ensures.areas c.in_ok-grow_instance-2.ensures.areas c.in_ok-grow_instance.ensures.home c.grow_instance-2.ensures.lent in
    let none : AreAtHand new mem (held_in c.in_ok-sends.sends ++ []) = rw c.in_ok-sends.ensures.held tt in
    subst (AreAtHand c.begin.new.pool mem) (append-nil (held_in c.begin.new.self)) (c.in-Ok.ensures.hands mem [] (subst (AreFreshIn mem new) one fresh) none)
