use Rattle.std.proofs.Common.{[], sym, subst}
use Rattle.std.proofs.lemmas.List.{append-nil}
use Rattle.ibos_recv.proofs.Words.{AreAtHand, held_in}
use Rattle.ibos_recv.proofs.tests.end_and_close.Goals as goal

pub close-requires : goal.close-requires
close-requires g c =
    let mem = c.requires.hands.0 in
    let hands = rw (← c.done.ensures.held) at c.requires.hands.1 in
    (mem, subst (AreAtHand c.end.new.pool mem) (append-nil (held_in c.end.new.self)) (c.end.ensures.hands mem [] (subst (AreAtHand c.args.pool.now mem) (sym (append-nil (held_in c.done.new.self))) hands)))
