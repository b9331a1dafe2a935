use Rattle.std.proofs.Common.{[], ◌++◌, subst}
use Rattle.std.proofs.lemmas.List.{append-nil}
use Rattle.ibos_send.proofs.Words.{AreAtHand, held_in}
use Rattle.ibos_send.proofs.tests.fill_end_and_close.Goals as goal

pub fill-requires-clause-hands : goal.fill-requires-clause-hands
fill-requires-clause-hands g c = (c.args.pool.now, c.requires.hands)

pub end-requires-clause-hands : goal.end-requires-clause-hands
end-requires-clause-hands g c = (c.args.mem.now, rw c.fill.ensures.same c.requires.hands)

pub close-requires : goal.close-requires
close-requires g c =
    let mem = c.args.mem.now in
    let hands : AreAtHand c.args.pool.now mem (held_in c.fill.new.self ++ []) = rw (append-nil (held_in c.fill.new.self), c.fill.ensures.same) c.requires.hands in
    (mem, subst (AreAtHand c.end.new.pool mem) (append-nil (held_in c.end.new.self)) (c.end.ensures.hands mem [] hands))
