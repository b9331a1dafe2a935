use Rattle.std.proofs.Common.{◌≡◌, ◌<◌, ◌+◌, ◌%◌, [], length, arith, subst}
use Rattle.std.specs.Prelude.{slice_index_or, take}
use Rattle.ibos_recv.proofs.Passings.{frame-read, read-kept}
use Rattle.ibos_recv.proofs.Words.{Inbox, inbox_frames}
use Rattle.ibos_recv.proofs.inbox.InboxRing.frame.Goals as goal

pub bytes-requires : goal.bytes-requires
bytes-requires c =
    let hands = rw (← c.self.view_is) at c.requires.hands in
    let held = c.self.invariant.held in
    read-kept hands.0 c.args.mem.now c.self.inside.loans.items ((c.self.inside.head + c.args.k) % 16) c.index-loan.result.now hands.1 (omega arith) c.index-loan.ensures

pub returns : goal.returns
returns c =
    let b : Inbox = record { held = c.self.inside.loans.items; head = c.self.inside.head; lens = c.self.inside.lens.items } in
    let k : c.args.k < length b.lens = rw (← c.self.view_is) at c.requires.k in
    let told = rw c.deref.ensures.0 at c.from-len.ensures in
    subst (λ (x : Inbox). take c.from-len.result c.bytes.result.now ≡ slice_index_or (inbox_frames c.args.mem.now x) c.args.k []) c.self.view_is
    (frame-read c.args.mem.now b c.args.k c.from-len.result c.index-loan.result.now c.bytes.result.now c.self.invariant k c.index-loan.ensures told c.bytes.ensures.value)
