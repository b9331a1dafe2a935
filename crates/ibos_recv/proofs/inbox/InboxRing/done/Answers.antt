use Rattle.std.proofs.Common.{◌≡◌, ◌+◌, ◌%◌, refl, subst, drop}
use Rattle.ibos_recv.proofs.Passings.{frames-done}
use Rattle.ibos_recv.proofs.Words.{Inbox, inbox_frames}
use Rattle.ibos_recv.proofs.inbox.InboxRing.done.Goals as goal

pub returns-clause-frames : goal.returns-clause-frames
returns-clause-frames c mem =
    let b : Inbox = record { held = c.self.inside.loans.items; head = c.self.inside.head; lens = c.self.inside.lens.items } in
    let d : Inbox = record { held = b.held; head = (b.head + 1) % 16; lens = c.remove.new.self.items } in
    subst (λ (x : Inbox). inbox_frames mem d ≡ drop 1 (inbox_frames mem x)) c.self.view_is (frames-done mem b d refl refl c.remove.ensures.items)
