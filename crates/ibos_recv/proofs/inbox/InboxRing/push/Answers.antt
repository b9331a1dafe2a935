use Rattle.std.proofs.Common.{◌≡◌, ◌<◌, ◌+◌, ◌%◌, ◌++◌, ◌∷◌, [], length, arith, subst, ap, ◌∙◌}
use Rattle.ibos_recv.proofs.Passings.{loan-in, push-frames, push-passed}
use Rattle.ibos_recv.proofs.Words.{Inbox, IsPassed, address_of, bytes_at, frames_from, inbox_frames}
use Rattle.ibos_recv.proofs.inbox.InboxRing.push.Goals as goal

pub exchange_at-loan-requires-clause-buffer : goal.exchange_at-loan-requires-clause-buffer
exchange_at-loan-requires-clause-buffer c =
    let hands = rw (← c.self.view_is) at c.requires.hands in
    let held = c.self.invariant.held in
    loan-in c.args.pool.now hands.0 c.self.inside.loans.items ((c.self.inside.head + c.len.result) % 16) hands.1 (omega (arith, held))

pub returns-clause-frames : goal.returns-clause-frames
returns-clause-frames c mem =
    let b : Inbox = record { held = c.self.inside.loans.items; head = c.self.inside.head; lens = c.self.inside.lens.items } in
    let room : length b.lens < 16 = rw (← c.self.view_is) at c.requires.room in
    let same = rw c.len.ensures.value at c.exchange_at-loan.ensures.items in
    subst (λ (x : Inbox). inbox_frames mem (record { held = c.exchange_at-loan.new.loans.items; head = b.head; lens = c.push.new.self.items }) ≡ inbox_frames mem x ++ bytes_at mem (address_of c.args.loan.place) c.args.len ∷ []) c.self.view_is
    (ap (λ ls. frames_from mem c.exchange_at-loan.new.loans.items b.head ls) c.push.ensures.items ∙ push-frames b c.exchange_at-loan.new.loans.items c.args.loan c.args.len c.self.invariant room same mem c.requires.size)

pub returns-clause-passed : goal.returns-clause-passed
returns-clause-passed c =
    let b : Inbox = record { held = c.self.inside.loans.items; head = c.self.inside.head; lens = c.self.inside.lens.items } in
    let room : length b.lens < 16 = rw (← c.self.view_is) at c.requires.room in
    let same = rw c.len.ensures.value at c.exchange_at-loan.ensures.items in
    let change = rw c.len.ensures.value at c.exchange_at-loan.ensures.exchanged in
    subst (λ (x : Inbox). IsPassed c.args.loan x.held c.exchange_at-loan.new.loans.items c.args.pool.now c.exchange_at-loan.new.pool) c.self.view_is
    (push-passed b c.exchange_at-loan.new.loans.items c.args.loan c.args.len c.self.invariant room same c.args.pool.now c.exchange_at-loan.new.pool change)
