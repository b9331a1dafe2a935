use Rattle.std.proofs.Common.{refl, sym, subst, ap, ◌∙◌}
use Rattle.ibos_net.proofs.Words.{Transmit, count_of, held_to_send, Arrival, Fine, IsSafe, Item, List, NetState, Receive, RingView, RxBell, posts_of, [], ◌+◌, ◌++◌, ◌≡◌, arrivals, bell_over, bound_by, map, received_frames, unread_of}
use Rattle.ibos_net.proofs.Outcomes.{outcome-of, served-now}
use Rattle.ibos_net.proofs.BellServed.{after, bell-left, bell-posts, bell-serves, belled-safe, items-same}
use Rattle.ibos_net.proofs.parts.Parts.bell.Goals as goal

pub returns-in_err-serve-clause-safe : goal.returns-in_err-serve-clause-safe
returns-in_err-serve-clause-safe c =
    let p = c.self.inside in
    let t : NetState = record { med = p.med; mem = p.mem; names = p.pool; flows = p.flows; inboxes = p.inboxes; sends = p.sends } in
    let safe : IsSafe t = subst IsSafe (sym c.self.view_is) c.requires.safe in
    let e = c.serve.ensures in
    let new = c.serve.new in
    belled-safe t new.med new.mem new.pool new.inboxes safe e.memory e.owned e.unheld (e.hands (held_to_send t.sends) safe.hands) (λ q. (e.open q).0)
    (bell-left t new.med new.mem e.transmit (e.done Transmit) e.unsent e.served.bytes)

pub returns-clause-safe : goal.returns-clause-safe
returns-clause-safe c =
    let p = c.self.inside in
    let t : NetState = record { med = p.med; mem = p.mem; names = p.pool; flows = p.flows; inboxes = p.inboxes; sends = p.sends } in
    let safe : IsSafe t = subst IsSafe (sym c.self.view_is) c.requires.safe in
    let e = c.serve.ensures in
    let new = c.serve.new in
    belled-safe t new.med new.mem new.pool new.inboxes safe e.memory e.owned e.unheld (e.hands (held_to_send t.sends) safe.hands) (λ q. (e.open q).0)
    (bell-left t new.med new.mem e.transmit (e.done Transmit) e.unsent e.served.bytes)

pub returns-clause-posts : goal.returns-clause-posts
returns-clause-posts c =
    let p = c.self.inside in
    let t : NetState = record { med = p.med; mem = p.mem; names = p.pool; flows = p.flows; inboxes = p.inboxes; sends = p.sends } in
    let safe : IsSafe t = subst IsSafe (sym c.self.view_is) c.requires.safe in
    ap (λ k. k + c.serve.new.med.transmit.values.posted + count_of t.sends) (bell-posts t.med c.serve.new.med t.mem safe.memory c.in_ok-serve.ensures.bell)
    ∙ ap (λ (r : RingView). t.med.receive.values.posted + r.values.posted + count_of t.sends) c.serve.ensures.transmit ∙ ap posts_of c.self.view_is

pub returns-clause-serves : goal.returns-clause-serves
returns-clause-serves c = λ regs log.
    let p = c.self.inside in
    let t : NetState = record { med = p.med; mem = p.mem; names = p.pool; flows = p.flows; inboxes = p.inboxes; sends = p.sends } in
    let safe : IsSafe t = subst IsSafe (sym c.self.view_is) c.requires.safe in
    let e = c.serve.ensures in
    let done = c.in_ok-serve.ensures in
    let new = c.serve.new in
    let items : List Item = bell_over c.args.local.now (bound_by t.flows) (unread_of t.inboxes) (arrivals t.mem t.med) in
    let told : new.out.items ≡ items = done.items ∙ ap (λ (xs : List Item). xs ++ items) c.requires.items in
    let bytes = c.frames_are_counted.ensures.bytes in
    let none : received_frames new.mem new.med.receive ≡ [] = sym (bytes new.mem new.med) ∙ ap (map (λ (a : Arrival). a.bytes)) done.arrivals in
    served-now c.args.local.now RxBell _ _ t _ (after t new.med new.mem new.pool new.inboxes) _ regs regs log log (outcome-of new.out Fine items (e.head ∙ c.requires.head) told) c.self.view_is refl
    (λ life remote n s each lives. bell-serves c.args.local.now life remote n t new.med new.mem new.pool new.inboxes regs log items safe s each
    (items-same c.args.local.now life remote n t safe s (bytes t.mem t.med) (c.frames_are_counted.ensures.received t.mem t.med.receive) (c.inboxes_keep_their_frames.ensures.count t.mem t.inboxes))
    done.frames done.bell e.transmit (e.done Receive) none (λ q. (e.open q).1) e.memory e.device e.served.pool_areas e.served.areas
    (bell-left t new.med new.mem e.transmit (e.done Transmit) e.unsent e.served.bytes))
