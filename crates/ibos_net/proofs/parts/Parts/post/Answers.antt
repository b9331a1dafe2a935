use Rattle.std.proofs.Common.{refl, sym, subst, ap}
use Rattle.ibos_net.proofs.Words.{Denied, Fine, Held, IsSafe, Keeps, Mediated, NetState, Receive, RxPost, SameRegisters, IsClaimedFor, [], hands_of, held_in, held_to_send, receive_buffer}
use Rattle.ibos_net.proofs.Outcomes.{outcome-of, served, served-now}
use Rattle.ibos_net.proofs.PostMade.{buffer-stays, frames-stay, post-made, posted-left, posted-safe, posted-serves, refused-serves}
use Rattle.ibos_net.proofs.parts.Parts.post.Goals as goal

pub rx_post-requires-clause-owned : goal.rx_post-requires-clause-owned
rx_post-requires-clause-owned c = let safe = subst IsSafe (sym c.self.view_is) c.requires.safe in safe.owned Receive

pub returns-in-Err-clause-serves : goal.returns-in-Err-clause-serves
returns-in-Err-clause-serves c = λ local regs log.
    let p = c.self.inside in
    let t : NetState = record { med = p.med; mem = p.mem; names = p.pool; flows = p.flows; inboxes = p.inboxes; sends = p.sends } in
    let told = c.in-Err.ensures in
    served-now local (RxPost c.args.slot c.args.handle) _ _ t _ (record { med = c.rx_post.new.self; mem = c.rx_post.new.mem; names = c.rx_post.new.pool; flows = t.flows; inboxes = t.inboxes; sends = t.sends }) _ regs regs log log
    (outcome-of _ (Denied c.in-Err.rule) [] refl c.requires.items) c.self.view_is refl
    (rw (told.same, told.same_memory, told.same_pool) (λ life remote n s each lives. refused-serves local life remote n t regs log c.args.slot c.args.handle c.in-Err.rule s each told.err))

pub returns-clause-serves : goal.returns-clause-serves
returns-clause-serves c = λ local regs log.
    let p = c.self.inside in
    let t : NetState = record { med = p.med; mem = p.mem; names = p.pool; flows = p.flows; inboxes = p.inboxes; sends = p.sends } in
    let safe = subst IsSafe (sym c.self.view_is) c.requires.safe in
    let done = c.in-Ok.ensures in
    let h : Held = receive_buffer t.names c.args.handle.name in
    let keeps = subst (λ m. Keeps [] t.med m t.mem c.rx_post.new.mem SameRegisters (IsClaimedFor Receive h)) done.posted done.keeps in
    let after = ap (λ (m : Mediated). record { med = m; mem = c.rx_post.new.mem; names = c.rx_post.new.pool; flows = t.flows; inboxes = t.inboxes; sends = t.sends }) (sym done.posted) in
    let received = c.posts_add_a_frame.ensures.receive_received t.med t.mem c.rx_post.new.mem h safe.memory keeps.memory done.written in
    let front = c.hands_are_parted.ensures.front t.names t.mem (held_in t.inboxes) (held_to_send t.sends) safe.hands in
    let left = posted-left c.parts_are_apart.ensures.behind c.frames_are_counted.ensures.unsent t.names t.med t.mem c.rx_post.new.mem t.sends h _ safe.memory (c.hands_are_parted.ensures.back t.names t.mem (held_in t.inboxes) (held_to_send t.sends) safe.hands)
    (λ held q hands there. c.hands_are_parted.ensures.kept t.names t.mem held q hands there) (c.posts_add_a_frame.ensures.receive_unsent t.med t.mem c.rx_post.new.mem h safe.memory keeps.memory done.written) (c.descriptors_are_their_bytes.ensures.rx_length _) done.written in
    let stay = frames-stay c.inboxes_keep_their_frames.ensures.hands t.names t.mem c.rx_post.new.mem t.inboxes front
    (λ q kept. buffer-stays c.parts_are_apart.ensures.behind t.mem c.rx_post.new.mem t.med.receive.values.posted _ h.place q (c.descriptors_are_their_bytes.ensures.rx_length _) done.written kept) in
    served local (RxPost c.args.slot c.args.handle) _ _ t _ (post-made t h c.rx_post.new.mem c.rx_post.new.pool) _ regs regs log _ (outcome-of c.args.out.now Fine [] c.requires.head c.requires.items) c.self.view_is after refl
    (λ life remote n s each lives. posted-serves local life remote n t c.rx_post.new.mem c.rx_post.new.pool regs log c.args.slot c.args.handle c.frames_are_counted.ensures.received received stay left safe s each done.ok keeps done.claimed done.written.areas)

pub returns-clause-safe : goal.returns-clause-safe
returns-clause-safe c =
    let p = c.self.inside in
    let t : NetState = record { med = p.med; mem = p.mem; names = p.pool; flows = p.flows; inboxes = p.inboxes; sends = p.sends } in
    let safe = subst IsSafe (sym c.self.view_is) c.requires.safe in
    let done = c.in-Ok.ensures in
    let h : Held = receive_buffer t.names c.args.handle.name in
    let keeps = subst (λ m. Keeps [] t.med m t.mem c.rx_post.new.mem SameRegisters (IsClaimedFor Receive h)) done.posted done.keeps in
    let after = ap (λ (m : Mediated). record { med = m; mem = c.rx_post.new.mem; names = c.rx_post.new.pool; flows = t.flows; inboxes = t.inboxes; sends = t.sends }) (sym done.posted) in
    let left = posted-left c.parts_are_apart.ensures.behind c.frames_are_counted.ensures.unsent t.names t.med t.mem c.rx_post.new.mem t.sends h _ safe.memory (c.hands_are_parted.ensures.back t.names t.mem (held_in t.inboxes) (held_to_send t.sends) safe.hands)
    (λ held q hands there. c.hands_are_parted.ensures.kept t.names t.mem held q hands there) (c.posts_add_a_frame.ensures.receive_unsent t.med t.mem c.rx_post.new.mem h safe.memory keeps.memory done.written) (c.descriptors_are_their_bytes.ensures.rx_length _) done.written in
    subst IsSafe after (posted-safe t h c.rx_post.new.mem c.rx_post.new.pool safe keeps done.claimed (done.hands (hands_of t) safe.hands) left)
