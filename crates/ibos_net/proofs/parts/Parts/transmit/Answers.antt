use Rattle.std.proofs.Common.{refl, sym, subst, ap, ◌∙◌}
use Rattle.ibos_kinds.specs.declared.act.Act.TheVariants.{WireOut}
use Rattle.ibos_kinds.specs.declared.outcome.Item.TheVariants.{Idle, SentIs}
use Rattle.ibos_nic.specs.declared.log.LogEntry.TheVariants.{Out}
use Rattle.ibos_nic.specs.Device.{IsTransmitted, after_transmit, frame_at}
use Rattle.ibos_nic.specs.Registers.{after_sent, can_transmit, transmit_head}
use Rattle.ibos_net.proofs.Words.{Bool, Fine, IsAtDevice, IsSafe, List, Memory, NetStands, NetState, Ok, Outgoing, Reg, Transmit, [], false, hands_of, held_in, held_to_send, length, received_frames, true, ℕ, ◌+◌, ◌++◌, ◌∷◌, ◌≡◌}
use Rattle.ibos_net.proofs.Arrivals.{with_mem}
use Rattle.ibos_net.proofs.FramesSent.{FrameSent, idle-serves, sent-leaves, sent-made, sent-safe, sent-serves, untold-some, when-sent, when-unsent}
use Rattle.ibos_net.proofs.Outcomes.{on-err, outcome-of, served-now}
use Rattle.ibos_net.proofs.PostMade.{frames-stay}
use Rattle.ibos_net.proofs.parts.Parts.transmit.Goals as goal

pub transmit-requires : goal.transmit-requires
transmit-requires g c =
    let p = c.self.inside in
    let t : NetState = record { med = p.med; mem = p.mem; names = p.pool; flows = p.flows; inboxes = p.inboxes; sends = p.sends } in
    let safe : IsSafe t = subst IsSafe (sym c.self.view_is) c.requires.safe in
    let regs = g.N.Nic.regs c.args.nic.now in
    let device = subst (λ (s : NetState). IsAtDevice s.med s.mem regs) (sym c.self.view_is) c.requires.device in
    c.transmissions_keep_the_relation.ensures.condition t.med t.mem regs safe.memory device

pub sent-send-requires : goal.sent-send-requires
sent-send-requires g c =
    let p = c.self.inside in
    let t : NetState = record { med = p.med; mem = p.mem; names = p.pool; flows = p.flows; inboxes = p.inboxes; sends = p.sends } in
    let safe : IsSafe t = subst IsSafe (sym c.self.view_is) c.requires.safe in
    let regs = g.N.Nic.regs c.args.nic.now in
    let device = subst (λ (s : NetState). IsAtDevice s.med s.mem regs) (sym c.self.view_is) c.requires.device in
    let done = c.in_ok-transmit.ensures in
    let b : Bool = c.in_ok-transmit.field-0 in
    let goes : b ≡ true = c.if-branch.true in
    let trans = when-sent b (IsTransmitted t.mem c.transmit.new.mem (transmit_head regs)) goes done.sent_memory in
    untold-some t (frame_at t.mem (transmit_head regs)) _ safe (c.frames_are_counted.ensures.unsent t.mem t.med.transmit (safe.memory.ring Transmit).balanced)
    (c.transmissions_end_a_frame.ensures.unsent t.med t.mem c.transmit.new.mem regs safe.memory device (sym goes ∙ done.sent) trans)

pub returns-in_err-push-clause-leaves : goal.returns-in_err-push-clause-leaves
returns-in_err-push-clause-leaves g c =
    let p = c.self.inside in
    let t : NetState = record { med = p.med; mem = p.mem; names = p.pool; flows = p.flows; inboxes = p.inboxes; sends = p.sends } in
    let safe : IsSafe t = subst IsSafe (sym c.self.view_is) c.requires.safe in
    let regs = g.N.Nic.regs c.args.nic.now in
    let device = subst (λ (s : NetState). IsAtDevice s.med s.mem regs) (sym c.self.view_is) c.requires.device in
    let mem' : Memory = c.transmit.new.mem in
    let s' : Outgoing = c.sent-send.new.self in
    let done = c.in_ok-transmit.ensures in
    let told = c.sent-send.ensures in
    let b : Bool = c.in_ok-transmit.field-0 in
    let goes : b ≡ true = c.if-branch.true in
    let can : true ≡ can_transmit regs = sym goes ∙ done.sent in
    let frame = frame_at t.mem (transmit_head regs) in
    let trans = when-sent b (IsTransmitted t.mem mem' (transmit_head regs)) goes done.sent_memory in
    let ends = c.transmissions_end_a_frame.ensures in
    let received : received_frames mem' t.med.receive ≡ received_frames t.mem t.med.receive = ends.received t.med t.mem mem' regs safe.memory device can trans in
    let made : FrameSent t.med t.mem mem' frame t.sends s' c.sent-send.result = record {
      counted = ends.counted t.med t.mem mem' regs safe.memory device can trans;
      unsent = ends.unsent t.med t.mem mem' regs safe.memory device can trans;
      heard = c.frames_are_counted.ensures.received mem' t.med.receive ∙ ap (λ (xs : List (List ℕ)). t.med.receive.values.taken + length xs) received ∙ sym (c.frames_are_counted.ensures.received t.mem t.med.receive);
      received = received;
      buffers = λ q. c.transmissions_keep_the_relation.ensures.buffers t.med t.mem mem' regs q safe.memory device can trans;
      areas = trans.areas;
      untold = told.untold;
      homes = told.homes;
      waiting = told.waiting;
      posts = told.posts;
      returned = told.returned;
      told = told.told;
    } in
    let log = when-sent b (g.N.Nic.log c.transmit.new.self ≡ Out frame ∷ g.N.Nic.log c.args.nic.now) goes done.sent_log in
    on-err c.from_residual-in_err-push.result (λ local life remote n s each lives.
    let stands = subst (λ (x : NetState). NetStands life remote n x) (sym c.self.view_is) s in
    sent-leaves local life remote n t mem' s' regs (g.N.Nic.log c.args.nic.now) (g.N.Nic.log c.transmit.new.self) frame c.sent-send.result made can log safe stands each)

pub returns-in_err-push-clause-safe : goal.returns-in_err-push-clause-safe
returns-in_err-push-clause-safe g c =
    let p = c.self.inside in
    let t : NetState = record { med = p.med; mem = p.mem; names = p.pool; flows = p.flows; inboxes = p.inboxes; sends = p.sends } in
    let safe : IsSafe t = subst IsSafe (sym c.self.view_is) c.requires.safe in
    let regs = g.N.Nic.regs c.args.nic.now in
    let device = subst (λ (s : NetState). IsAtDevice s.med s.mem regs) (sym c.self.view_is) c.requires.device in
    let mem' : Memory = c.transmit.new.mem in
    let s' : Outgoing = c.sent-send.new.self in
    let done = c.in_ok-transmit.ensures in
    let told = c.sent-send.ensures in
    let b : Bool = c.in_ok-transmit.field-0 in
    let goes : b ≡ true = c.if-branch.true in
    let can : true ≡ can_transmit regs = sym goes ∙ done.sent in
    let frame = frame_at t.mem (transmit_head regs) in
    let trans = when-sent b (IsTransmitted t.mem mem' (transmit_head regs)) goes done.sent_memory in
    let ends = c.transmissions_end_a_frame.ensures in
    let laws = c.transmissions_keep_the_relation.ensures in
    let received : received_frames mem' t.med.receive ≡ received_frames t.mem t.med.receive = ends.received t.med t.mem mem' regs safe.memory device can trans in
    let made : FrameSent t.med t.mem mem' frame t.sends s' c.sent-send.result = record {
      counted = ends.counted t.med t.mem mem' regs safe.memory device can trans;
      unsent = ends.unsent t.med t.mem mem' regs safe.memory device can trans;
      heard = c.frames_are_counted.ensures.received mem' t.med.receive ∙ ap (λ (xs : List (List ℕ)). t.med.receive.values.taken + length xs) received ∙ sym (c.frames_are_counted.ensures.received t.mem t.med.receive);
      received = received;
      buffers = λ q. laws.buffers t.med t.mem mem' regs q safe.memory device can trans;
      areas = trans.areas;
      untold = told.untold;
      homes = told.homes;
      waiting = told.waiting;
      posts = told.posts;
      returned = told.returned;
      told = told.told;
    } in
    let keeps = laws.keeps t.med t.mem mem' regs (Ok b) safe.memory device done.sent done.sent_memory done.unsent_memory in
    sent-safe t mem' s' frame c.sent-send.result safe made keeps.memory (λ ring. keeps.owned t.names t.names refl ring (safe.owned ring)) (keeps.unheld t.names t.names refl [] safe.unheld)
    (laws.hands t.mem mem' t.names (hands_of t) regs (Ok b) safe.hands done.sent_memory done.unsent_memory) told.held

pub returns-in_ok-push-clause-safe : goal.returns-in_ok-push-clause-safe
returns-in_ok-push-clause-safe g c =
    let p = c.self.inside in
    let t : NetState = record { med = p.med; mem = p.mem; names = p.pool; flows = p.flows; inboxes = p.inboxes; sends = p.sends } in
    let safe : IsSafe t = subst IsSafe (sym c.self.view_is) c.requires.safe in
    let regs = g.N.Nic.regs c.args.nic.now in
    let device = subst (λ (s : NetState). IsAtDevice s.med s.mem regs) (sym c.self.view_is) c.requires.device in
    let mem' : Memory = c.transmit.new.mem in
    let s' : Outgoing = c.sent-send.new.self in
    let done = c.in_ok-transmit.ensures in
    let told = c.sent-send.ensures in
    let b : Bool = c.in_ok-transmit.field-0 in
    let goes : b ≡ true = c.if-branch.true in
    let can : true ≡ can_transmit regs = sym goes ∙ done.sent in
    let frame = frame_at t.mem (transmit_head regs) in
    let trans = when-sent b (IsTransmitted t.mem mem' (transmit_head regs)) goes done.sent_memory in
    let ends = c.transmissions_end_a_frame.ensures in
    let laws = c.transmissions_keep_the_relation.ensures in
    let received : received_frames mem' t.med.receive ≡ received_frames t.mem t.med.receive = ends.received t.med t.mem mem' regs safe.memory device can trans in
    let made : FrameSent t.med t.mem mem' frame t.sends s' c.sent-send.result = record {
      counted = ends.counted t.med t.mem mem' regs safe.memory device can trans;
      unsent = ends.unsent t.med t.mem mem' regs safe.memory device can trans;
      heard = c.frames_are_counted.ensures.received mem' t.med.receive ∙ ap (λ (xs : List (List ℕ)). t.med.receive.values.taken + length xs) received ∙ sym (c.frames_are_counted.ensures.received t.mem t.med.receive);
      received = received;
      buffers = λ q. laws.buffers t.med t.mem mem' regs q safe.memory device can trans;
      areas = trans.areas;
      untold = told.untold;
      homes = told.homes;
      waiting = told.waiting;
      posts = told.posts;
      returned = told.returned;
      told = told.told;
    } in
    let keeps = laws.keeps t.med t.mem mem' regs (Ok b) safe.memory device done.sent done.sent_memory done.unsent_memory in
    sent-safe t mem' s' frame c.sent-send.result safe made keeps.memory (λ ring. keeps.owned t.names t.names refl ring (safe.owned ring)) (keeps.unheld t.names t.names refl [] safe.unheld)
    (laws.hands t.mem mem' t.names (hands_of t) regs (Ok b) safe.hands done.sent_memory done.unsent_memory) told.held

pub returns-in_ok-push-clause-serves : goal.returns-in_ok-push-clause-serves
returns-in_ok-push-clause-serves g c = λ local.
    let p = c.self.inside in
    let t : NetState = record { med = p.med; mem = p.mem; names = p.pool; flows = p.flows; inboxes = p.inboxes; sends = p.sends } in
    let safe : IsSafe t = subst IsSafe (sym c.self.view_is) c.requires.safe in
    let regs = g.N.Nic.regs c.args.nic.now in
    let regs' = g.N.Nic.regs c.transmit.new.self in
    let device = subst (λ (s : NetState). IsAtDevice s.med s.mem regs) (sym c.self.view_is) c.requires.device in
    let mem' : Memory = c.transmit.new.mem in
    let s' : Outgoing = c.sent-send.new.self in
    let send = c.sent-send.result in
    let done = c.in_ok-transmit.ensures in
    let told = c.sent-send.ensures in
    let b : Bool = c.in_ok-transmit.field-0 in
    let goes : b ≡ true = c.if-branch.true in
    let can : true ≡ can_transmit regs = sym goes ∙ done.sent in
    let frame = frame_at t.mem (transmit_head regs) in
    let trans = when-sent b (IsTransmitted t.mem mem' (transmit_head regs)) goes done.sent_memory in
    let ends = c.transmissions_end_a_frame.ensures in
    let laws = c.transmissions_keep_the_relation.ensures in
    let received : received_frames mem' t.med.receive ≡ received_frames t.mem t.med.receive = ends.received t.med t.mem mem' regs safe.memory device can trans in
    let made : FrameSent t.med t.mem mem' frame t.sends s' send = record {
      counted = ends.counted t.med t.mem mem' regs safe.memory device can trans;
      unsent = ends.unsent t.med t.mem mem' regs safe.memory device can trans;
      heard = c.frames_are_counted.ensures.received mem' t.med.receive ∙ ap (λ (xs : List (List ℕ)). t.med.receive.values.taken + length xs) received ∙ sym (c.frames_are_counted.ensures.received t.mem t.med.receive);
      received = received;
      buffers = λ q. laws.buffers t.med t.mem mem' regs q safe.memory device can trans;
      areas = trans.areas;
      untold = told.untold;
      homes = told.homes;
      waiting = told.waiting;
      posts = told.posts;
      returned = told.returned;
      told = told.told;
    } in
    let keeps = laws.keeps t.med t.mem mem' regs (Ok b) safe.memory device done.sent done.sent_memory done.unsent_memory in
    let log = when-sent b (g.N.Nic.log c.transmit.new.self ≡ Out frame ∷ g.N.Nic.log c.args.nic.now) goes done.sent_log in
    let has : (r : Reg) → regs' r ≡ after_sent regs r = subst (λ (x : Bool). (r : Reg) → regs' r ≡ after_transmit (Ok x) regs r) goes done.registers in
    let front = c.hands_are_parted.ensures.front t.names t.mem (held_in t.inboxes) (held_to_send t.sends) safe.hands in
    let back = c.hands_are_parted.ensures.back t.names t.mem (held_in t.inboxes) (held_to_send t.sends) safe.hands in
    let stay = frames-stay c.inboxes_keep_their_frames.ensures.hands t.names t.mem mem' t.inboxes front (λ q kept. made.buffers q kept.place) in
    let out = outcome-of c.push.new.self Fine (SentIs send ∷ []) (c.in_ok-push.ensures.head ∙ c.requires.head) (c.in_ok-push.ensures.ok ∙ ap (λ xs. xs ++ SentIs send ∷ []) c.requires.items) in
    served-now local WireOut _ _ t _ (sent-made t mem' s') _ regs regs' (g.N.Nic.log c.args.nic.now) (g.N.Nic.log c.transmit.new.self) out c.self.view_is refl
    (λ life remote n s each lives. sent-serves local life remote n t mem' s' regs regs' (g.N.Nic.log c.args.nic.now) (g.N.Nic.log c.transmit.new.self) frame send made can log has keeps.memory (keeps.device regs regs' done.registers)
    (λ q there. c.hands_are_parted.ensures.kept t.names t.mem (held_to_send t.sends) q back there) stay safe s each)

pub returns-in_ok-push-2-clause-serves : goal.returns-in_ok-push-2-clause-serves
returns-in_ok-push-2-clause-serves g c = λ local.
    let p = c.self.inside in
    let t : NetState = record { med = p.med; mem = p.mem; names = p.pool; flows = p.flows; inboxes = p.inboxes; sends = p.sends } in
    let safe : IsSafe t = subst IsSafe (sym c.self.view_is) c.requires.safe in
    let regs = g.N.Nic.regs c.args.nic.now in
    let regs' = g.N.Nic.regs c.transmit.new.self in
    let mem' : Memory = c.transmit.new.mem in
    let done = c.in_ok-transmit.ensures in
    let b : Bool = c.in_ok-transmit.field-0 in
    let idle : b ≡ false = c.if-branch.false in
    let has : (r : Reg) → regs' r ≡ regs r = subst (λ (x : Bool). (r : Reg) → regs' r ≡ after_transmit (Ok x) regs r) idle done.registers in
    let same = when-unsent b (mem' ≡ t.mem) idle done.unsent_memory in
    let log = when-unsent b (g.N.Nic.log c.transmit.new.self ≡ g.N.Nic.log c.args.nic.now) idle done.unsent_log in
    let out = outcome-of c.push-else-branch.new.self Fine (Idle ∷ []) (c.in_ok-push-2.ensures.head ∙ c.requires.head) (c.in_ok-push-2.ensures.ok ∙ ap (λ xs. xs ++ Idle ∷ []) c.requires.items) in
    served-now local WireOut _ _ t _ (with_mem mem' t) _ regs regs' (g.N.Nic.log c.args.nic.now) (g.N.Nic.log c.transmit.new.self) out c.self.view_is refl
    (λ life remote n s each lives. idle-serves local life remote n t mem' regs regs' (g.N.Nic.log c.args.nic.now) (g.N.Nic.log c.transmit.new.self) (sym idle ∙ done.sent) same log has safe s each)
