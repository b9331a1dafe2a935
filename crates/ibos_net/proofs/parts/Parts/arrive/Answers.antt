use Rattle.std.proofs.Common.{refl, sym, subst, ap, ◌∙◌}
use Rattle.ibos_net.proofs.Words.{Fine, Heard, IsHeard, IsSafe, IsAtDevice, Memory, NetStands, NetState, Ok, VerdictIs, WireIn, [], ◌∷◌, ◌++◌, ◌≡◌, held_in, held_to_send, hands_of}
use Rattle.ibos_net.proofs.Outcomes.{on-err, outcome-of, served-now}
use Rattle.ibos_net.proofs.Arrivals.{HeardLaws, arrive-leaves, arrive-serves, arrived-safe, with_mem}
use Rattle.ibos_net.proofs.PostMade.{frames-stay}
use Rattle.ibos_net.proofs.SendsLeft.{arrived-left, heard-left}
use Rattle.ibos_net.proofs.parts.Parts.arrive.Goals as goal

pub arrive-requires : goal.arrive-requires
arrive-requires g c =
    let p = c.self.inside in
    let t : NetState = record { med = p.med; mem = p.mem; names = p.pool; flows = p.flows; inboxes = p.inboxes; sends = p.sends } in
    let safe : IsSafe t = subst IsSafe (sym c.self.view_is) c.requires.safe in
    let device = subst (λ (s : NetState). IsAtDevice s.med s.mem (g.N.Nic.regs c.args.nic.now)) (sym c.self.view_is) c.requires.device in
    c.arrivals_keep_the_relation.ensures.condition t.med t.mem (g.N.Nic.regs c.args.nic.now) safe.memory device

pub returns-in_err-push-clause-leaves : goal.returns-in_err-push-clause-leaves
returns-in_err-push-clause-leaves g c =
    let p = c.self.inside in
    let t : NetState = record { med = p.med; mem = p.mem; names = p.pool; flows = p.flows; inboxes = p.inboxes; sends = p.sends } in
    let safe : IsSafe t = subst IsSafe (sym c.self.view_is) c.requires.safe in
    let regs = g.N.Nic.regs c.args.nic.now in
    let done = c.in_ok-verdict.ensures in
    on-err c.from_residual-in_err-push.result (λ local life remote n s each lives.
    let stands = subst (λ (x : NetState). NetStands life remote n x) (sym c.self.view_is) s in
    arrive-leaves local life remote n t c.arrive.new.mem regs (g.N.Nic.log c.args.nic.now) (g.N.Nic.log c.arrive.new.self) c.args.frame.now c.in_ok-verdict.verdict safe stands each done.verdict done.heard done.unheard_log)

pub returns-in_err-push-clause-safe : goal.returns-in_err-push-clause-safe
returns-in_err-push-clause-safe g c =
    let p = c.self.inside in
    let t : NetState = record { med = p.med; mem = p.mem; names = p.pool; flows = p.flows; inboxes = p.inboxes; sends = p.sends } in
    let safe : IsSafe t = subst IsSafe (sym c.self.view_is) c.requires.safe in
    let regs = g.N.Nic.regs c.args.nic.now in
    let device = subst (λ (s : NetState). IsAtDevice s.med s.mem regs) (sym c.self.view_is) c.requires.device in
    let laws = c.arrivals_keep_the_relation.ensures in
    let done = c.in_ok-verdict.ensures in
    let keeps = laws.keeps t.med t.mem c.arrive.new.mem regs c.args.frame.now (g.N.Nic.log c.args.nic.now) (g.N.Nic.log c.arrive.new.self) (Ok c.in_ok-verdict.verdict) safe.memory device done.verdict done.heard done.unheard_memory in
    let left = arrived-left t c.arrive.new.mem regs c.args.frame.now (g.N.Nic.log c.args.nic.now) (g.N.Nic.log c.arrive.new.self) c.in_ok-verdict.verdict done.heard done.unheard_memory (λ is h.
    heard-left t.med t.mem c.arrive.new.mem t.sends safe.memory keeps.memory c.frames_are_counted.ensures.unsent
    (c.arrivals_add_a_frame.ensures.counted t.med t.mem c.arrive.new.mem regs c.args.frame.now h.0 safe.memory device (is ∙ done.verdict) h.2)
    (c.arrivals_add_a_frame.ensures.unsent t.med t.mem c.arrive.new.mem regs c.args.frame.now h.0 safe.memory device (is ∙ done.verdict) h.2)
    (λ q there. laws.kept t.med t.mem c.arrive.new.mem regs c.args.frame.now h.0 q safe.memory device (is ∙ done.verdict) h.2
    (c.hands_are_parted.ensures.kept t.names t.mem (held_to_send t.sends) q (c.hands_are_parted.ensures.back t.names t.mem (held_in t.inboxes) (held_to_send t.sends) safe.hands) there))
    (λ q place differ. laws.buffers t.med t.mem c.arrive.new.mem regs c.args.frame.now h.0 q safe.memory device (is ∙ done.verdict) h.2 place differ)) in
    arrived-safe t c.arrive.new.mem (Ok c.in_ok-verdict.verdict) safe keeps (laws.hands t.mem c.arrive.new.mem t.names (hands_of t) regs c.args.frame.now (g.N.Nic.log c.args.nic.now) (g.N.Nic.log c.arrive.new.self) (Ok c.in_ok-verdict.verdict) safe.hands done.heard done.unheard_memory) left

pub returns-clause-safe : goal.returns-clause-safe
returns-clause-safe g c =
    let p = c.self.inside in
    let t : NetState = record { med = p.med; mem = p.mem; names = p.pool; flows = p.flows; inboxes = p.inboxes; sends = p.sends } in
    let safe : IsSafe t = subst IsSafe (sym c.self.view_is) c.requires.safe in
    let regs = g.N.Nic.regs c.args.nic.now in
    let device = subst (λ (s : NetState). IsAtDevice s.med s.mem regs) (sym c.self.view_is) c.requires.device in
    let laws = c.arrivals_keep_the_relation.ensures in
    let done = c.in_ok-verdict.ensures in
    let keeps = laws.keeps t.med t.mem c.arrive.new.mem regs c.args.frame.now (g.N.Nic.log c.args.nic.now) (g.N.Nic.log c.arrive.new.self) (Ok c.in_ok-verdict.verdict) safe.memory device done.verdict done.heard done.unheard_memory in
    let left = arrived-left t c.arrive.new.mem regs c.args.frame.now (g.N.Nic.log c.args.nic.now) (g.N.Nic.log c.arrive.new.self) c.in_ok-verdict.verdict done.heard done.unheard_memory (λ is h.
    heard-left t.med t.mem c.arrive.new.mem t.sends safe.memory keeps.memory c.frames_are_counted.ensures.unsent
    (c.arrivals_add_a_frame.ensures.counted t.med t.mem c.arrive.new.mem regs c.args.frame.now h.0 safe.memory device (is ∙ done.verdict) h.2)
    (c.arrivals_add_a_frame.ensures.unsent t.med t.mem c.arrive.new.mem regs c.args.frame.now h.0 safe.memory device (is ∙ done.verdict) h.2)
    (λ q there. laws.kept t.med t.mem c.arrive.new.mem regs c.args.frame.now h.0 q safe.memory device (is ∙ done.verdict) h.2
    (c.hands_are_parted.ensures.kept t.names t.mem (held_to_send t.sends) q (c.hands_are_parted.ensures.back t.names t.mem (held_in t.inboxes) (held_to_send t.sends) safe.hands) there))
    (λ q place differ. laws.buffers t.med t.mem c.arrive.new.mem regs c.args.frame.now h.0 q safe.memory device (is ∙ done.verdict) h.2 place differ)) in
    arrived-safe t c.arrive.new.mem (Ok c.in_ok-verdict.verdict) safe keeps (laws.hands t.mem c.arrive.new.mem t.names (hands_of t) regs c.args.frame.now (g.N.Nic.log c.args.nic.now) (g.N.Nic.log c.arrive.new.self) (Ok c.in_ok-verdict.verdict) safe.hands done.heard done.unheard_memory) left

pub returns-clause-serves : goal.returns-clause-serves
returns-clause-serves g c = λ local.
    let p = c.self.inside in
    let t : NetState = record { med = p.med; mem = p.mem; names = p.pool; flows = p.flows; inboxes = p.inboxes; sends = p.sends } in
    let safe : IsSafe t = subst IsSafe (sym c.self.view_is) c.requires.safe in
    let regs = g.N.Nic.regs c.args.nic.now in
    let log = g.N.Nic.log c.args.nic.now in
    let log' = g.N.Nic.log c.arrive.new.self in
    let frame = c.args.frame.now in
    let mem' : Memory = c.arrive.new.mem in
    let verdict = c.in_ok-verdict.verdict in
    let device = subst (λ (s : NetState). IsAtDevice s.med s.mem regs) (sym c.self.view_is) c.requires.device in
    let laws = c.arrivals_keep_the_relation.ensures in
    let more = c.arrivals_add_a_frame.ensures in
    let done = c.in_ok-verdict.ensures in
    let keeps = laws.keeps t.med t.mem mem' regs frame log log' (Ok verdict) safe.memory device done.verdict done.heard done.unheard_memory in
    let left = arrived-left t c.arrive.new.mem regs c.args.frame.now (g.N.Nic.log c.args.nic.now) (g.N.Nic.log c.arrive.new.self) c.in_ok-verdict.verdict done.heard done.unheard_memory (λ is h.
    heard-left t.med t.mem c.arrive.new.mem t.sends safe.memory keeps.memory c.frames_are_counted.ensures.unsent
    (c.arrivals_add_a_frame.ensures.counted t.med t.mem c.arrive.new.mem regs c.args.frame.now h.0 safe.memory device (is ∙ done.verdict) h.2)
    (c.arrivals_add_a_frame.ensures.unsent t.med t.mem c.arrive.new.mem regs c.args.frame.now h.0 safe.memory device (is ∙ done.verdict) h.2)
    (λ q there. laws.kept t.med t.mem c.arrive.new.mem regs c.args.frame.now h.0 q safe.memory device (is ∙ done.verdict) h.2
    (c.hands_are_parted.ensures.kept t.names t.mem (held_to_send t.sends) q (c.hands_are_parted.ensures.back t.names t.mem (held_in t.inboxes) (held_to_send t.sends) safe.hands) there))
    (λ q place differ. laws.buffers t.med t.mem c.arrive.new.mem regs c.args.frame.now h.0 q safe.memory device (is ∙ done.verdict) h.2 place differ)) in
    let front = c.hands_are_parted.ensures.front t.names t.mem (held_in t.inboxes) (held_to_send t.sends) safe.hands in
    let heard : Heard ≡ verdict → (h : IsHeard t.mem mem' regs frame log log') → HeardLaws t.med t.mem mem' t.inboxes t.sends h.0 = λ is h. record {
      counted = more.counted t.med t.mem mem' regs frame h.0 safe.memory device (is ∙ done.verdict) h.2;
      received = more.received t.med t.mem mem' regs frame h.0 safe.memory device (is ∙ done.verdict) h.2;
      stay = frames-stay c.inboxes_keep_their_frames.ensures.hands t.names t.mem mem' t.inboxes front (λ q kept. laws.kept t.med t.mem mem' regs frame h.0 q safe.memory device (is ∙ done.verdict) h.2 kept);
      areas = h.2.areas;
      left = left;
    } in
    let out = outcome-of c.push.new.self Fine (VerdictIs verdict ∷ []) (c.in_ok-push.ensures.head ∙ c.requires.head) (c.in_ok-push.ensures.ok ∙ ap (λ xs. xs ++ VerdictIs verdict ∷ []) c.requires.items) in
    served-now local (WireIn frame) _ _ t _ (with_mem mem' t) _ regs (g.N.Nic.regs c.arrive.new.self) log log' out c.self.view_is refl
    (λ life remote n s each lives. arrive-serves local life remote n t mem' regs (g.N.Nic.regs c.arrive.new.self) log log' frame verdict safe s each done.verdict done.heard done.unheard_memory done.unheard_log done.registers keeps heard)
