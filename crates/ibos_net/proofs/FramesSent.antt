-- A frame goes out: it is that of the send that was posted first of those that are not sent.
use Rattle.std.proofs.Common.{refl, sym, ◌∙◌, ap, subst, arith, inr}
use Rattle.std.proofs.lemmas.Bool.Decides.{nat_tests}
use Rattle.std.proofs.lemmas.List.{drop-map, drop_more, length-drop, length-map}
use Rattle.std.specs.Prelude.{slice_index}
use Rattle.ibos_kinds.specs.declared.act.Act.TheVariants.{WireOut}
use Rattle.ibos_kinds.specs.declared.outcome.Item.TheVariants.{Idle, SentIs}
use Rattle.ibos_nic.specs.declared.log.LogEntry.TheVariants.{Out}
use Rattle.ibos_nic.specs.Bits.{transmitted_cause}
use Rattle.ibos_nic.specs.Device.{OnSent, OnUnsent}
use Rattle.ibos_nic.specs.Registers.{after_sent, can_transmit}
use Rattle.ibos_mediate.specs.Frames.{unsent_frames}
use Rattle.ibos_model.specs.Journal.{is_sent}
use Rattle.ibos_model.specs.Rings.{can_send, next_send, sent_one}
use Rattle.ibos_send.specs.Sends.{untold_of}
use Rattle.ibos_net.proofs.Arrivals.{with_mem}
use Rattle.ibos_net.proofs.AtDevice.{AreOthers, at-device, from-device, others-of}
use Rattle.ibos_net.proofs.BuffersStay.{buffers-stay, ring-lent}
use Rattle.ibos_net.proofs.SendPosted.{buffers-at}
use Rattle.ibos_net.proofs.Words.{ℕ, ◌≡◌, ◌≢◌, ◌+◌, ◌-◌, ◌%◌, ◌<◌, ◌≤◌, ◌==◌, ◌&&◌, ◌++◌, ◌∷◌, Bool, true, false, not, List, [], None, Ok, bit_or, length, map, drop, is_some, slice_index_or, if◌then◌else◌, AreAtHand, AreOwned, AreRegisters, AreUnheldBut, CountsStand, Ctrl, Endpoint, Icr, Imc, Ims, Instance, IsAtDevice, IsInMemory, IsKept, IsPlaceIn, IsSafe, Life, Local, LogEntry, Loses, Mediated, Memory, Mpc, NetMakes, NetStands, NetState, Network, Outgoing, Place, Post, Rah0, Ral0, Receive, Reg, Registers, Ring, Rings, RingsStand, RingValues, Status, Tctl, Tdh, Tdt, Transmit, accepted, buffer_at, completed, frame_of_send, frames_of, has_place, held_in, held_to_send, homes_in, is_enabled, net_outcome, next_frame, numbers_of, posted_in, received_frames, register, ring_of, send_at, unsent_sends}

-- ---- whether a frame goes out

-- at most 63 slots apart
heads-meet : (sent rung : ℕ) → sent ≤ rung → rung < sent + 64 → (sent % 64 == rung % 64) ≡ (sent == rung)
heads-meet sent rung low high = grind (arith, nat_tests)

can-transmit : (rings : Rings) (regs : Registers) → regs Tctl ≡ rings.transmit.control → regs Tdh ≡ rings.sent % 64 → regs Tdt ≡ rings.transmit.rung % 64 → rings.sent ≤ rings.transmit.rung → rings.transmit.rung < rings.sent + 64
    → can_transmit regs ≡ can_send rings
can-transmit rings regs control head tail low high =
    ap (λ x. is_enabled x && not (regs Tdh == regs Tdt)) control ∙ ap (λ x. is_enabled rings.transmit.control && not (x == regs Tdt)) head ∙ ap (λ x. is_enabled rings.transmit.control && not (rings.sent % 64 == x)) tail
    ∙ ap (λ x. is_enabled rings.transmit.control && not x) (heads-meet rings.sent rings.transmit.rung low high)

-- the device sends where the journal says so
can-same : (local : Local) (rings : Rings) (frames : List (List ℕ)) (m : Mediated) (mem : Memory) (regs : Registers) → RingsStand rings frames m mem → IsInMemory m mem
    → ((r : Reg) → regs r ≡ register local rings r) → can_transmit regs ≡ can_send rings
can-same local rings frames m mem regs s memory is =
    let ring = memory.ring Transmit in
    let room = ring.balanced.room in
    let posted = ring.balanced.posted in
    let taken = ring.taken in
    let rung = ring.rung in
    let sent = s.sent in
    let same : rings.transmit.rung ≡ m.transmit.values.rung = ap (λ (v : RingValues). v.rung) s.transmit in
    can-transmit rings regs (is Tctl) (is Tdh) (is Tdt) (omega (arith, rung, sent, same)) (omega (arith, room, posted, taken, sent, same))

pub when-sent : (b : Bool) (P : Type 0) → b ≡ true → OnSent (Ok b) P → P
when-sent true P goes p = p
when-sent false P goes p = absurd (cc goes)

pub when-unsent : (b : Bool) (P : Type 0) → b ≡ false → OnUnsent (Ok b) P → P
when-unsent true P idle p = absurd (cc idle)
when-unsent false P idle p = p

-- ---- which frame goes out

low-first : (f : ℕ → List ℕ) (posts : List ℕ) (sent : ℕ) (x : List ℕ) (xs : List (List ℕ)) → map f (drop sent posts) ≡ x ∷ xs → sent < length posts
low-first f posts sent x xs is =
    let some = ap length is in
    let same = length-map (drop sent posts) f in
    let long = length-drop sent posts in
    omega (arith, some, same, long)

first-frame : (f : ℕ → List ℕ) (posts : List ℕ) (sent : ℕ) (x : List ℕ) (xs : List (List ℕ)) → map f (drop sent posts) ≡ x ∷ xs → (x ≡ f (slice_index posts sent)) × (xs ≡ map f (drop (sent + 1) posts))
first-frame f posts sent x xs is =
    let both : f (slice_index posts sent) ∷ map f (drop (sent + 1) posts) ≡ x ∷ xs = sym (ap (map f) (drop_more posts sent 0 (low-first f posts sent x xs is))) ∙ is in
    (cc, cc)

first-number : (posts : List ℕ) (sent k : ℕ) (ks : List ℕ) → sent < length posts → drop sent posts ≡ k ∷ ks → k ≡ slice_index posts sent
first-number posts sent k ks low is =
    let both : slice_index posts sent ∷ drop (sent + 1) posts ≡ k ∷ ks = sym (drop_more posts sent 0 low) ∙ is in
    cc

-- a send is still to be told where a frame is still to be sent
pub untold-some : (t : NetState) (frame : List ℕ) (rest : List (List ℕ)) → IsSafe t → completed Transmit t.mem t.med.transmit + length (unsent_frames t.mem t.med.transmit) ≡ t.med.transmit.values.posted
    → unsent_frames t.mem t.med.transmit ≡ frame ∷ rest → untold_of t.sends ≢ []
untold-some t frame rest safe counted is = λ none.
    let some = ap length is in
    let told = safe.told in
    let all = safe.posts.posted in
    let left : length t.sends.posts - t.sends.told ≡ 0 = sym (length-drop t.sends.told t.sends.posts) ∙ sym (length-map (drop t.sends.told t.sends.posts) (λ (post : Post). post.number)) ∙ ap length none in
    absurd (omega (arith, counted, some, told, all, left))

-- ---- the act

pub record FrameSent (m : Mediated) (mem mem' : Memory) (frame : List ℕ) (s s' : Outgoing) (send : ℕ) : Type 0 where
  pub counted : completed Transmit mem' m.transmit ≡ completed Transmit mem m.transmit + 1
  pub unsent : unsent_frames mem m.transmit ≡ frame ∷ unsent_frames mem' m.transmit
  pub heard : completed Receive mem' m.receive ≡ completed Receive mem m.receive
  pub received : received_frames mem' m.receive ≡ received_frames mem m.receive
  pub buffers : (p : Place) → IsPlaceIn (length mem) p → buffer_at mem' p ≡ buffer_at mem p
  pub areas : length mem' ≡ length mem
  pub untold : untold_of s ≡ send ∷ untold_of s'
  pub homes : s'.homes ≡ s.homes
  pub waiting : s'.waiting ≡ s.waiting
  pub posts : s'.posts ≡ s.posts
  pub returned : s'.returned ≡ s.returned
  pub told : s'.told ≡ s.told + 1

abbrev pub sent-made : NetState → Memory → Outgoing → NetState
sent-made t mem' s' = record t { mem = mem'; sends = s' }

others-sent : (local : Local) (rings : Rings) (regs regs' : Registers) → ((r : Reg) → regs' r ≡ after_sent regs r) → AreOthers local rings regs → AreOthers local (sent_one rings) regs'
others-sent local rings regs regs' each o = record {
  ctrl = each Ctrl ∙ o.ctrl;
  status = each Status ∙ o.status;
  icr = each Icr ∙ ap (λ x. bit_or x transmitted_cause) o.icr;
  ims = each Ims ∙ o.ims;
  imc = each Imc ∙ o.imc;
  mpc = each Mpc ∙ o.mpc;
  ral0 = each Ral0 ∙ o.ral0;
  rah0 = each Rah0 ∙ o.rah0;
}

rings-sent : (rings : Rings) (frames : List (List ℕ)) (m : Mediated) (mem mem' : Memory) (frame : List ℕ) (s s' : Outgoing) (send : ℕ) → FrameSent m mem mem' frame s s' send → RingsStand rings frames m mem → RingsStand (sent_one rings) frames m mem'
rings-sent rings frames m mem mem' frame s s' send e r = record {
  receive = r.receive;
  transmit = r.transmit;
  names = r.names;
  turns = r.turns;
  heard = r.heard ∙ sym e.heard;
  pending = r.pending ∙ sym e.received;
  sent = ap (λ k. k + 1) r.sent ∙ sym e.counted;
}

counts-sent : (n : Network) (s s' : Outgoing) → s'.waiting ≡ s.waiting → s'.posts ≡ s.posts → s'.told ≡ s.told + 1 → CountsStand n s → CountsStand (record n { rings = sent_one n.rings }) s'
counts-sent n s s' waiting posts told c = record {
  count = ap length waiting ∙ c.count;
  posts = c.posts ∙ sym (ap numbers_of posts);
  told = ap (λ k. k + 1) c.told ∙ sym told;
  waiting = λ k. ap (λ ws. is_some (slice_index_or ws k None)) waiting ∙ c.waiting k;
  below = c.below;
}

-- the frame and the number are the journal's next
next-sent : (n : Network) (m : Mediated) (mem mem' : Memory) (frame : List ℕ) (s s' : Outgoing) (send : ℕ) → FrameSent m mem mem' frame s s' send → unsent_frames mem m.transmit ≡ unsent_sends n → CountsStand n s
    → (frame ≡ next_frame n) × (send ≡ next_send n.rings) × (unsent_frames mem' m.transmit ≡ unsent_sends (record n { rings = sent_one n.rings }))
next-sent n m mem mem' frame s s' send e unsent c =
    let f : ℕ → List ℕ = λ k. frame_of_send (send_at n.sends k) in
    let is : map f (drop n.rings.sent n.rings.posts) ≡ frame ∷ unsent_frames mem' m.transmit = sym unsent ∙ e.unsent in
    let first = first-frame f n.rings.posts n.rings.sent frame (unsent_frames mem' m.transmit) is in
    let numbers : drop n.rings.sent n.rings.posts ≡ send ∷ untold_of s' = ap (λ k. drop k n.rings.posts) c.told ∙ ap (drop s.told) c.posts ∙ drop-map (λ (post : Post). post.number) s.told s.posts ∙ e.untold in
    (first.0, first-number n.rings.posts n.rings.sent send (untold_of s') (low-first f n.rings.posts n.rings.sent frame (unsent_frames mem' m.transmit) is) numbers, first.1)

pub sent-serves : (local : Local) (life : Instance → Life) (remote : Instance → Endpoint) (n : Network) (t : NetState) (mem' : Memory) (s' : Outgoing) (regs regs' : Registers) (log log' : List LogEntry) (frame : List ℕ) (send : ℕ)
    → FrameSent t.med t.mem mem' frame t.sends s' send → true ≡ can_transmit regs → log' ≡ Out frame ∷ log → ((r : Reg) → regs' r ≡ after_sent regs r) → IsInMemory t.med mem' → (IsAtDevice t.med t.mem regs → IsAtDevice t.med mem' regs')
    → ((p : Place) → has_place (held_to_send t.sends) p ≡ true → IsKept t.mem p) → ((who : Instance) → frames_of mem' t.inboxes who ≡ frames_of t.mem t.inboxes who)
    → IsSafe t → NetStands life remote n t → AreRegisters local n regs → NetMakes local life remote n WireOut (accepted (SentIs send ∷ [])) (sent-made t mem' s') regs' log log'
sent-serves local life remote n t mem' s' regs regs' log log' frame send e goes logs has memory device kept stay safe s each =
    let can : true ≡ can_send n.rings = goes ∙ can-same local n.rings n.pending t.med t.mem regs s.rings safe.memory each in
    let next = next-sent n t.med t.mem mem' frame t.sends s' send e s.unsent s.counts in
    let stand = rings-sent n.rings n.pending t.med t.mem mem' frame t.sends s' send e s.rings in
    let moved = buffers-stay life n.sends n.buffers n.away t.sends.homes t.sends.waiting (posted_in t.sends) t.med.transmit.held t.mem mem' (λ p there. e.buffers p (kept p there).place) (λ p there. e.buffers p (ring-lent t.med t.mem p safe.memory there).place) s.buffers in
    record {
      outcome = ap (λ k. accepted (SentIs k ∷ [])) next.1 ∙ ap (λ b. if b then accepted (SentIs (next_send n.rings) ∷ []) else accepted (Idle ∷ [])) can;
      stands = record {
        rings = stand;
        ears = s.ears;
        unread = λ p alive. stay p ∙ s.unread p alive;
        closed = s.closed;
        unsending = λ p gone. ap (λ h. homes_in h p) e.homes ∙ s.unsending p gone;
        counts = counts-sent n t.sends s' e.waiting e.posts e.told s.counts;
        buffers = buffers-at life n.sends n.buffers n.away t.sends.homes s'.homes t.sends.waiting s'.waiting (posted_in t.sends) (posted_in s') t.med.transmit.held t.med.transmit.held mem'
            e.homes e.waiting (ap (λ k. drop k s'.posts) e.returned ∙ ap (drop t.sends.returned) e.posts) refl moved;
        unsent = next.2;
        areas = s.areas ∙ sym e.areas;
      };
      registers = from-device local (sent_one n.rings) n.pending t.med mem' regs' stand memory (device (at-device local n.rings n.pending t.med t.mem regs s.rings safe.memory each)) (others-sent local n.rings regs regs' has (others-of local n.rings regs each));
      log = logs ∙ ap (λ f. Out f ∷ log) next.0;
    }

-- a frame that went out, where there is then no memory for the outcome
pub sent-leaves : (local : Local) (life : Instance → Life) (remote : Instance → Endpoint) (n : Network) (t : NetState) (mem' : Memory) (s' : Outgoing) (regs : Registers) (log log' : List LogEntry) (frame : List ℕ) (send : ℕ)
    → FrameSent t.med t.mem mem' frame t.sends s' send → true ≡ can_transmit regs → log' ≡ Out frame ∷ log → IsSafe t → NetStands life remote n t → AreRegisters local n regs
    → Loses (net_outcome local life remote n WireOut) WireOut (next_frame n) log log'
sent-leaves local life remote n t mem' s' regs log log' frame send e goes logs safe s each =
    let can : true ≡ can_send n.rings = goes ∙ can-same local n.rings n.pending t.med t.mem regs s.rings safe.memory each in
    let next = next-sent n t.med t.mem mem' frame t.sends s' send e s.unsent s.counts in
    inr (inr (subst (λ b. is_sent (if b then accepted (SentIs (next_send n.rings) ∷ []) else accepted (Idle ∷ [])) ≡ true) can refl, logs ∙ ap (λ f. Out f ∷ log) next.0))

-- no frame goes out
pub idle-serves : (local : Local) (life : Instance → Life) (remote : Instance → Endpoint) (n : Network) (t : NetState) (mem' : Memory) (regs regs' : Registers) (log log' : List LogEntry)
    → false ≡ can_transmit regs → mem' ≡ t.mem → log' ≡ log → ((r : Reg) → regs' r ≡ regs r) → IsSafe t → NetStands life remote n t → AreRegisters local n regs
    → NetMakes local life remote n WireOut (accepted (Idle ∷ [])) (with_mem mem' t) regs' log log'
idle-serves local life remote n t mem' regs regs' log log' idle is logs same safe s each =
    let can : false ≡ can_send n.rings = idle ∙ can-same local n.rings n.pending t.med t.mem regs s.rings safe.memory each in
    record {
      outcome = ap (λ b. if b then accepted (SentIs (next_send n.rings) ∷ []) else accepted (Idle ∷ [])) can;
      stands = subst (λ x. NetStands life remote n (with_mem x t)) (sym is) s;
      registers = λ r. same r ∙ each r;
      log = logs;
    }

pub sent-safe : (t : NetState) (mem' : Memory) (s' : Outgoing) (frame : List ℕ) (send : ℕ) → IsSafe t → FrameSent t.med t.mem mem' frame t.sends s' send → IsInMemory t.med mem' → ((ring : Ring) → AreOwned ring (ring_of t.med ring) t.names) → AreUnheldBut [] t.med t.names mem'
    → AreAtHand t.names mem' (held_in t.inboxes ++ held_to_send t.sends) → held_to_send s' ≡ held_to_send t.sends → IsSafe (sent-made t mem' s')
sent-safe t mem' s' frame send safe e memory owned unheld hands held = record {
  memory = memory;
  owned = owned;
  unheld = unheld;
  hands = subst (λ hs. AreAtHand t.names mem' (held_in t.inboxes ++ hs)) (sym held) hands;
  beside = safe.beside;
  sending = λ p bound none. safe.sending p bound (ap (λ h. homes_in h p) (sym e.homes) ∙ none);
  posts = record { posted = safe.posts.posted ∙ ap length (sym e.posts); taken = safe.posts.taken ∙ sym e.returned };
  told = e.told ∙ ap (λ k. k + 1) safe.told ∙ sym e.counted;
}
