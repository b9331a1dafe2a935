-- A receive buffer is posted: no frame changes.
use Rattle.std.proofs.Common.{refl, sym, ◌∙◌, ap, subst, arith, inr}
use Rattle.std.proofs.lemmas.List.{append-nil, map-append}
use Rattle.ibos_mediate.specs.Frames.{unsent_frames}
use Rattle.ibos_mediate.specs.Mediated.{IsBalanced}
use Rattle.ibos_net.proofs.BuffersStay.{ring-lent}
use Rattle.ibos_net.proofs.SendsLeft.{SendsLeft, counts-moved, done-by, left-buffers}
use Rattle.ibos_net.proofs.Words.{Rule, Some, denied, hands_of, held_to_send, IsInMemory, Outgoing, true, Transmit, ℕ, ◌≡◌, ◌≤◌, ◌+◌, ◌++◌, ◌∷◌, List, [], None, length, false, Handle, Held, Local, Mediated, Memory, Names, Network, Rings, RingsStand, RingView, RingValues, Registers, Receive, Ring, Place, completed, received_frames, ring_changed, changed, Posts, IsPosted, descriptor_at, address_of, buffer_at, IsKept, IsPlaceIn, has_place, ring_base, ring_room, descriptor_bytes, buffer_bytes, receive_buffer, receive_name, receive_rule, names_of, Keeps, SameRegisters, IsClaimedFor, held_in, frames_of, AreAtHand, Inboxes, Instance, Life, Endpoint, NetStands, NetMakes, NetState, AreRegisters, IsSafe, RxPost, posted, accepted, answer, LogEntry}
use Rattle.ibos_net.proofs.AtDevice.{AreOthers, at-device, from-device, others-of}

-- registers that no ring's change is seen in
pub others-like : (local : Local) (rings rings' : Rings) (regs : Registers) → rings'.causes ≡ rings.causes → rings'.mask ≡ rings.mask → rings'.missed ≡ rings.missed → AreOthers local rings regs → AreOthers local rings' regs
others-like local rings rings' regs causes mask missed o = record { ctrl = o.ctrl; status = o.status; icr = o.icr ∙ sym causes; ims = o.ims ∙ sym mask; imc = o.imc; mpc = o.mpc ∙ sym missed; ral0 = o.ral0; rah0 = o.rah0 }

-- frames stay where the buffers do that are not lent
abbrev pub FramesStay : Type 0
FramesStay = (names : Names) (mem mem' : Memory) (inboxes : Inboxes) (more : List Held) → AreAtHand names mem (held_in inboxes ++ more)
    → ((p : Place) → IsKept mem p → has_place more p ≡ false → buffer_at mem' p ≡ buffer_at mem p) → (who : Instance) → frames_of mem' inboxes who ≡ frames_of mem inboxes who

pub frames-stay : FramesStay → (names : Names) (mem mem' : Memory) (inboxes : Inboxes) → AreAtHand names mem (held_in inboxes) → ((p : Place) → IsKept mem p → buffer_at mem' p ≡ buffer_at mem p)
    → (who : Instance) → frames_of mem' inboxes who ≡ frames_of mem inboxes who
frames-stay law names mem mem' inboxes hands same = law names mem mem' inboxes [] (subst (λ hs. AreAtHand names mem hs) (sym (append-nil (held_in inboxes))) hands) (λ p kept none. same p kept)

-- a descriptor lies apart from all buffers
pub buffer-stays : ((areas : ℕ) (ring : Ring) (p : Place) → IsPlaceIn areas p → ring_base ring + ring_room ≤ address_of p) → (mem mem' : Memory) (number : ℕ) (descriptor : List ℕ) (place p : Place)
    → length descriptor ≡ descriptor_bytes → IsPosted mem mem' (descriptor_at Receive number) descriptor place → IsKept mem p → buffer_at mem' p ≡ buffer_at mem p
buffer-stays behind mem mem' number descriptor place p size is kept =
    let low = behind (length mem) Receive p kept.place in
    is.others (address_of p) buffer_bytes (inr (omega arith))

pub rings-posted : (rings : Rings) (frames : List (List ℕ)) (m : Mediated) (mem mem' : Memory) (h : Held) (handle : Handle) → RingsStand rings frames m mem → h.name ≡ receive_name handle.name
    → ((mem : Memory) (r : RingView) → completed Receive mem r ≡ r.values.taken + length (received_frames mem r))
    → received_frames mem' (ring_changed m.receive (Posts h)) ≡ received_frames mem m.receive → completed Transmit mem' m.transmit ≡ completed Transmit mem m.transmit
    → RingsStand (posted handle rings) frames (changed Receive (Posts h) m) mem'
rings-posted rings frames m mem mem' h handle s name counted received done = record {
  receive = ap (λ (v : RingValues). record v { posted = v.posted + 1 }) s.receive;
  transmit = s.transmit;
  names = ap (λ xs. xs ++ receive_name handle.name ∷ []) s.names ∙ ap (λ x. names_of m.receive ++ x ∷ []) (sym name) ∙ sym (map-append (λ (k : Held). k.name) m.receive.held (h ∷ []));
  turns = s.turns;
  heard = s.heard ∙ counted mem m.receive ∙ ap (λ xs. m.receive.values.taken + length xs) (sym received) ∙ sym (counted mem' (ring_changed m.receive (Posts h)));
  pending = s.pending ∙ sym received;
  sent = s.sent ∙ sym done;
}

rule-is : (rings : Rings) (frames : List (List ℕ)) (m : Mediated) (mem : Memory) (slot : ℕ) (handle : Handle) → RingsStand rings frames m mem
    → receive_rule rings.receive rings.names rings.turns slot handle ≡ receive_rule m.receive.values (names_of m.receive) m.turns slot handle
rule-is rings frames m mem slot handle s =
    ap (λ v. receive_rule v rings.names rings.turns slot handle) s.receive ∙ ap (λ xs. receive_rule m.receive.values xs rings.turns slot handle) s.names
    ∙ ap (λ ts. receive_rule m.receive.values (names_of m.receive) ts slot handle) s.turns

-- a post that is refused
pub refused-serves : (local : Local) (life : Instance → Life) (remote : Instance → Endpoint) (n : Network) (t : NetState) (regs : Registers) (log : List LogEntry) (slot : ℕ) (handle : Handle) (rule : Rule)
    → NetStands life remote n t → AreRegisters local n regs → receive_rule t.med.receive.values (names_of t.med.receive) t.med.turns slot handle ≡ Some rule → NetMakes local life remote n (RxPost slot handle) (denied rule) t regs log log
refused-serves local life remote n t regs log slot handle rule s each breaks = record {
  outcome = sym (ap answer (rule-is n.rings n.pending t.med t.mem slot handle s.rings ∙ breaks));
  stands = s;
  registers = each;
  log = refl;
}

-- the net half after the post
abbrev pub post-made : NetState → Held → Memory → Names → NetState
post-made t h mem' names' = record { med = changed Receive (Posts h) t.med; mem = mem'; names = names'; flows = t.flows; inboxes = t.inboxes; sends = t.sends }

pub posted-safe : (t : NetState) (h : Held) (mem' : Memory) (names' : Names) → IsSafe t → Keeps [] t.med (changed Receive (Posts h) t.med) t.mem mem' SameRegisters (IsClaimedFor Receive h) → IsClaimedFor Receive h t.names names'
    → AreAtHand names' mem' (hands_of t) → SendsLeft t.med (changed Receive (Posts h) t.med) t.mem mem' t.sends → IsSafe (post-made t h mem' names')
posted-safe t h mem' names' safe keeps claimed hands left = record {
  memory = keeps.memory;
  owned = λ ring. keeps.owned t.names names' claimed ring (safe.owned ring);
  unheld = keeps.unheld t.names names' claimed [] safe.unheld;
  hands = hands;
  beside = safe.beside;
  sending = safe.sending;
  posts = left.posts safe.posts;
  told = safe.told ∙ sym left.done;
}

-- a descriptor lies apart from all buffers, and names a buffer that is in no ring
pub posted-left : ((areas : ℕ) (ring : Ring) (p : Place) → IsPlaceIn areas p → ring_base ring + ring_room ≤ address_of p) → ((x : Memory) (v : RingView) → IsBalanced v → completed Transmit x v + length (unsent_frames x v) ≡ v.values.posted)
    → (names : Names) (m : Mediated) (mem mem' : Memory) (s : Outgoing) (h : Held) (descriptor : List ℕ) → IsInMemory m mem → AreAtHand names mem (held_to_send s) → ((held : List Held) (p : Place) → AreAtHand names mem held → has_place held p ≡ true → IsKept mem p)
    → unsent_frames mem' m.transmit ≡ unsent_frames mem m.transmit → length descriptor ≡ descriptor_bytes → IsPosted mem mem' (descriptor_at Receive m.receive.values.posted) descriptor h.place → SendsLeft m (changed Receive (Posts h) m) mem mem' s
posted-left behind law names m mem mem' s h descriptor memory hands kept unsent size is =
    let stays : (p : Place) → IsPlaceIn (length mem) p → buffer_at mem' p ≡ buffer_at mem p = λ p place. let low = behind (length mem) Receive p place in is.others (address_of p) buffer_bytes (inr (omega arith)) in
    record {
      held = refl;
      done = done-by mem mem' m.transmit law (memory.ring Transmit).balanced unsent;
      unsent = unsent;
      home = λ p there. stays p (kept (held_to_send s) p hands there).place;
      lent = λ p there. stays p (ring-lent m mem p memory there).place;
      posts = λ posts. record { posted = posts.posted; taken = posts.taken };
    }

pub posted-serves : (local : Local) (life : Instance → Life) (remote : Instance → Endpoint) (n : Network) (t : NetState) (mem' : Memory) (names' : Names) (regs : Registers) (log : List LogEntry) (slot : ℕ) (handle : Handle)
    → let h : Held = receive_buffer t.names handle.name in
    ((mem : Memory) (r : RingView) → completed Receive mem r ≡ r.values.taken + length (received_frames mem r))
    → received_frames mem' (ring_changed t.med.receive (Posts h)) ≡ received_frames t.mem t.med.receive
    → ((who : Instance) → frames_of mem' t.inboxes who ≡ frames_of t.mem t.inboxes who) → SendsLeft t.med (changed Receive (Posts h) t.med) t.mem mem' t.sends
    → IsSafe t → NetStands life remote n t → AreRegisters local n regs
    → receive_rule t.med.receive.values (names_of t.med.receive) t.med.turns slot handle ≡ None
    → Keeps [] t.med (changed Receive (Posts h) t.med) t.mem mem' SameRegisters (IsClaimedFor Receive h) → IsClaimedFor Receive h t.names names' → length mem' ≡ length t.mem
    → NetMakes local life remote n (RxPost slot handle) (accepted []) (post-made t h mem' names') regs log log
posted-serves local life remote n t mem' names' regs log slot handle counted received stay left safe s each none keeps claimed areas =
    let h : Held = receive_buffer t.names handle.name in
    let stand = rings-posted n.rings n.pending t.med t.mem mem' h handle s.rings refl counted received left.done in
    let device = keeps.device regs regs refl (at-device local n.rings n.pending t.med t.mem regs s.rings safe.memory each) in
    record {
      outcome = sym (ap answer (rule-is n.rings n.pending t.med t.mem slot handle s.rings ∙ none));
      stands = record {
        rings = stand;
        ears = s.ears;
        unread = λ p alive. stay p ∙ s.unread p alive;
        closed = s.closed;
        unsending = s.unsending;
        counts = counts-moved n (record n { rings = posted handle n.rings }) t.sends refl refl refl s.counts;
        buffers = left-buffers t.med (changed Receive (Posts h) t.med) t.mem mem' t.sends life n left s.buffers;
        unsent = left.unsent ∙ s.unsent;
        areas = claimed.claimed.areas ∙ s.areas ∙ sym areas;
      };
      registers = from-device local (posted handle n.rings) n.pending (changed Receive (Posts h) t.med) mem' regs stand keeps.memory device (others-like local n.rings (posted handle n.rings) regs refl refl refl (others-of local n.rings regs each));
      log = refl;
    }
