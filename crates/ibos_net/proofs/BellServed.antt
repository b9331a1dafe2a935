-- A receive bell makes of the net half what the journal says.
use Rattle.std.proofs.Common.{refl, sym, ◌∙◌, ap, subst, arith}
use Rattle.std.specs.Prelude.{filter}
use Rattle.ibos_mediate.specs.Frames.{unsent_frames}
use Rattle.ibos_net.proofs.SendsLeft.{SendsLeft, counts-moved, left-buffers}
use Rattle.ibos_net.proofs.Words.{next_frame, network_by, true, RingView, address_of, buffer_bytes, bytes_at, held_to_send, Transmit, ℕ, ◌≡◌, ◌≢◌, ◌≤◌, ◌+◌, ◌-◌, ◌++◌, List, [], Option, None, Alive, AreAtHand, AreOwned, AreUnheld, Ring, RingValues, ring_of, AreRegisters, Arrival, Endpoint, Inboxes, Instance, IsAtDevice, IsInMemory, IsSafe, Item, Life, Gone, Unborn, Local, LogEntry, Mediated, Memory, Names, NetMakes, NetStands, NetState, Network, Page, Receive, Registers, RxBell, accepted, after_bell, arrivals, bell_over, belled, bound_by, completed, ear_with, frames_of, handles_after, held_in, inbox_by, is_to, length, map, received_frames, unread_count, unread_of, got_for}
use Rattle.ibos_kinds.specs.Bells.{bell, frames_in}
use Rattle.ibos_model.specs.Journal.{kind_in}
use Rattle.ibos_model.specs.Logs.{log_by}
use Rattle.ibos_net.proofs.AtDevice.{at-device, from-device, others-of}
use Rattle.ibos_net.proofs.PostMade.{others-like}
use Rattle.ibos_net.proofs.BellItems.{bell-agrees, bell-front, bell-kind}
use Rattle.ibos_net.proofs.RingsBelled.{handles-front, rings-belled, taken-by}

-- who hears lives
hearing : (life : Life) (remote : Endpoint) (flows : List (Option _)) → ear_with life remote flows ≢ None → life ≡ Alive
hearing Alive remote flows hears = refl
hearing Unborn remote flows hears = absurd (hears refl)
hearing Gone remote flows hears = absurd (hears refl)

-- what is received and not taken back has a buffer
pub few-held : (m : Mediated) (mem : Memory) → IsInMemory m mem → completed Receive mem m.receive - m.receive.values.taken ≤ length m.receive.held
few-held m mem memory =
    let ring = memory.ring Receive in
    let rung = ring.rung in
    let posted = ring.balanced.posted in
    let held = ring.balanced.held in
    omega arith

pub items-same : (local : Local) (life : Instance → Life) (remote : Instance → Endpoint) (n : Network) (t : NetState) → IsSafe t → NetStands life remote n t
    → map (λ (a : Arrival). a.bytes) (arrivals t.mem t.med) ≡ received_frames t.mem t.med.receive
    → completed Receive t.mem t.med.receive ≡ t.med.receive.values.taken + length (received_frames t.mem t.med.receive)
    → ((p : Instance) → length (frames_of t.mem t.inboxes p) ≡ unread_of t.inboxes p)
    → bell_over local (bound_by t.flows) (unread_of t.inboxes) (arrivals t.mem t.med) ≡ bell local (λ p. ear_with (life p) (remote p) (n.flows p)) (unread_count n) (handles_after n.rings) n.pending
items-same local life remote n t safe s bytes counted counts =
    let count : ℕ = completed Receive t.mem t.med.receive - t.med.receive.values.taken in
    let heard : List (List ℕ) = map (λ (a : Arrival). a.bytes) (arrivals t.mem t.med) in
    let few : length heard ≤ count = subst (λ xs. length xs ≤ count) (sym bytes) (omega (arith, counted)) in
    ap (λ hs. bell local (bound_by t.flows) (unread_of t.inboxes) hs heard) (handles-front n.rings n.pending t.med t.mem s.rings (few-held t.med t.mem safe.memory))
    ∙ bell-front local (bound_by t.flows) (unread_of t.inboxes) heard (handles_after n.rings) count few
    ∙ ap (λ ws. bell local (bound_by t.flows) (unread_of t.inboxes) (handles_after n.rings) ws) (bytes ∙ sym s.rings.pending)
    ∙ bell-agrees local (λ p. ear_with (life p) (remote p) (n.flows p)) (bound_by t.flows) (unread_count n) (unread_of t.inboxes) s.ears
    (λ p hears. sym (counts p) ∙ ap length (s.unread p (hearing (life p) (remote p) (n.flows p) hears))) (handles_after n.rings) n.pending

-- the net half after the bell
abbrev pub after : NetState → Mediated → Memory → Names → Inboxes → NetState
after t med mem names inboxes = record { med = med; mem = mem; names = names; flows = t.flows; inboxes = inboxes; sends = t.sends }

-- a bell leaves what is to be sent: it writes no byte
pub bell-left : (t : NetState) (med : Mediated) (mem : Memory) → med.transmit ≡ t.med.transmit → completed Transmit mem med.transmit ≡ completed Transmit t.mem t.med.transmit → unsent_frames mem med.transmit ≡ unsent_frames t.mem t.med.transmit
    → ((from n : ℕ) → bytes_at mem from n ≡ bytes_at t.mem from n) → SendsLeft t.med med t.mem mem t.sends
bell-left t med mem transmit done unsent bytes = record {
  held = ap (λ (r : RingView). r.held) transmit;
  done = done;
  unsent = unsent;
  home = λ p there. bytes (address_of p) buffer_bytes;
  lent = λ p there. bytes (address_of p) buffer_bytes;
  posts = λ posts. record { posted = ap (λ (r : RingView). r.values.posted) transmit ∙ posts.posted; taken = ap (λ (r : RingView). r.values.taken) transmit ∙ posts.taken };
}

pub bell-serves : (local : Local) (life : Instance → Life) (remote : Instance → Endpoint) (n : Network) (t : NetState) (med : Mediated) (mem : Memory) (names : Names) (inboxes : Inboxes) (regs : Registers) (log : List LogEntry) (items : List Item)
    → IsSafe t → NetStands life remote n t → AreRegisters local n regs
    → items ≡ bell local (λ p. ear_with (life p) (remote p) (n.flows p)) (unread_count n) (handles_after n.rings) n.pending
    → ((p : Instance) → frames_of mem inboxes p ≡ frames_of t.mem t.inboxes p ++ frames_in (filter (is_to (Page p)) items))
    → med ≡ after_bell Receive t.mem t.med → med.transmit ≡ t.med.transmit → completed Receive mem med.receive ≡ completed Receive t.mem t.med.receive → received_frames mem med.receive ≡ []
    → ((p : Instance) → inbox_by t.inboxes p ≡ None → inbox_by inboxes p ≡ None) → IsInMemory med mem → ((r : Registers) → IsAtDevice t.med t.mem r → IsAtDevice med mem r)
    → length names ≡ length t.names → length mem ≡ length t.mem → SendsLeft t.med med t.mem mem t.sends
    → NetMakes local life remote n RxBell (accepted items) (after t med mem names inboxes) regs log log
bell-serves local life remote n t med mem names inboxes regs log items safe s each is frames belled-by transmit done none closed memory device names-same areas-same left =
    let stand = rings-belled n.rings n.pending t.med med t.mem mem s.rings (few-held t.med t.mem safe.memory) belled-by transmit done none left.done in
    record {
      outcome = ap accepted is;
      stands = record {
        rings = stand;
        ears = s.ears;
        unread = λ p alive. frames p ∙ ap (λ xs. xs ++ frames_in (filter (is_to (Page p)) items)) (s.unread p alive);
        closed = λ p gone. closed p (s.closed p gone);
        unsending = s.unsending;
        counts = counts-moved n (network_by true RxBell (accepted items) (got_for (accepted items) log) n) t.sends refl refl refl s.counts;
        buffers = left-buffers t.med med t.mem mem t.sends life n left s.buffers;
        unsent = left.unsent ∙ s.unsent;
        areas = names-same ∙ s.areas ∙ sym areas-same;
      };
      registers = from-device local (belled n.rings) [] med mem regs stand memory (device regs (at-device local n.rings n.pending t.med t.mem regs s.rings safe.memory each)) (others-like local n.rings (belled n.rings) regs refl refl refl (others-of local n.rings regs each));
      log = ap (λ k. log_by k [] (got_for (accepted items) log) (next_frame n) log) (sym (ap kind_in is ∙ bell-kind local (λ p. ear_with (life p) (remote p) (n.flows p)) (unread_count n) n.pending (handles_after n.rings)));
    }

pub bell-posts : (m m' : Mediated) (mem : Memory) → IsInMemory m mem → m' ≡ after_bell Receive mem m → m'.receive.values.posted ≡ m.receive.values.posted
bell-posts m m' mem memory is =
    let taken = taken-by (completed Receive mem m.receive - m.receive.values.taken) m (few-held m mem memory) in
    ap (λ (x : Mediated). x.receive.values.posted) is ∙ ap (λ (v : RingValues). v.posted) taken.values

pub belled-safe : (t : NetState) (med : Mediated) (mem : Memory) (names : Names) (inboxes : Inboxes) → IsSafe t → IsInMemory med mem → ((ring : Ring) → AreOwned ring (ring_of med ring) names) → AreUnheld med names mem
    → AreAtHand names mem (held_in inboxes ++ held_to_send t.sends) → ((p : Instance) → inbox_by inboxes p ≡ None → inbox_by t.inboxes p ≡ None) → SendsLeft t.med med t.mem mem t.sends → IsSafe (after t med mem names inboxes)
belled-safe t med mem names inboxes safe memory owned unheld hands closed left = record {
  memory = memory;
  owned = owned;
  unheld = unheld;
  hands = hands;
  beside = λ p there none. safe.beside p there (closed p none);
  sending = safe.sending;
  posts = left.posts safe.posts;
  told = safe.told ∙ sym left.done;
}
