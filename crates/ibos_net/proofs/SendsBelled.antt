-- A transmit bell makes of the net half what the journal says.
use Rattle.std.proofs.Common.{refl, sym, ◌∙◌, ap, subst, arith}
use Rattle.std.proofs.lemmas.List.{drop-map, take-append-drop}
use Rattle.std.specs.List.{All}
use Rattle.ibos_kinds.specs.declared.outcome.Item.{Item}
use Rattle.ibos_kinds.specs.Sends.{homes_of as homes_returned, returned_items}
use Rattle.ibos_mediate.specs.Frames.{returns, unsent_frames}
use Rattle.ibos_send.specs.Returns.{IsSendOf, after_returns}
use Rattle.ibos_model.specs.Journal.{Nothing, kind_in}
use Rattle.ibos_model.specs.Logs.{log_by}
use Rattle.ibos_model.specs.Network.{homed, is_over, return_items}
use Rattle.ibos_model.specs.Rings.{outbound, returned, returned_by}
use Rattle.ibos_net.proofs.AtDevice.{at-device, from-device, others-of}
use Rattle.ibos_net.proofs.BellItems.{front-read}
use Rattle.ibos_net.proofs.BuffersStay.{buffers-stay, ring-lent}
use Rattle.ibos_net.proofs.PostMade.{others-like}
use Rattle.ibos_net.proofs.SentReturned.{buffers-away, returned-all, sends-of}
use Rattle.ibos_net.proofs.Words.{AreAtHand, AreOwned, AreRegisters, AreUnheld, Bool, BuffersStand, CountsStand, Endpoint, Held, Homes, Instance, IsAtDevice, IsInMemory, IsInRing, IsKept, IsPlaceIn, IsSafe, Life, List, Local, LogEntry, Mediated, Memory, Names, NetMakes, NetStands, NetState, Network, None, Option, Outgoing, Place, Post, Receive, Registers, Ring, RingValues, RingView, RingsStand, Send, Some, Transmit, accepted, after_bell, buffer_at, completed, drop, ear_with, false, frames_of, got_for, has_place, held_for, held_in, held_to_send, homes_by, is_open, is_some, length, names_of, next_frame, no_buffer, numbers_of, posted_in, received_frames, ring_of, slice_index_or, suc, take, true, zero, ℕ, [], ◌+◌, ◌++◌, ◌-◌, ◌∷◌, ◌≡◌, ◌≤◌}
use Rattle.ibos_kinds.specs.declared.act.Act.TheVariants.{TxBell}
use Rattle.ibos_mediate.specs.Frames.{take_back}

-- ---- the ring

record IsTakenBack (m m' : Mediated) (count : ℕ) : Type 0 where
  values : m'.transmit.values ≡ record m.transmit.values { taken = m.transmit.values.taken + count }
  held : m'.transmit.held ≡ drop count m.transmit.held

abbrev mediated : RingView → RingValues → List Held → List ℕ → Mediated
mediated receive values held turns = record { receive = receive; transmit = record { values = values; held = held }; turns = turns }

drop-next : (count : ℕ) (held : List Held) → drop count (drop 1 held) ≡ drop (suc count) held
drop-next zero [] = refl
drop-next (suc count) [] = refl
drop-next count (h ∷ held) = refl

taken-parts : (count : ℕ) (receive : RingView) (values : RingValues) (held : List Held) (turns : List ℕ) → IsTakenBack (mediated receive values held turns) (take_back Transmit count (mediated receive values held turns)) count
unfolding take_back
taken-parts zero receive values held turns = record { values = ap (λ n. record values { taken = n }) (omega arith); held = refl }
taken-parts (suc count) receive values held turns =
    let rest = taken-parts count receive (record values { taken = values.taken + 1 }) (drop 1 held) turns in
    record { values = rest.values ∙ ap (λ n. record values { taken = n }) (omega arith); held = rest.held ∙ drop-next count held }

taken-by : (count : ℕ) (m m' : Mediated) → m' ≡ take_back Transmit count m → IsTakenBack m m' count
taken-by count m m' is = subst (λ x. IsTakenBack m x count) (sym is) (taken-parts count m.receive m.transmit.values m.transmit.held m.turns)

-- what is sent and not taken back has a buffer
few-sent : (m : Mediated) (mem : Memory) → IsInMemory m mem → completed Transmit mem m.transmit - m.transmit.values.taken ≤ length m.transmit.held
few-sent m mem memory =
    let ring = memory.ring Transmit in
    let rung = ring.rung in
    let posted = ring.balanced.posted in
    let held = ring.balanced.held in
    omega arith

-- the buffers that come back are the first of those in the ring
returns-first : (m : Mediated) (mem : Memory) → IsInMemory m mem → returns mem m.transmit ++ drop (completed Transmit mem m.transmit - m.transmit.values.taken) m.transmit.held ≡ m.transmit.held
returns-first m mem memory =
    let count : ℕ = completed Transmit mem m.transmit - m.transmit.values.taken in
    ap (λ hs. hs ++ drop count m.transmit.held)
    (front-read m.transmit.held count (held_for m.transmit) m.transmit.values.taken (λ i. ap (λ n. slice_index_or m.transmit.held n no_buffer) (omega arith)) (few-sent m mem memory))
    ∙ take-append-drop count m.transmit.held

-- ---- the net half after the bell

abbrev pub after-sends : NetState → Mediated → Memory → Names → Outgoing → NetState
after-sends t med mem names sends = record { med = med; mem = mem; names = names; flows = t.flows; inboxes = t.inboxes; sends = sends }

-- what is so whether or not there was memory
pub record IsBelled (t : NetState) (med : Mediated) (mem : Memory) (names : Names) (sends : Outgoing) : Type 0 where
  pub opened : (q : Instance) → is_open sends q ≡ is_open t.sends q
  pub waiting : sends.waiting ≡ t.sends.waiting
  pub posts : sends.posts ≡ t.sends.posts
  pub told : sends.told ≡ t.sends.told
  pub done : (ring : Ring) → completed ring mem (ring_of med ring) ≡ completed ring t.mem (ring_of t.med ring)
  pub receive : med.receive ≡ t.med.receive
  pub turns : med.turns ≡ t.med.turns
  pub unsent : unsent_frames mem med.transmit ≡ unsent_frames t.mem t.med.transmit
  pub received : received_frames mem med.receive ≡ received_frames t.mem t.med.receive
  pub ring : IsInRing sends med
  pub memory : IsInMemory med mem
  pub device : (regs : Registers) → IsAtDevice t.med t.mem regs → IsAtDevice med mem regs
  pub owned : (ring : Ring) → AreOwned ring (ring_of med ring) names
  pub unheld : AreUnheld med names mem
  pub hands : AreAtHand names mem (held_in t.inboxes ++ held_to_send sends)
  pub buffers : (p : Place) → IsPlaceIn (length t.mem) p → buffer_at mem p ≡ buffer_at t.mem p
  pub names_areas : length names ≡ length t.names
  pub areas : length mem ≡ length t.mem

none-of : (o : Option Homes) → is_some o ≡ false → o ≡ None
none-of None is = refl
none-of (Some homes) is = absurd (cc is)

module _ (t : NetState) (med : Mediated) (mem : Memory) (names : Names) (sends : Outgoing) (safe : IsSafe t) (belled : IsBelled t med mem names sends) where
  pub sends-safe : IsSafe (after-sends t med mem names sends)
  sends-safe = record {
    memory = belled.memory;
    owned = belled.owned;
    unheld = belled.unheld;
    hands = belled.hands;
    beside = safe.beside;
    sending = λ p there none. safe.sending p there (none-of (homes_by t.sends p) (sym (belled.opened p) ∙ ap (λ (o : Option Homes). is_some o) none));
    posts = belled.ring;
    told = belled.told ∙ safe.told ∙ sym (belled.done Transmit);
  }

  module _ (life : Instance → Life) (remote : Instance → Endpoint) (n : Network) (s : NetStands life remote n t) (is : med ≡ after_bell Transmit t.mem t.med) where
    abbrev count : ℕ
    count = completed Transmit t.mem t.med.transmit - t.med.transmit.values.taken

    taken : IsTakenBack t.med med count
    taken = taken-by count t.med med is

    rings : RingsStand (returned n.rings) n.pending med mem
    rings =
        let same : n.rings.sent - n.rings.transmit.taken ≡ count = ap (λ k. k - n.rings.transmit.taken) s.rings.sent ∙ ap (λ (v : RingValues). completed Transmit t.mem t.med.transmit - v.taken) s.rings.transmit in
        let stand : RingsStand (returned_by count n.rings) n.pending med mem = record {
          receive = s.rings.receive ∙ sym (ap (λ (r : RingView). r.values) belled.receive);
          transmit = ap (λ (v : RingValues). record v { taken = v.taken + count }) s.rings.transmit ∙ sym taken.values;
          names = s.rings.names ∙ sym (ap (λ (r : RingView). names_of r) belled.receive);
          turns = s.rings.turns ∙ sym belled.turns;
          heard = s.rings.heard ∙ sym (belled.done Receive);
          pending = s.rings.pending ∙ sym belled.received;
          sent = s.rings.sent ∙ sym (belled.done Transmit);
        } in
        subst (λ k. RingsStand (returned_by k n.rings) n.pending med mem) (sym same) stand

    counts : CountsStand (record n { rings = returned n.rings }) sends
    counts = record {
      count = ap length belled.waiting ∙ s.counts.count;
      posts = s.counts.posts ∙ ap numbers_of (sym belled.posts);
      told = s.counts.told ∙ sym belled.told;
      waiting = λ send. ap (λ ws. is_some (slice_index_or ws send None)) belled.waiting ∙ s.counts.waiting send;
      below = s.counts.below;
    }

    module _ (counted : completed Transmit t.mem t.med.transmit ≡ t.med.transmit.values.taken + length (returns t.mem t.med.transmit)) where
      -- the journal's numbers are those of the posts
      outbound-is : outbound n.rings ≡ take (length (returns t.mem t.med.transmit)) (numbers_of (posted_in t.sends))
      outbound-is =
          let sent = s.rings.sent in
          let back : n.rings.transmit.taken ≡ t.med.transmit.values.taken = ap (λ (v : RingValues). v.taken) s.rings.transmit in
          let long : n.rings.sent - n.rings.transmit.taken ≡ length (returns t.mem t.med.transmit) = omega (arith, sent, back, counted) in
          let left : drop n.rings.transmit.taken n.rings.posts ≡ numbers_of (posted_in t.sends) =
          ap (λ k. drop k n.rings.posts) (back ∙ safe.posts.taken) ∙ ap (drop t.sends.returned) s.counts.posts ∙ drop-map (λ (post : Post). post.number) t.sends.returned t.sends.posts in
          ap (λ k. take k (drop n.rings.transmit.taken n.rings.posts)) long ∙ ap (take (length (returns t.mem t.med.transmit))) left

      all-sent : All (IsSendOf (λ p. is_over (life p)) n.sends t.sends) (posted_in t.sends)
      all-sent = sends-of life n.sends n.buffers t.mem t.sends s.buffers.size (λ p gone. s.unsending p (s.ears p ∙ ap (λ l. ear_with l (remote p) (n.flows p)) gone)) (posted_in t.sends) t.med.transmit.held s.buffers.ring

      items-are : (items : List Item) → ((ended : Instance → Bool) (ss : List Send) → All (IsSendOf ended ss t.sends) (posted_in t.sends)
          → items ≡ returned_items ended ss (take (length (returns t.mem t.med.transmit)) (numbers_of (posted_in t.sends))))
          → items ≡ return_items (λ p. is_over (life p)) n
      items-are items told = told (λ p. is_over (life p)) n.sends all-sent ∙ ap (returned_items (λ p. is_over (life p)) n.sends) (sym outbound-is)

      buffers-are : ((p : Place) → has_place (held_to_send t.sends) p ≡ true → IsKept t.mem p) → sends ≡ after_returns t.sends (returns t.mem t.med.transmit)
          → BuffersStand life n.sends n.buffers (λ p. homed (homes_returned p n.sends (outbound n.rings)) (n.away p)) sends.homes sends.waiting (posted_in sends) med.transmit.held mem
      buffers-are kept state =
          let rs : List Held = returns t.mem t.med.transmit in
          let left : List Held = drop count t.med.transmit.held in
          let A : Instance → ℕ → Bool = λ p. homed (homes_returned p n.sends (outbound n.rings)) (n.away p) in
          let stay = buffers-stay life n.sends n.buffers n.away t.sends.homes t.sends.waiting (posted_in t.sends) t.med.transmit.held t.mem mem (λ p there. belled.buffers p (kept p there).place) (λ p there. belled.buffers p (ring-lent t.med t.mem p safe.memory there).place) s.buffers in
          let parts = subst (λ hs. BuffersStand life n.sends n.buffers n.away t.sends.homes t.sends.waiting (posted_in t.sends) hs mem) (sym (returns-first t.med t.mem safe.memory)) stay in
          let back = returned-all life n.sends n.buffers mem left rs t.sends n.away parts in
          let same = buffers-away life n.sends n.buffers (λ p. homed (homes_returned p n.sends (take (length rs) (numbers_of (posted_in t.sends)))) (n.away p)) A (after_returns t.sends rs).homes (after_returns t.sends rs).waiting (posted_in (after_returns t.sends rs)) left mem
          (λ p b. ap (λ ks. homed (homes_returned p n.sends ks) (n.away p) b) outbound-is) back in
          let P : Outgoing → Type 0 = λ x. BuffersStand life n.sends n.buffers A x.homes x.waiting (posted_in x) left mem in
          subst (λ hs. BuffersStand life n.sends n.buffers A sends.homes sends.waiting (posted_in sends) hs mem) (sym taken.held) (subst P (sym state) same)

-- no frame is told
returned-kind : (ended : Instance → Bool) (sends : List Send) (numbers : List ℕ) → kind_in (returned_items ended sends numbers) ≡ Nothing
unfolding returned_items
returned-kind ended sends [] = refl
returned-kind ended sends (number ∷ numbers) = refl

pub sends-serve : (local : Local) (life : Instance → Life) (remote : Instance → Endpoint) (n : Network) (t : NetState) (med : Mediated) (mem : Memory) (names : Names) (sends : Outgoing) (regs : Registers) (log : List LogEntry) (items : List Item)
    → IsSafe t → NetStands life remote n t → AreRegisters local n regs → IsBelled t med mem names sends → ((p : Place) → has_place (held_to_send t.sends) p ≡ true → IsKept t.mem p)
    → ((p : Instance) → frames_of mem t.inboxes p ≡ frames_of t.mem t.inboxes p)
    → completed Transmit t.mem t.med.transmit ≡ t.med.transmit.values.taken + length (returns t.mem t.med.transmit)
    → sends ≡ after_returns t.sends (returns t.mem t.med.transmit) → med ≡ after_bell Transmit t.mem t.med
    → ((ended : Instance → Bool) (ss : List Send) → All (IsSendOf ended ss t.sends) (posted_in t.sends) → items ≡ returned_items ended ss (take (length (returns t.mem t.med.transmit)) (numbers_of (posted_in t.sends))))
    → NetMakes local life remote n TxBell (accepted items) (after-sends t med mem names sends) regs log log
sends-serve local life remote n t med mem names sends regs log items safe s each belled kept frames counted state is told =
    let stand = rings t med mem names sends safe belled life remote n s is in
    let same = items-are t med mem names sends safe belled life remote n s is counted items told in
    record {
      outcome = ap accepted same;
      stands = record {
        rings = stand;
        ears = s.ears;
        unread = λ p alive. frames p ∙ s.unread p alive;
        closed = s.closed;
        unsending = λ p none. none-of (homes_by sends p) (belled.opened p ∙ ap (λ (o : Option Homes). is_some o) (s.unsending p none));
        counts = let c = counts t med mem names sends safe belled life remote n s is in record { count = c.count; posts = c.posts; told = c.told; waiting = c.waiting; below = c.below };
        buffers = buffers-are t med mem names sends safe belled life remote n s is counted kept state;
        unsent = belled.unsent ∙ s.unsent;
        areas = belled.names_areas ∙ s.areas ∙ sym belled.areas;
      };
      registers = from-device local (returned n.rings) n.pending med mem regs stand belled.memory (belled.device regs (at-device local n.rings n.pending t.med t.mem regs s.rings safe.memory each)) (others-like local n.rings (returned n.rings) regs refl refl refl (others-of local n.rings regs each));
      log = ap (λ k. log_by k [] (got_for (accepted items) log) (next_frame n) log) (sym (ap kind_in same ∙ returned-kind (λ p. is_over (life p)) n.sends (outbound n.rings)));
    }
