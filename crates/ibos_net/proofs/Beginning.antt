-- A run begins: nothing is held, bound or heard.
use Rattle.std.proofs.Common.{refl, sym, ◌∙◌, ap, subst, arith}
use Rattle.ibos_mediate.specs.Frames.{unsent_frames}
use Rattle.ibos_mediate.specs.Mediated.{IsBalanced}
use Rattle.std.proofs.lemmas.Bool.Decides.{nat_tests}
use Rattle.ibos_net.proofs.Words.{List, ◌∷◌, ◌+◌, false, waits, ℕ, zero, suc, ◌++◌, ArePosted, Memory, drop, fresh_buffer, held_to_send, homes_by, is_some, numbers_of, slice_index_or, ◌≡◌, [], None, Alive, Unborn, Life, AreAtHand, AreOwned, AreUnheld, Arrival, Endpoint, Instance, IsInMemory, IsSafe, Mediated, NetStands, NetState, Receive, Transmit, Ring, RingView, arrivals, bound_by, completed, ear_with, held_in, inbox_by, length, map, names_of, no_network, no_ring, received_frames, receive_buffers, ring_of}
use Rattle.std.specs.Prelude.{replicate}

rings-none : (m : Mediated) → m.receive ≡ no_ring → m.transmit ≡ no_ring → (ring : Ring) → ring_of m ring ≡ no_ring
rings-none m receive transmit Receive = receive
rings-none m receive transmit Transmit = transmit

-- the device is done with nothing
none-done : (t : NetState) → IsInMemory t.med t.mem → t.med.transmit ≡ no_ring → completed Transmit t.mem t.med.transmit ≡ 0
none-done t memory transmit =
    let ring = memory.ring Transmit in
    let rung : t.med.transmit.values.rung ≡ 0 = ap (λ (r : RingView). r.values.rung) transmit in
    let high = ring.rung in
    omega (arith, rung, high)

none-of : (frames : List (List ℕ)) → length frames ≡ 0 → frames ≡ []
none-of [] none = refl
none-of (w ∷ frames) none = absurd (cc none)

pub none-unsent : (t : NetState) → IsInMemory t.med t.mem → t.med.transmit ≡ no_ring → ((x : Memory) (v : RingView) → IsBalanced v → completed Transmit x v + length (unsent_frames x v) ≡ v.values.posted) → unsent_frames t.mem t.med.transmit ≡ []
none-unsent t memory transmit law =
    let all = law t.mem t.med.transmit (memory.ring Transmit).balanced in
    let posted : t.med.transmit.values.posted ≡ 0 = ap (λ (r : RingView). r.values.posted) transmit in
    none-of (unsent_frames t.mem t.med.transmit) (omega (arith, all, posted))

pub empty-safe : (t : NetState) → IsInMemory t.med t.mem → ((ring : Ring) → ring_of t.med ring ≡ no_ring → AreOwned ring (ring_of t.med ring) t.names) → t.med.receive ≡ no_ring → t.med.transmit ≡ no_ring → AreUnheld t.med t.names t.mem
    → held_in t.inboxes ≡ [] → ((who : Instance) → bound_by t.flows who ≡ None) → held_to_send t.sends ≡ [] → t.sends.posts ≡ [] → t.sends.returned ≡ 0 → t.sends.told ≡ 0 → IsSafe t
empty-safe t memory owned receive transmit unheld none unbound none-send posts returned told = record {
  memory = memory;
  owned = λ ring. owned ring (rings-none t.med receive transmit ring);
  unheld = unheld;
  hands = subst (AreAtHand t.names t.mem) (sym (ap (λ xs. xs ++ held_to_send t.sends) none ∙ none-send)) tt;
  beside = λ p there. absurd (there (unbound p));
  sending = λ p there. absurd (there (unbound p));
  posts = record {
    posted = ap (λ (r : RingView). r.values.posted) transmit ∙ sym (ap length posts);
    taken = ap (λ (r : RingView). r.values.taken) transmit ∙ sym returned;
  };
  told = told ∙ sym (none-done t memory transmit);
}

none-below : (send : ℕ) → waits no_network send ≡ false
none-below send = grind (arith, nat_tests)

none-posted : (life : Instance → Life) (mem : Memory) (k : ℕ) → ArePosted life [] (λ p b. fresh_buffer) mem (drop k []) []
none-posted life mem zero = tt
none-posted life mem (suc k) = tt

alive-not : (life : Life) → life ≡ Unborn → life ≡ Alive → ⊥
alive-not life unborn alive = let clash = sym unborn ∙ alive in cc

pub empty-stands : (t : NetState) (life : Instance → Life) (remote : Instance → Endpoint) → IsInMemory t.med t.mem → t.med.receive ≡ no_ring → t.med.transmit ≡ no_ring → t.med.turns ≡ replicate receive_buffers 0
    → ((completed Receive t.mem t.med.receive ≡ t.med.receive.values.taken) → arrivals t.mem t.med ≡ []) → map (λ (a : Arrival). a.bytes) (arrivals t.mem t.med) ≡ received_frames t.mem t.med.receive
    → ((who : Instance) → bound_by t.flows who ≡ None) → ((who : Instance) → inbox_by t.inboxes who ≡ None) → length t.names ≡ length t.mem → ((p : Instance) → life p ≡ Unborn)
    → ((who : Instance) → homes_by t.sends who ≡ None) → t.sends.waiting ≡ [] → t.sends.posts ≡ [] → t.sends.told ≡ 0 → unsent_frames t.mem t.med.transmit ≡ []
    → NetStands life remote no_network t
empty-stands t life remote memory receive transmit turns ends bytes unbound empty areas unborn homeless waiting posts told unsent =
    let ring = memory.ring Receive in
    let rung : t.med.receive.values.rung ≡ 0 = ap (λ (r : RingView). r.values.rung) receive in
    let taken : t.med.receive.values.taken ≡ 0 = ap (λ (r : RingView). r.values.taken) receive in
    let high = ring.rung in
    let heard : completed Receive t.mem t.med.receive ≡ 0 = omega (arith, rung, high) in
    record {
      rings = record {
        receive = sym (ap (λ (r : RingView). r.values) receive);
        transmit = sym (ap (λ (r : RingView). r.values) transmit);
        names = sym (ap names_of receive);
        turns = sym turns;
        heard = sym heard;
        pending = sym (sym bytes ∙ ap (map (λ (a : Arrival). a.bytes)) (ends (heard ∙ sym taken)));
        sent = sym (none-done t memory transmit);
      };
      ears = λ p. unbound p ∙ sym (ap (λ l. ear_with l (remote p) []) (unborn p));
      unread = λ p alive. absurd (alive-not (life p) (unborn p) alive);
      closed = λ p none. empty p;
      unsending = λ p none. homeless p;
      counts = record {
        count = ap length waiting;
        posts = sym (ap numbers_of posts);
        told = sym told;
        waiting = λ send. ap (λ ws. is_some (slice_index_or ws send None)) waiting ∙ sym (none-below send);
        below = λ send there. cc;
      };
      buffers = record {
        size = λ p alive. absurd (alive-not (life p) (unborn p) alive);
        away_is = λ p b alive. absurd (alive-not (life p) (unborn p) alive);
        used = λ p b alive. absurd (alive-not (life p) (unborn p) alive);
        home = λ p b h alive. absurd (alive-not (life p) (unborn p) alive);
        waits_for = λ number w is. absurd (let clash = sym (ap (λ ws. slice_index_or ws number None) waiting) ∙ is in cc);
        ring = rw (posts, ap (λ (r : RingView). r.held) transmit) (none-posted life t.mem t.sends.returned);
      };
      unsent = unsent;
      areas = areas;
    }
