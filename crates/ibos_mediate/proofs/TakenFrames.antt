-- A receive buffer that is taken back has the first frame that arrived, and a transmit buffer is the first to return.
use Rattle.std.proofs.Common.{◌≡◌, ◌≢◌, ℕ, suc, ◌+◌, ◌-◌, ◌<◌, ◌∷◌, refl, sym, ◌∙◌, ap, arith}
use Rattle.std.proofs.lemmas.List.{get_or-set_other}
use Rattle.ibos_mediate.proofs.Words.{AreOwned, Held, IsInMemory, IsOpen, Mediated, Memory, Name, Names, Receive, Ring, RingView, Transmit, address_of, after_bell, arrival_at, arrivals, bytes_at, completed, descriptor_of, handle_for, handle_of, held_for, length_in, place_for, received_bytes, received_frames, returns, ring_of, take_back, taken_back, unsent_frames, with_turn}
use Rattle.ibos_mediate.proofs.Rings.{names-apart}
use Rattle.ibos_mediate.proofs.FrameLemmas.{completed-taken, IsLeft, unsent-still, queue-shrinks}
use Rattle.ibos_mediate.proofs.TakeChange.{held-after, taken}

-- no byte changes
module _ (m : Mediated) (mem mem' : Memory) (same : (from n : ℕ) → bytes_at mem' from n ≡ bytes_at mem from n) where
  pub all-left : (one : Ring) → IsLeft one (ring_of m one) mem mem'
  all-left one = record { descriptor = λ k is_open. same _ _; bytes = λ k is_open n small. same _ _ }

  module _ (more : m.receive.values.taken < completed Receive mem m.receive) where
    later : (k : ℕ) → m.receive.values.taken < k → received_bytes mem' (taken m.receive) k ≡ received_bytes mem m.receive k
    later k low =
        ap (λ (h : Held). bytes_at mem' (address_of h.place) (length_in Receive (descriptor_of Receive mem' k))) (held-after m.receive k (omega arith))
        ∙ same _ _ ∙ ap (λ bs. bytes_at mem (address_of (place_for m.receive k)) (length_in Receive bs)) (same _ _)

    pub received-taken : received_frames mem m.receive ≡ received_bytes mem m.receive m.receive.values.taken ∷ received_frames mem' (taken m.receive)
    received-taken = queue-shrinks (received_bytes mem m.receive) (received_bytes mem' (taken m.receive)) m.receive.values.taken _ _ more (completed-taken Receive mem mem' m.receive more same) (λ k low high. later k low)

    -- the names of the ring differ, so that no other handle changes
    pub arrivals-taken : (names : Names) → IsInMemory m mem → AreOwned Receive m.receive names → arrivals mem m ≡ arrival_at mem m m.receive.values.taken ∷ arrivals mem' (taken_back Receive m)
    arrivals-taken names memory owned = queue-shrinks (arrival_at mem m) (arrival_at mem' (taken_back Receive m)) m.receive.values.taken _ _ more (completed-taken Receive mem mem' m.receive more same)
        (λ k low high.
        let ring = memory.ring Receive in
        let reached = ring.rung in
        let order = ring.balanced.posted in
        let k_open : IsOpen m.receive k = (omega arith, omega arith) in
        let first_open : IsOpen m.receive m.receive.values.taken = (omega arith, omega arith) in
        let one = (owned k k_open).1 in
        let other = (owned m.receive.values.taken first_open).1 in
        let differ : (held_for m.receive k).name.index ≢ (held_for m.receive m.receive.values.taken).name.index = λ e.
        let name : (held_for m.receive k).name ≡ (held_for m.receive m.receive.values.taken).name = same_parts _ _ (one ∙ sym other) e in
        let k_is = (names-apart m mem names memory Receive Receive owned owned k m.receive.values.taken k_open first_open name).1 in
        omega arith in
        ap (λ (h : Held). record { handle = handle_of h (with_turn m.turns (held_for m.receive m.receive.values.taken).name.index); bytes = received_bytes mem' (taken m.receive) k }) (held-after m.receive k (omega arith))
        ∙ ap (λ t. record { handle = record { name = (held_for m.receive k).name.index; turn = t + 1 }; bytes = received_bytes mem' (taken m.receive) k })
        (get_or-set_other m.turns (held_for m.receive m.receive.values.taken).name.index (held_for m.receive k).name.index _ 0 differ)
        ∙ ap (λ bs. record { handle = handle_for m k; bytes = bs }) (later k low))
      where
        same_parts : (a b : Name) → a.area ≡ b.area → a.index ≡ b.index → a ≡ b
        same_parts a b area index = grind arith

  module _ (more : m.transmit.values.taken < completed Transmit mem m.transmit) where
    pub returns-taken : returns mem m.transmit ≡ held_for m.transmit m.transmit.values.taken ∷ returns mem' (taken m.transmit)
    returns-taken = queue-shrinks (held_for m.transmit) (held_for (taken m.transmit)) m.transmit.values.taken _ _ more (completed-taken Transmit mem mem' m.transmit more same) (λ k low high. held-after m.transmit k (omega arith))

    pub unsent-taken : IsInMemory m mem → unsent_frames mem' (taken m.transmit) ≡ unsent_frames mem m.transmit
    unsent-taken memory = unsent-still m mem mem' memory (taken m.transmit) refl (completed-taken Transmit mem mem' m.transmit more same)
        (record { held = λ k low high. held-after m.transmit k (omega arith); descriptor = λ k low high. same _ _; bytes = λ k low high n small. same _ _ })

-- all that can be taken back was
pub bell-ends : (ring : Ring) (mem : Memory) (m : Mediated) → completed ring mem (ring_of m ring) ≡ (ring_of m ring).values.taken → after_bell ring mem m ≡ m
unfolding take_back
bell-ends ring mem m none = let count : completed ring mem (ring_of m ring) - (ring_of m ring).values.taken ≡ 0 = omega arith in rw count refl

-- what is left to be taken back ends in the same mediator
take_back-step : (ring : Ring) (left : ℕ) (m : Mediated) → take_back ring (suc left) m ≡ take_back ring left (taken_back ring m)
unfolding take_back
take_back-step ring left m = refl

taken_back-ring : (ring : Ring) (m : Mediated) → ring_of (taken_back ring m) ring ≡ taken (ring_of m ring)
taken_back-ring Receive m = refl
taken_back-ring Transmit m = refl

pub bell-goes_on : (ring : Ring) (m : Mediated) (mem mem' : Memory) → ((from n : ℕ) → bytes_at mem' from n ≡ bytes_at mem from n) → (ring_of m ring).values.taken < completed ring mem (ring_of m ring)
    → after_bell ring mem' (taken_back ring m) ≡ after_bell ring mem m
bell-goes_on ring m mem mem' same more =
    let stays = completed-taken ring mem mem' (ring_of m ring) more same in
    let count : completed ring mem (ring_of m ring) - (ring_of m ring).values.taken ≡ suc (completed ring mem (ring_of m ring) - ((ring_of m ring).values.taken + 1)) = omega arith in
    ap (λ (r : RingView). take_back ring (completed ring mem' r - r.values.taken) (taken_back ring m)) (taken_back-ring ring m)
    ∙ ap (λ c. take_back ring (c - ((ring_of m ring).values.taken + 1)) (taken_back ring m)) stays
    ∙ sym (ap (λ c. take_back ring c m) count ∙ take_back-step ring _ m)
