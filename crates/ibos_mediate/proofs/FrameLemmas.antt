-- What the rings have to tell stays where a change leaves descriptors, buffers and counts.
use Rattle.std.proofs.Common.{◌≡◌, ℕ, zero, suc, ◌+◌, ◌-◌, ◌<◌, ◌≤◌, [], ◌∷◌, ◌++◌, length, map, refl, sym, ◌∙◌, ap, arith, ◌≢◌, List, inr, ⊎_elim, subst, Option, None, Some, take}
use Rattle.std.proofs.lemmas.List.FromFn.{length-map-range_with_len, map-range_with_len_more}
use Rattle.ibos_mediate.proofs.Words.{queue, Held, IsInMemory, IsOpen, IsPosted, IsRingInMemory, Mediated, Memory, Place, Posts, Ring, RingView, bytes_at, changed, completed, descriptor_at, descriptor_bytes, descriptor_of, has_done, is_done, ring_of, Receive, Transmit, address_of, arrival_at, arrivals, buffer_bytes, handle_for, handle_of, held_for, length_in, outgoing_bytes, place_for, received_bytes, received_frames, tx_of, unsent_frames, Base, IsLent, Part, Reg, RingPart, Writes, after_writing, buffer_at, part_of, ring_size, room_slots, slot_at, slot_of, written_in}
use Rattle.std.proofs.lemmas.Bool.{cases_lt}
use Rattle.ibos_nic.proofs.FirstLemmas.{first_not-behind, first_not-high, first_not-is, first_not-low, first_not-same}
use Rattle.ibos_mediate.proofs.Rings.{on_changed, undone}
use Rattle.ibos_mediate.proofs.PostChange.{descriptors-posted, posted}
use Rattle.ibos_mediate.proofs.TakeChange.{taken}
use Rattle.ibos_nic.proofs.SlotLemmas.{slot-below}

pub queue-same : {A : Type 0} (f g : ℕ → A) (number left : ℕ) → ((k : ℕ) → number ≤ k → k < number + left → g k ≡ f k) → queue g number left ≡ queue f number left
queue-same f g number zero same = refl
queue-same f g number (suc left) same = rw (same number (omega arith) (omega arith), queue-same f g (number + 1) left (λ k low high. same k (omega arith) (omega arith))) refl

-- one more at the end: the others stay
pub queue-grows : {A : Type 0} (f g : ℕ → A) (from a b : ℕ) (x : A) → from ≤ a → b ≡ a + 1 → ((k : ℕ) → from ≤ k → k < a → g k ≡ f k) → g a ≡ x → queue g from (b - from) ≡ queue f from (a - from) ++ x ∷ []
queue-grows f g from a b x low is same last =
    let count : b - from ≡ (a - from) + 1 = omega arith in
    ap (queue g from) count ∙ map-range_with_len_more g from (a - from) a (omega arith)
    ∙ ap (λ xs. xs ++ g a ∷ []) (queue-same f g from (a - from) (λ k from' high. same k from' (omega arith))) ∙ ap (λ y. queue f from (a - from) ++ y ∷ []) last

-- the first goes: the others stay
pub queue-shrinks : {A : Type 0} (f g : ℕ → A) (from a b : ℕ) → from < a → b ≡ a → ((k : ℕ) → from < k → k < a → g k ≡ f k) → queue f from (a - from) ≡ f from ∷ queue g (from + 1) (b - (from + 1))
queue-shrinks f g from a b more is same =
    let count : a - from ≡ suc (b - (from + 1)) = omega arith in
    ap (queue f from) count ∙ ap (λ xs. f from ∷ xs) (sym (queue-same f g (from + 1) (b - (from + 1)) (λ k low high. same k (omega arith) (omega arith))))

-- what stays at both ends
pub queue-still : {A : Type 0} (f g : ℕ → A) (a b a' b' : ℕ) → a' ≡ a → b' ≡ b → ((k : ℕ) → a ≤ k → k < b → g k ≡ f k) → queue g a' (b' - a') ≡ queue f a (b - a)
queue-still f g a b a' b' is is' same =
    let count : b' - a' ≡ b - a = omega arith in
    ap (λ x. queue g x (b' - a')) is ∙ ap (queue g a) count ∙ queue-same f g a (b - a) (λ k low high. same k low (omega arith))

pub queue-counts : {A : Type 0} (f : ℕ → A) (from to : ℕ) → from ≤ to → to ≡ from + length (queue f from (to - from))
queue-counts f from to low = let count = length-map-range_with_len f from (to - from) in omega arith

-- none is left
pub queue-ends : {A : Type 0} (f : ℕ → A) (from to : ℕ) → to ≡ from → queue f from (to - from) ≡ []
queue-ends f from to none = let count : to - from ≡ zero = omega arith in ap (queue f from) count

pub map-queue : {A B : Type 0} (g : A → B) (f : ℕ → A) (number left : ℕ) → map g (queue f number left) ≡ queue (λ k. g (f k)) number left
map-queue g f number zero = refl
map-queue g f number (suc left) = ap (λ xs. g (f number) ∷ xs) (map-queue g f (number + 1) left)

pub completed-low : (ring : Ring) (mem : Memory) (r : RingView) → r.values.taken ≤ completed ring mem r
completed-low ring mem r = first_not-low (is_done ring mem) r.values.taken (r.values.posted - r.values.taken)

pub completed-high : (ring : Ring) (mem : Memory) (r : RingView) → r.values.taken ≤ r.values.posted → completed ring mem r ≤ r.values.posted
completed-high ring mem r order = let high = first_not-high (is_done ring mem) r.values.taken (r.values.posted - r.values.taken) in omega arith

pub completed-more : (ring : Ring) (mem : Memory) (r : RingView) → completed ring mem r ≢ r.values.taken → r.values.taken < completed ring mem r
completed-more ring mem r differ = let low = completed-low ring mem r in omega arith

-- where the open descriptors stay
pub completed-same : (ring : Ring) (mem mem' : Memory) (r : RingView) → ((number : ℕ) → IsOpen r number → descriptor_of ring mem' number ≡ descriptor_of ring mem number) → completed ring mem' r ≡ completed ring mem r
completed-same ring mem mem' r same = first_not-same (is_done ring mem) (is_done ring mem') r.values.taken (r.values.posted - r.values.taken)
    (λ k low high. ap (has_done ring) (same k (low, omega arith)))

-- where the oldest is taken back
pub completed-taken : (ring : Ring) (mem mem' : Memory) (r : RingView) → r.values.taken < completed ring mem r → ((from n : ℕ) → bytes_at mem' from n ≡ bytes_at mem from n)
    → completed ring mem' (taken r) ≡ completed ring mem r
completed-taken ring mem mem' r more same =
    let high = first_not-high (is_done ring mem) r.values.taken (r.values.posted - r.values.taken) in
    let count : r.values.posted - r.values.taken ≡ suc (r.values.posted - (r.values.taken + 1)) = omega arith in
    completed-same ring mem mem' (taken r) (λ number is_open. same _ _)
    ∙ first_not-behind (is_done ring mem) r.values.taken (r.values.posted - (r.values.taken + 1)) (rw (← count) more) ∙ rw (← count) refl

-- where one more is posted
pub completed-posted : (ring : Ring) (m : Mediated) (mem mem' : Memory) (h : Held) (bytes : List ℕ) (place : Place) → IsInMemory m mem → IsInMemory (changed ring (Posts h) m) mem' → length bytes ≡ descriptor_bytes
    → IsPosted mem mem' (descriptor_at ring (ring_of m ring).values.posted) bytes place → completed ring mem' (posted (ring_of m ring) h) ≡ completed ring mem (ring_of m ring)
completed-posted ring m mem mem' h bytes place in_old in_new size change =
    let r : RingView = ring_of m ring in
    let old = in_old.ring ring in
    let new : IsRingInMemory ring mem' (posted (ring_of m ring) h) = subst (λ s. IsRingInMemory ring mem' s) (on_changed ring (posted (ring_of m ring) h) m).own (in_new.ring ring) in
    let room = new.balanced.room in
    let order = old.balanced.posted in
    let order' = old.balanced.rung in
    let reached = old.rung in
    let reached' = new.rung in
    let order'' = new.balanced.posted in
    let stays = descriptors-posted ring m mem mem' place bytes in_old (omega arith) size change ring in
    first_not-is (is_done ring mem') (ring_of m ring).values.taken ((ring_of m ring).values.posted + 1 - (ring_of m ring).values.taken) (completed ring mem (ring_of m ring)) old.taken (omega arith)
    (λ k from below. ap (has_done ring) (stays k (from, omega arith)) ∙ (old.each k (from, omega arith)).descriptor.done below)
    (inr (⊎_elim
    (λ (below : completed ring mem (ring_of m ring) < (ring_of m ring).values.posted).
    let is = old.each (completed ring mem (ring_of m ring)) (old.taken, below) in
    ap (has_done ring) (stays (completed ring mem (ring_of m ring)) (old.taken, below)) ∙ undone ring _ _ (is.descriptor.waiting (omega arith)))
    (λ (past : (ring_of m ring).values.posted ≤ completed ring mem (ring_of m ring)).
    let this : completed ring mem (ring_of m ring) ≡ (ring_of m ring).values.posted = omega arith in
    let low = old.taken in
    let is = new.each (ring_of m ring).values.posted (omega arith, omega arith) in
    ap (is_done ring mem') this ∙ undone ring _ _ (is.descriptor.waiting (omega arith)))
    (cases_lt (completed ring mem (ring_of m ring)) (ring_of m ring).values.posted)))

-- the descriptors of these numbers have their buffers, and both have their bytes
pub record IsSame (ring : Ring) (r r' : RingView) (mem mem' : Memory) (low high : ℕ) : Type 0 where
  pub held : (k : ℕ) → low ≤ k → k < high → held_for r' k ≡ held_for r k
  pub descriptor : (k : ℕ) → low ≤ k → k < high → descriptor_of ring mem' k ≡ descriptor_of ring mem k
  pub bytes : (k : ℕ) → low ≤ k → k < high → (n : ℕ) → n ≤ buffer_bytes → bytes_at mem' (address_of (place_for r k)) n ≡ bytes_at mem (address_of (place_for r k)) n

-- what a change leaves of the open descriptors of a ring and of their buffers
pub record IsLeft (ring : Ring) (r : RingView) (mem mem' : Memory) : Type 0 where
  pub descriptor : (k : ℕ) → IsOpen r k → descriptor_of ring mem' k ≡ descriptor_of ring mem k
  pub bytes : (k : ℕ) → IsOpen r k → (n : ℕ) → n ≤ buffer_bytes → bytes_at mem' (address_of (place_for r k)) n ≡ bytes_at mem (address_of (place_for r k)) n

module _ (m : Mediated) (mem mem' : Memory) (memory : IsInMemory m mem) where
  -- a frame that was received
  pub received-at : (r' : RingView) (k : ℕ) → held_for r' k ≡ held_for m.receive k → descriptor_of Receive mem' k ≡ descriptor_of Receive mem k
      → ((n : ℕ) → n ≤ buffer_bytes → bytes_at mem' (address_of (place_for m.receive k)) n ≡ bytes_at mem (address_of (place_for m.receive k)) n)
      → m.receive.values.taken ≤ k → k < completed Receive mem m.receive → received_bytes mem' r' k ≡ received_bytes mem m.receive k
  received-at r' k held descriptor bytes low high =
      let ring = memory.ring Receive in
      let reached = ring.rung in
      let order = ring.balanced.posted in
      let told = (ring.each k (low, omega arith)).descriptor.told high in
      ap (λ (h : Held). bytes_at mem' (address_of h.place) (length_in Receive (descriptor_of Receive mem' k))) held
      ∙ ap (λ bs. bytes_at mem' (address_of (place_for m.receive k)) (length_in Receive bs)) descriptor ∙ bytes _ (omega arith)

  pub received-still : (r' : RingView) → r'.values.taken ≡ m.receive.values.taken → completed Receive mem' r' ≡ completed Receive mem m.receive
      → IsSame Receive m.receive r' mem mem' m.receive.values.taken (completed Receive mem m.receive) → received_frames mem' r' ≡ received_frames mem m.receive
  received-still r' taken count same = queue-still (received_bytes mem m.receive) (received_bytes mem' r') m.receive.values.taken (completed Receive mem m.receive) _ _ taken count
      (λ k low high. received-at r' k (same.held k low high) (same.descriptor k low high) (same.bytes k low high) low high)

  pub arrivals-still : (m' : Mediated) → m'.receive.values.taken ≡ m.receive.values.taken → m'.turns ≡ m.turns → completed Receive mem' m'.receive ≡ completed Receive mem m.receive
      → IsSame Receive m.receive m'.receive mem mem' m.receive.values.taken (completed Receive mem m.receive) → arrivals mem' m' ≡ arrivals mem m
  arrivals-still m' taken turns count same = queue-still (arrival_at mem m) (arrival_at mem' m') m.receive.values.taken (completed Receive mem m.receive) _ _ taken count
      (λ k low high.
      let held = same.held k low high in
      ap (λ (h : Held). record { handle = handle_of h m'.turns; bytes = received_bytes mem' m'.receive k }) held
      ∙ ap (λ ts. record { handle = handle_of (held_for m.receive k) ts; bytes = received_bytes mem' m'.receive k }) turns
      ∙ ap (λ bs. record { handle = handle_for m k; bytes = bs }) (received-at m'.receive k held (same.descriptor k low high) (same.bytes k low high) low high))

  pub outgoing-at : (r' : RingView) (k : ℕ) → held_for r' k ≡ held_for m.transmit k → descriptor_of Transmit mem' k ≡ descriptor_of Transmit mem k
      → ((n : ℕ) → n ≤ buffer_bytes → bytes_at mem' (address_of (place_for m.transmit k)) n ≡ bytes_at mem (address_of (place_for m.transmit k)) n)
      → completed Transmit mem m.transmit ≤ k → k < m.transmit.values.posted → outgoing_bytes mem' r' k ≡ outgoing_bytes mem m.transmit k
  outgoing-at r' k held descriptor bytes low high =
      let ring = memory.ring Transmit in
      let first = ring.taken in
      let small = ((ring.each k (omega arith, high)).descriptor.waiting low).1 in
      ap (λ (h : Held). bytes_at mem' (address_of h.place) (tx_of (descriptor_of Transmit mem' k)).length) held
      ∙ ap (λ bs. bytes_at mem' (address_of (place_for m.transmit k)) (tx_of bs).length) descriptor ∙ bytes _ small

  pub unsent-still : (r' : RingView) → r'.values.posted ≡ m.transmit.values.posted → completed Transmit mem' r' ≡ completed Transmit mem m.transmit
      → IsSame Transmit m.transmit r' mem mem' (completed Transmit mem m.transmit) m.transmit.values.posted → unsent_frames mem' r' ≡ unsent_frames mem m.transmit
  unsent-still r' posted count same = queue-still (outgoing_bytes mem m.transmit) (outgoing_bytes mem' r') (completed Transmit mem m.transmit) m.transmit.values.posted _ _ count posted
      (λ k low high. outgoing-at r' k (same.held k low high) (same.descriptor k low high) (same.bytes k low high) low high)

  -- a ring that stays
  module _ (ring : Ring) (left : IsLeft ring (ring_of m ring) mem mem') where
    pub left-count : completed ring mem' (ring_of m ring) ≡ completed ring mem (ring_of m ring)
    left-count = completed-same ring mem mem' (ring_of m ring) left.descriptor

    pub same-left : (low high : ℕ) → (ring_of m ring).values.taken ≤ low → high ≤ (ring_of m ring).values.posted → IsSame ring (ring_of m ring) (ring_of m ring) mem mem' low high
    same-left low high from to = record {
      held = λ k l h. refl;
      descriptor = λ k l h. left.descriptor k (omega arith, omega arith);
      bytes = λ k l h. left.bytes k (omega arith, omega arith);
    }

  pub received-left : IsLeft Receive m.receive mem mem' → received_frames mem' m.receive ≡ received_frames mem m.receive
  received-left left =
      let ring = memory.ring Receive in
      let reached = ring.rung in
      let order = ring.balanced.posted in
      received-still m.receive refl (left-count Receive left) (same-left Receive left _ _ (omega arith) (omega arith))

  pub arrivals-left : IsLeft Receive m.receive mem mem' → arrivals mem' m ≡ arrivals mem m
  arrivals-left left =
      let ring = memory.ring Receive in
      let reached = ring.rung in
      let order = ring.balanced.posted in
      arrivals-still m refl refl (left-count Receive left) (same-left Receive left _ _ (omega arith) (omega arith))

  pub unsent-left : IsLeft Transmit m.transmit mem mem' → unsent_frames mem' m.transmit ≡ unsent_frames mem m.transmit
  unsent-left left =
      let ring = memory.ring Transmit in
      let first = ring.taken in
      unsent-still m.transmit refl (left-count Transmit left) (same-left Transmit left _ _ (omega arith) (omega arith))

pub descriptors-left : (mem mem' : Memory) → ((ring : Ring) (slot : ℕ) → slot < room_slots → slot_at mem' ring slot ≡ slot_at mem ring slot) → (ring : Ring) (k : ℕ) → descriptor_of ring mem' k ≡ descriptor_of ring mem k
descriptors-left mem mem' slots ring k = let below = slot-below ring_size k (omega arith) in slots ring (slot_of k) (omega arith)

pub others-left : (fronts : (m : Memory) (address n k : ℕ) → k ≤ n → take k (bytes_at m address n) ≡ bytes_at m address k) (m : Mediated) (mem mem' : Memory) → IsInMemory m mem
    → ((ring : Ring) (slot : ℕ) → slot < room_slots → slot_at mem' ring slot ≡ slot_at mem ring slot) → ((p : Place) → IsLent mem p → buffer_at mem' p ≡ buffer_at mem p) → (one : Ring) → IsLeft one (ring_of m one) mem mem'
others-left fronts m mem mem' memory slots buffers one =
    let ring = memory.ring one in
    record {
      descriptor = λ k is_open. descriptors-left mem mem' slots one k;
      bytes = λ k is_open n small. sym (fronts mem' _ buffer_bytes n small) ∙ ap (take n) (buffers _ (ring.each k is_open).lent) ∙ fronts mem _ buffer_bytes n small;
    }

-- a write to a register changes no count of posts or takes, and no buffer
abbrev AreTold : Memory → Mediated → Mediated → Type 0
AreTold mem m m' = (received_frames mem m'.receive ≡ received_frames mem m.receive) × (unsent_frames mem m'.transmit ≡ unsent_frames mem m.transmit) × (arrivals mem m' ≡ arrivals mem m)

written-part : (mem : Memory) (m : Mediated) (value : ℕ) (ring : Ring) (part : Part) → AreTold mem m (changed ring (Writes part value) m)
written-part mem m value Receive Base = (refl, refl, refl)
written-part mem m value Receive other = (refl, refl, refl)
written-part mem m value Transmit Base = (refl, refl, refl)
written-part mem m value Transmit other = (refl, refl, refl)

written-in : (mem : Memory) (m : Mediated) (value : ℕ) (place : Option RingPart) → AreTold mem m (written_in place value m)
written-in mem m value None = (refl, refl, refl)
written-in mem m value (Some p) = written-part mem m value p.ring p.part

pub written-told : (mem : Memory) (m : Mediated) (reg : Reg) (value : ℕ) → AreTold mem m (after_writing reg value m)
written-told mem m reg value = written-in mem m value (part_of reg)
