-- A transmit buffer that is posted has the last frame to be sent, and no other frame changes.
use Rattle.std.proofs.Common.{◌≡◌, ℕ, ◌+◌, ◌-◌, ◌<◌, ◌≤◌, List, [], ◌∷◌, ◌++◌, length, refl, ◌∙◌, ap, inr, subst, arith}
use Rattle.ibos_mediate.proofs.Words.{FitsTx, Held, IsInMemory, IsKept, IsPlaceIn, IsPosted, IsRingInMemory, Mediated, Memory, Place, Posts, Receive, Ring, Transmit, TxDesc, address_of, arrivals, buffer_bytes, bytes_at, changed, completed, descriptor_at, descriptor_bytes, descriptor_of, outgoing_bytes, posted_tx, queue, received_frames, ring_base, ring_of, ring_room, ring_size, tx_at, tx_bytes, tx_of, unsent_frames}
use Rattle.ibos_nic.proofs.SlotLemmas.{slot-below}
use Rattle.ibos_mediate.proofs.FrameLemmas.{completed-posted, IsLeft, IsSame, arrivals-left, arrivals-still, outgoing-at, received-left, received-still, unsent-left, queue-grows}
use Rattle.ibos_pool.proofs.PlaceLemmas.{address-small}
use Rattle.ibos_mediate.proofs.Rings.{on_changed}
use Rattle.ibos_mediate.proofs.PostChange.{descriptors-posted, held-before, held-new, posted}

module _ (ring : Ring) (behind : (areas : ℕ) (ring : Ring) (p : Place) → IsPlaceIn areas p → ring_base ring + ring_room ≤ address_of p)
    (m : Mediated) (mem mem' : Memory) (h : Held) (bytes : List ℕ) (size : length bytes ≡ descriptor_bytes) (in_old : IsInMemory m mem) (in_new : IsInMemory (changed ring (Posts h) m) mem')
    (change : IsPosted mem mem' (descriptor_at ring (ring_of m ring).values.posted) bytes h.place) where
  room : (ring_of m ring).values.posted < (ring_of m ring).values.taken + (ring_size - 1)
  room =
      let new : IsRingInMemory ring mem' (posted (ring_of m ring) h) = subst (λ s. IsRingInMemory ring mem' s) (on_changed ring (posted (ring_of m ring) h) m).own (in_new.ring ring) in
      let all = new.balanced.room in
      omega arith

  -- every buffer stays
  pub all-bytes : (p : Place) → IsPlaceIn (length mem) p → (n : ℕ) → bytes_at mem' (address_of p) n ≡ bytes_at mem (address_of p) n
  all-bytes p place n =
      let low = behind (length mem) ring p place in
      let inside = slot-below ring_size (ring_of m ring).values.posted (omega arith) in
      change.others (address_of p) n (rw size (inr (omega arith)))

  pub posted-leaves : (one : Ring) → IsLeft one (ring_of m one) mem mem'
  posted-leaves one =
      let is = in_old.ring one in
      record {
        descriptor = descriptors-posted ring m mem mem' h.place bytes in_old room size change one;
        bytes = λ k is_open n small. all-bytes _ (is.each k is_open).lent.place n;
      }

  pub posted-count : completed ring mem' (posted (ring_of m ring) h) ≡ completed ring mem (ring_of m ring)
  posted-count = completed-posted ring m mem mem' h bytes h.place in_old in_new size change

  pub posted-same : (low high : ℕ) → (ring_of m ring).values.taken ≤ low → high ≤ (ring_of m ring).values.posted → IsSame ring (ring_of m ring) (posted (ring_of m ring) h) mem mem' low high
  posted-same low high from to =
      let is = in_old.ring ring in
      let left = posted-leaves ring in
      record {
        held = λ k l u. held-before (ring_of m ring) h k is.balanced (omega arith, omega arith);
        descriptor = λ k l u. left.descriptor k (omega arith, omega arith);
        bytes = λ k l u. left.bytes k (omega arith, omega arith);
      }

-- a receive buffer is posted
module _ (behind : (areas : ℕ) (ring : Ring) (p : Place) → IsPlaceIn areas p → ring_base ring + ring_room ≤ address_of p)
    (m : Mediated) (mem mem' : Memory) (h : Held) (bytes : List ℕ) (size : length bytes ≡ descriptor_bytes) (in_old : IsInMemory m mem) (in_new : IsInMemory (changed Receive (Posts h) m) mem')
    (change : IsPosted mem mem' (descriptor_at Receive m.receive.values.posted) bytes h.place) where
  waiting : IsSame Receive m.receive (posted m.receive h) mem mem' m.receive.values.taken (completed Receive mem m.receive)
  waiting =
      let is = in_old.ring Receive in
      let reached = is.rung in
      let order = is.balanced.posted in
      posted-same Receive behind m mem mem' h bytes size in_old in_new change _ _ (omega arith) (omega arith)

  pub received-posted : received_frames mem' (posted m.receive h) ≡ received_frames mem m.receive
  received-posted = received-still m mem mem' in_old (posted m.receive h) refl (posted-count Receive behind m mem mem' h bytes size in_old in_new change) waiting

  pub arrivals-posted : arrivals mem' (changed Receive (Posts h) m) ≡ arrivals mem m
  arrivals-posted = arrivals-still m mem mem' in_old (changed Receive (Posts h) m) refl refl (posted-count Receive behind m mem mem' h bytes size in_old in_new change) waiting

  pub unsent-receive_posted : unsent_frames mem' m.transmit ≡ unsent_frames mem m.transmit
  unsent-receive_posted = unsent-left m mem mem' in_old (posted-leaves Receive behind m mem mem' h bytes size in_old in_new change Transmit)

-- a buffer to be sent is posted
module _ (tx_back : (d : TxDesc) → FitsTx d → tx_of (tx_bytes d) ≡ d) (tx_length : (d : TxDesc) → length (tx_bytes d) ≡ descriptor_bytes)
    (behind : (areas : ℕ) (ring : Ring) (p : Place) → IsPlaceIn areas p → ring_base ring + ring_room ≤ address_of p)
    (m : Mediated) (mem mem' : Memory) (h : Held) (len : ℕ) (in_old : IsInMemory m mem) (in_new : IsInMemory (changed Transmit (Posts h) m) mem')
    (change : IsPosted mem mem' (descriptor_at Transmit m.transmit.values.posted) (tx_bytes (posted_tx (address_of h.place) len)) h.place) where
  left : (one : Ring) → IsLeft one (ring_of m one) mem mem'
  left = posted-leaves Transmit behind m mem mem' h (tx_bytes (posted_tx (address_of h.place) len)) (tx_length _) in_old in_new change

  pub received-transmit_posted : received_frames mem' m.receive ≡ received_frames mem m.receive
  received-transmit_posted = received-left m mem mem' in_old (left Receive)

  pub arrivals-transmit_posted : arrivals mem' (changed Transmit (Posts h) m) ≡ arrivals mem m
  arrivals-transmit_posted = arrivals-left m mem mem' in_old (left Receive)

  pub unsent-posted : IsKept mem h.place → len ≤ buffer_bytes → unsent_frames mem' (posted m.transmit h) ≡ unsent_frames mem m.transmit ++ bytes_at mem (address_of h.place) len ∷ []
  unsent-posted kept small =
      let is = in_old.ring Transmit in
      let reached = is.rung in
      let order = is.balanced.posted in
      let first = is.taken in
      let count = posted-count Transmit behind m mem mem' h (tx_bytes (posted_tx (address_of h.place) len)) (tx_length _) in_old in_new change in
      let low' = address-small h.place (length mem) kept.place in_old.areas in
      let fits : FitsTx (posted_tx (address_of h.place) len) = record { address = omega arith; length = omega arith; special = omega arith } in
      let bytes : descriptor_of Transmit mem' m.transmit.values.posted ≡ tx_bytes (posted_tx (address_of h.place) len) =
      subst (λ n. bytes_at mem' (descriptor_at Transmit m.transmit.values.posted) n ≡ tx_bytes (posted_tx (address_of h.place) len)) (tx_length _) change.written in
      let at : tx_at mem' (descriptor_at Transmit m.transmit.values.posted) ≡ posted_tx (address_of h.place) len = ap tx_of bytes ∙ tx_back _ fits in
      let new : outgoing_bytes mem' (posted m.transmit h) m.transmit.values.posted ≡ bytes_at mem (address_of h.place) len =
      ap (λ (x : Held). bytes_at mem' (address_of x.place) (tx_at mem' (descriptor_at Transmit m.transmit.values.posted)).length) (held-new m.transmit h is.balanced)
      ∙ ap (λ (d : TxDesc). bytes_at mem' (address_of h.place) d.length) at
      ∙ all-bytes Transmit behind m mem mem' h (tx_bytes (posted_tx (address_of h.place) len)) (tx_length _) in_old in_new change h.place kept.place len in
      ap (λ c. unsent_from c) count
      ∙ queue-grows (outgoing_bytes mem m.transmit) (outgoing_bytes mem' (posted m.transmit h)) (completed Transmit mem m.transmit) m.transmit.values.posted (m.transmit.values.posted + 1) _ (omega arith) refl
      (λ k from below.
      let all = left Transmit in
      outgoing-at m mem mem' in_old (posted m.transmit h) k (held-before m.transmit h k is.balanced (omega arith, below)) (all.descriptor k (omega arith, below)) (all.bytes k (omega arith, below)) from below) new
    where
      unsent_from : ℕ → List (List ℕ)
      unsent_from c = queue (outgoing_bytes mem' (posted m.transmit h)) c (m.transmit.values.posted + 1 - c)
