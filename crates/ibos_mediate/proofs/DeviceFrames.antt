-- A frame that is heard is the last of those received, and one that is sent the first of those to be sent.
use Rattle.std.proofs.Common.{◌≡◌, ◌≢◌, ℕ, ◌+◌, ◌<◌, ◌≤◌, ◌⊎◌, List, [], ◌∷◌, ◌++◌, true, false, length, sym, ◌∙◌, ap, inr, subst, refl, arith, ◌-◌}
use Rattle.ibos_mediate.proofs.Words.{Arrival, FitsRx, IsApart, IsInMemory, IsKept, IsOpen, IsPlaceIn, IsReceived, IsTrue, Mediated, Memory, Place, Receive, Ring, RxDesc, Transmit, address_of, arrival_at, arrivals, buffer_bytes, bytes_at, completed, descriptor_at, handle_for, is_enabled, is_lent_at, place_for, received_bytes, received_frames, ring_base, ring_of, ring_room, ring_size, rx_bytes, rx_of, unsent_frames, FitsTx, IsTransmitted, TxDesc, descriptor_bytes, frame_at, outgoing_bytes, queue, transmitted, tx_at, tx_bytes, tx_of}
use Rattle.ibos_nic.proofs.DeviceLemmas.{others-stay}
use Rattle.ibos_nic.proofs.SlotLemmas.{slots-differ, slot-below}
use Rattle.ibos_mediate.proofs.DeviceChange.{completed-then, its_open, received-became, received-completes, transmitted-completes}
use Rattle.ibos_mediate.proofs.FrameLemmas.{received-at, unsent-left, queue-grows, IsLeft, arrivals-left, outgoing-at, received-left, queue-shrinks}

module _ (rx_back : (d : RxDesc) → FitsRx d → rx_of (rx_bytes d) ≡ d) (behind : (areas : ℕ) (ring : Ring) (p : Place) → IsPlaceIn areas p → ring_base ring + ring_room ≤ address_of p)
    (buffers : (areas : ℕ) (p q : Place) → IsPlaceIn areas p → IsPlaceIn areas q → (p ≡ q) ⊎ IsApart (address_of p) buffer_bytes (address_of q) buffer_bytes)
    (m : Mediated) (mem mem' : Memory) (written : List ℕ) (in_memory : IsInMemory m mem) (on : IsTrue (is_enabled m.receive.values.control)) (more : completed Receive mem m.receive < m.receive.values.rung)
    (heard : IsReceived mem mem' (descriptor_at Receive (completed Receive mem m.receive)) written) where
  head-open : IsOpen m.receive (completed Receive mem m.receive)
  head-open = its_open Receive m mem mem' in_memory more (received-completes m mem mem' in_memory rx_back behind written more heard)

  -- a buffer that is not the head's
  pub other-bytes : (p : Place) → IsPlaceIn (length mem) p → p ≢ place_for m.receive (completed Receive mem m.receive) → (n : ℕ) → n ≤ buffer_bytes → bytes_at mem' (address_of p) n ≡ bytes_at mem (address_of p) n
  other-bytes p place differ n small =
      let ring = in_memory.ring Receive in
      let is = ring.each (completed Receive mem m.receive) head-open in
      let low = behind (length mem) Receive p place in
      others-stay buffers mem mem' (descriptor_at Receive (completed Receive mem m.receive)) (length mem) written (place_for m.receive (completed Receive mem m.receive)) p is.descriptor.named is.lent.place place differ heard n small (inr (omega arith))

  -- a buffer that is not lent
  pub kept-bytes : (p : Place) → IsKept mem p → (n : ℕ) → n ≤ buffer_bytes → bytes_at mem' (address_of p) n ≡ bytes_at mem (address_of p) n
  kept-bytes p kept =
      let ring = in_memory.ring Receive in
      let is = ring.each (completed Receive mem m.receive) head-open in
      other-bytes p kept.place (λ same.
      let P : Place → Type 0 = λ q. is_lent_at mem q ≡ false in
      let clash : true ≡ false = sym is.lent.lent ∙ subst P same kept.kept in cc)

  open-bytes : (one : Ring) (k : ℕ) → IsOpen (ring_of m one) k → ((one ≡ Receive) × (k ≡ completed Receive mem m.receive) → ⊥) → (n : ℕ) → n ≤ buffer_bytes
      → bytes_at mem' (address_of (place_for (ring_of m one) k)) n ≡ bytes_at mem (address_of (place_for (ring_of m one) k)) n
  open-bytes one k is_open differ =
      let ring = in_memory.ring one in
      other-bytes (place_for (ring_of m one) k) (ring.each k is_open).lent.place (λ e. differ (in_memory.apart one Receive k (completed Receive mem m.receive) is_open head-open e))

  before : (k : ℕ) → m.receive.values.taken ≤ k → k < completed Receive mem m.receive → received_bytes mem' m.receive k ≡ received_bytes mem m.receive k
  before k from below =
      let change = received-completes m mem mem' in_memory rx_back behind written more heard in
      let ring = in_memory.ring Receive in
      let room = ring.balanced.room in
      let order = ring.balanced.posted in
      let k_open : IsOpen m.receive k = (from, omega arith) in
      received-at m mem mem' in_memory m.receive k refl (change.others Receive k (λ e. slots-differ ring_size k (completed Receive mem m.receive) (λ e. omega arith) (omega arith) (omega arith)))
      (open-bytes Receive k k_open (λ two. let same = two.1 in omega arith)) from below

  new : received_bytes mem' m.receive (completed Receive mem m.receive) ≡ written
  new =
      let ring = in_memory.ring Receive in
      let is = ring.each (completed Receive mem m.receive) head-open in
      let size = ap (λ (d : RxDesc). d.length) (received-became m mem mem' in_memory rx_back written more heard) in
      ap (λ n. bytes_at mem' (address_of (place_for m.receive (completed Receive mem m.receive))) n) size
      ∙ ap (λ at. bytes_at mem' at (length written)) (sym is.descriptor.named) ∙ heard.bytes

  pub counted-arrived : completed Receive mem' m.receive ≡ completed Receive mem m.receive + 1
  counted-arrived = completed-then Receive m mem mem' in_memory more (received-completes m mem mem' in_memory rx_back behind written more heard) on Receive

  pub received-arrived : received_frames mem' m.receive ≡ received_frames mem m.receive ++ written ∷ []
  received-arrived =
      let ring = in_memory.ring Receive in
      queue-grows (received_bytes mem m.receive) (received_bytes mem' m.receive) m.receive.values.taken (completed Receive mem m.receive) _ written ring.taken counted-arrived before new

  pub arrivals-arrived : arrivals mem' m ≡ arrivals mem m ++ record { handle = handle_for m (completed Receive mem m.receive); bytes = written } ∷ []
  arrivals-arrived =
      let ring = in_memory.ring Receive in
      queue-grows (arrival_at mem m) (arrival_at mem' m) m.receive.values.taken (completed Receive mem m.receive) _ _ ring.taken counted-arrived
      (λ k from below. ap (arrival k) (before k from below)) (ap (arrival (completed Receive mem m.receive)) new)
    where
      arrival : ℕ → List ℕ → Arrival
      arrival k bytes = record { handle = handle_for m k; bytes = bytes }

  pub unsent-arrived : unsent_frames mem' m.transmit ≡ unsent_frames mem m.transmit
  unsent-arrived =
      let change = received-completes m mem mem' in_memory rx_back behind written more heard in
      unsent-left m mem mem' in_memory (record {
        descriptor = λ k is_open. change.others Transmit k (λ same. let clash : Transmit ≡ Receive = same in absurd (cc));
        bytes = λ k is_open. open-bytes Transmit k is_open (λ two. let clash : Transmit ≡ Receive = two.0 in cc);
      })

module _ (tx_back : (d : TxDesc) → FitsTx d → tx_of (tx_bytes d) ≡ d) (tx_length : (d : TxDesc) → length (tx_bytes d) ≡ descriptor_bytes)
    (behind : (areas : ℕ) (ring : Ring) (p : Place) → IsPlaceIn areas p → ring_base ring + ring_room ≤ address_of p)
    (m : Mediated) (mem mem' : Memory) (in_memory : IsInMemory m mem) (on : IsTrue (is_enabled m.transmit.values.control)) (more : completed Transmit mem m.transmit < m.transmit.values.rung)
    (sent : IsTransmitted mem mem' (descriptor_at Transmit (completed Transmit mem m.transmit))) where
  -- every buffer stays
  pub all-bytes : (p : Place) → IsPlaceIn (length mem) p → (n : ℕ) → bytes_at mem' (address_of p) n ≡ bytes_at mem (address_of p) n
  all-bytes p place n =
      let low = behind (length mem) Transmit p place in
      let inside = slot-below ring_size (completed Transmit mem m.transmit) (omega arith) in
      sent.others (address_of p) n (rw (tx_length (transmitted (tx_at mem (descriptor_at Transmit (completed Transmit mem m.transmit))))) (inr (omega arith)))

  received-left' : IsLeft Receive m.receive mem mem'
  received-left' =
      let change = transmitted-completes m mem mem' in_memory tx_back tx_length more sent in
      let ring = in_memory.ring Receive in
      record {
        descriptor = λ k is_open. change.others Receive k (λ same. let clash : Receive ≡ Transmit = same in absurd (cc));
        bytes = λ k is_open n small. all-bytes _ (ring.each k is_open).lent.place n;
      }

  pub received-sent : received_frames mem' m.receive ≡ received_frames mem m.receive
  received-sent = received-left m mem mem' in_memory received-left'

  pub arrivals-sent : arrivals mem' m ≡ arrivals mem m
  arrivals-sent = arrivals-left m mem mem' in_memory received-left'

  pub counted-sent : completed Transmit mem' m.transmit ≡ completed Transmit mem m.transmit + 1
  counted-sent = completed-then Transmit m mem mem' in_memory more (transmitted-completes m mem mem' in_memory tx_back tx_length more sent) on Transmit

  pub unsent-sent : unsent_frames mem m.transmit ≡ frame_at mem (descriptor_at Transmit (completed Transmit mem m.transmit)) ∷ unsent_frames mem' m.transmit
  unsent-sent =
      let change = transmitted-completes m mem mem' in_memory tx_back tx_length more sent in
      let ring = in_memory.ring Transmit in
      let low = ring.taken in
      let order = ring.balanced.posted in
      let room = ring.balanced.room in
      let is_open = its_open Transmit m mem mem' in_memory more change in
      let named = (ring.each (completed Transmit mem m.transmit) is_open).descriptor.named in
      queue-shrinks (outgoing_bytes mem m.transmit) (outgoing_bytes mem' m.transmit) (completed Transmit mem m.transmit) m.transmit.values.posted m.transmit.values.posted (omega arith) refl
      (λ k from below. outgoing-at m mem mem' in_memory m.transmit k refl (change.others Transmit k (λ e. slots-differ ring_size k (completed Transmit mem m.transmit) (λ e. omega arith) (omega arith) (omega arith)))
      (λ n small. all-bytes _ (ring.each k (omega arith, below)).lent.place n) (omega arith) below)
      ∙ ap (λ bs. bs ∷ queue (outgoing_bytes mem' m.transmit) (completed Transmit mem m.transmit + 1) (m.transmit.values.posted - (completed Transmit mem m.transmit + 1)))
      (ap (λ at. bytes_at mem at (tx_at mem (descriptor_at Transmit (completed Transmit mem m.transmit))).length) (sym named))
      ∙ ap (λ c. frame_at mem (descriptor_at Transmit (completed Transmit mem m.transmit)) ∷ queue (outgoing_bytes mem' m.transmit) c (m.transmit.values.posted - c)) (sym counted-sent)
