-- Which buffers a device leaves as they are.
use Rattle.std.proofs.Common.{◌≡◌, ◌≢◌, ℕ, ◌+◌, ◌≤◌, ◌⊎◌, List, length, inl, inr, ⊎_elim, arith}
use Rattle.ibos_pool.specs.declared.name.Ring.{Ring}
use Rattle.ibos_pool.specs.declared.name.Ring.TheVariants.{Receive, Transmit}
use Rattle.ibos_pool.specs.declared.place.Place.{Place}
use Rattle.ibos_pool.specs.Memory.{Memory, buffer_at, bytes_at}
use Rattle.ibos_pool.specs.Places.{IsApart, IsPlaceIn, address_of, ring_base}
use Rattle.ibos_pool.specs.Sizes.{buffer_bytes, descriptor_bytes, ring_room}
use Rattle.ibos_nic.specs.declared.descriptor.TxDesc.{TxDesc}
use Rattle.ibos_nic.specs.Descriptors.{tx_bytes}
use Rattle.ibos_nic.specs.Device.{IsReceived, IsTransmitted, MayReceive, MayTransmit, rx_at, transmitted, tx_at}

module _ (buffers : (areas : ℕ) (p q : Place) → IsPlaceIn areas p → IsPlaceIn areas q → (p ≡ q) ⊎ IsApart (address_of p) buffer_bytes (address_of q) buffer_bytes) where
  -- a frame that is received leaves every buffer but the one that it is written into
  pub others-stay : (mem mem' : Memory) (at areas : ℕ) (written : List ℕ) (head p : Place) → (rx_at mem at).address ≡ address_of head → IsPlaceIn areas head → IsPlaceIn areas p → p ≢ head
      → IsReceived mem mem' at written → (n : ℕ) → n ≤ buffer_bytes → IsApart (address_of p) n at descriptor_bytes → bytes_at mem' (address_of p) n ≡ bytes_at mem (address_of p) n
  others-stay mem mem' at areas written head p named in_head in_p differ heard n small aside =
      let size = heard.size in
      heard.others (address_of p) n (rw named (⊎_elim
      (λ (same : p ≡ head). absurd (differ same))
      (λ apart. ⊎_elim (λ (before : address_of p + buffer_bytes ≤ address_of head). inl (omega arith)) (λ (after : address_of head + buffer_bytes ≤ address_of p). inr (omega arith)) apart)
      (buffers areas p head in_p in_head))) aside

  module _ (behind : (areas : ℕ) (ring : Ring) (p : Place) → IsPlaceIn areas p → ring_base ring + ring_room ≤ address_of p) where
    pub received-leaves : (mem mem' : Memory) (at : ℕ) (written : List ℕ) (p : Place) → MayReceive mem at → IsReceived mem mem' at written → IsPlaceIn (length mem) p
        → (rx_at mem at).address ≢ address_of p → buffer_at mem' p ≡ buffer_at mem p
    received-leaves mem mem' at written p may heard place differ =
        let head = may.buffer in
        let inside = may.ring in
        let end = inside.ends in
        let low = behind (length mem) Receive p place in
        others-stay mem mem' at (length mem) written head.0 p head.2 head.1.place place (λ same. differ (rw same head.2)) heard buffer_bytes (omega arith) (inr (omega arith))

    pub transmitted-leaves : (tx_length : (d : TxDesc) → length (tx_bytes d) ≡ descriptor_bytes) (mem mem' : Memory) (at : ℕ) (p : Place) → MayTransmit mem at → IsTransmitted mem mem' at → IsPlaceIn (length mem) p
        → buffer_at mem' p ≡ buffer_at mem p
    transmitted-leaves tx_length mem mem' at p may sent place =
        let inside = may.ring in
        let end = inside.ends in
        let low = behind (length mem) Transmit p place in
        sent.others (address_of p) buffer_bytes (rw (tx_length (transmitted (tx_at mem at))) (inr (omega arith)))
