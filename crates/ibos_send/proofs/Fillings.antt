-- Bytes are written into a buffer.
use Rattle.std.proofs.Common.{◌≡◌, ℕ, true, false, List, ◌∷◌, [], length, subst, arith, ⊎_elim, inl, refl}
use Rattle.ibos_pool.proofs.HandLemmas.{not_true}
use Rattle.ibos_pool.proofs.PlaceLemmas.{places_apart, ring_apart, slot_inside, test_from_same}
use Rattle.ibos_send.proofs.PartedHands.{clash}
use Rattle.ibos_send.proofs.Words.{AreFilled, Held, IsKept, IsPlaceIn, IsWritten, Memory, Place, address_of, buffer_at, buffer_bytes, descriptor_bytes, has_place, same_place, slot_address}

-- what a write into a buffer leaves
written-others : (mem mem' : Memory) (n : ℕ) (p q : Place) (bytes : List ℕ) → length bytes ≡ buffer_bytes → IsWritten mem mem' (address_of p) bytes → IsPlaceIn n p → IsPlaceIn n q → same_place q p ≡ false
    → buffer_at mem' q ≡ buffer_at mem q
written-others mem mem' n p q bytes size written in_p in_q differ =
    let apart = ⊎_elim (λ (same : q ≡ p). absurd (clash (same_place q p) (subst (λ r. same_place q r ≡ true) same (test_from_same q)) differ)) (λ apart. apart) (places_apart q p in_q.index in_p.index) in
    written.others (address_of q) buffer_bytes (rw size apart)

pub filled-by : (mem mem' : Memory) (h : Held) (bytes : List ℕ) → IsKept mem h.place → length bytes ≡ buffer_bytes → IsWritten mem mem' (address_of h.place) bytes → AreFilled (h ∷ []) mem mem'
filled-by mem mem' h bytes kept size written = record {
  rings = λ ring slot below.
      let inside = slot_inside ring slot below in
      let behind = ring_apart ring h.place kept.place.index in
      let ends = inside.ends in
      written.others (slot_address ring slot) descriptor_bytes (inl (omega arith));
  others = λ p place out. written-others mem mem' (length mem) h.place p bytes size written kept.place place (not_true _ (λ same.
      clash (has_place (h ∷ []) p) (rw same refl) out));
  lent = written.lent;
  areas = written.areas;
}
