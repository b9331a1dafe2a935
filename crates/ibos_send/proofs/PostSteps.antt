-- A send is posted: how far the device is stays.
use Rattle.std.proofs.Common.{◌≡◌, ℕ, ◌+◌, List, [], ◌∷◌, ◌++◌, length, sym, ◌∙◌, ap, arith, length-append}
use Rattle.ibos_nic.specs.Rings.{Posts}
use Rattle.ibos_mediate.specs.Changes.{changed, ring_changed}
use Rattle.ibos_mediate.specs.Frames.{received_frames, unsent_frames}
use Rattle.ibos_mediate.specs.Mediated.{IsBalanced, Mediated, RingView, ring_of}
use Rattle.ibos_mediate.specs.Relation.{IsInMemory, completed}
use Rattle.ibos_send.proofs.Words.{Held, Memory, Receive, Ring, Transmit}

module _ (received : (mem : Memory) (r : RingView) → completed Receive mem r ≡ r.values.taken + length (received_frames mem r))
    (unsent : (mem : Memory) (r : RingView) → IsBalanced r → completed Transmit mem r + length (unsent_frames mem r) ≡ r.values.posted)
    (m : Mediated) (mem mem' : Memory) (h : Held) (frame : List ℕ) (before : IsInMemory m mem) (after : IsInMemory (changed Transmit (Posts h) m) mem')
    (same : received_frames mem' m.receive ≡ received_frames mem m.receive) (more : unsent_frames mem' (ring_changed m.transmit (Posts h)) ≡ unsent_frames mem m.transmit ++ frame ∷ []) where
  pub posted-done : (ring : Ring) → completed ring mem' (ring_of (changed Transmit (Posts h) m) ring) ≡ completed ring mem (ring_of m ring)
  posted-done Receive = received mem' m.receive ∙ ap (λ (fs : List (List ℕ)). m.receive.values.taken + length fs) same ∙ sym (received mem m.receive)
  posted-done Transmit =
      let one = unsent mem m.transmit (before.ring Transmit).balanced in
      let other = unsent mem' (ring_changed m.transmit (Posts h)) (after.ring Transmit).balanced in
      let long : length (unsent_frames mem' (ring_changed m.transmit (Posts h))) ≡ length (unsent_frames mem m.transmit) + 1 = ap (λ (fs : List (List ℕ)). length fs) more ∙ length-append (unsent_frames mem m.transmit) (frame ∷ []) in
      omega (arith, one, other, long)
