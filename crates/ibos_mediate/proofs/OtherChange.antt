-- How the relation begins, and what keeps it that is no call of the mediator or of the device.
use Rattle.std.proofs.Common.{◌≡◌, ◌≢◌, ℕ, ◌+◌, ◌<◌, ◌≤◌, ◌⊎◌, ◌==◌, ◌&&◌, List, [], Bool, true, false, None, Some, cond, length, refl, sym, ◌∙◌, ap, inl, inr, subst, arith}
use Rattle.std.proofs.lemmas.Bool.Decides.{nat_tests}
use Rattle.ibos_mediate.proofs.Words.{AreOwned, AreUnheldBut, Err, Filtered, Head, Heard, Held, IsAtDevice, IsClaimed, IsHeard, IsInMemory, IsInside, IsKept, IsLent, IsNameIn, IsOneToOne, IsOpen, IsPlaceIn, IsRingInMemory, IsTransmitted, IsWritten, Keeps, LogEntry, Mediated, MediatesBut, Memory, NoMemory, Missed, Name, Names, Ok, OnHeard, OnSent, OnUnheard, OnUnsent, Part, Place, Rah0, Ral0, Receive, Reg, Registers, Result, Ring, RingPart, RingView, SameNames, SameRegisters, Status, Transmit, Verdict, address_of, after_write, bytes_at, completed, descriptor_bytes, held_for, is_done, is_lent_at, is_taken, max_areas, no_ring, part_of, place_of, receive_name, reg_of, reset, ring_base, ring_of, ring_room, room_slots, same_name, slot_address, slot_at, slot_of, status, value_of}
use Rattle.ibos_nic.proofs.PartLemmas.{no_part, part_of-reg_of}
use Rattle.ibos_mediate.proofs.FrameLemmas.{completed-same, descriptors-left}
use Rattle.ibos_nic.proofs.FirstLemmas.{first_not-none}
use Rattle.ibos_mediate.proofs.PostChange.{owned-claimed}
use Rattle.ibos_mediate.proofs.RegisterChange.{device-same, keeps-still, unheld-else}
use Rattle.ibos_mediate.proofs.Rings.{memory-from, ring-stays}

-- The beginning.
completed-none : (ring : Ring) (mem : Memory) → completed ring mem no_ring ≡ 0
completed-none ring mem = first_not-none (is_done ring mem) 0

none_open : (number : ℕ) → IsOpen no_ring number → ⊥
none_open number is_open = let high = is_open.1 in omega arith

ring-none : (ring : Ring) (mem : Memory) → IsRingInMemory ring mem no_ring
ring-none ring mem = record {
  balanced = record { rung = omega arith; posted = omega arith; room = omega arith; held = refl };
  taken = rw (completed-none ring mem) (omega arith);
  rung = rw (completed-none ring mem) (omega arith);
  each = λ number is_open. absurd (none_open number is_open);
  enabled = λ on. absurd (let clash : false ≡ true = on in cc);
  idle = λ off. completed-none ring mem;
}

value-none : (ring : Ring) (mem : Memory) (part : Part) → value_of no_ring (completed ring mem no_ring) part ≡ 0
value-none ring mem Head = ap slot_of (completed-none ring mem)
value-none ring mem other = refl

no_register : (reg : Reg) → part_of reg ≡ None → (ring : Ring) (part : Part) → reg_of ring part ≢ reg
no_register reg none ring part same =
    let place : RingPart = record { ring = ring; part = part } in
    let clash : Some place ≡ None = sym (part_of-reg_of ring part) ∙ ap part_of same ∙ none in
    cc

pub owned-begins : (m : Mediated) (names : Names) (ring : Ring) → ring_of m ring ≡ no_ring → AreOwned ring (ring_of m ring) names
owned-begins m names ring none number is_open = absurd (none_open number (subst (λ (r : RingView). IsOpen r number) none is_open))

pub begins : (m : Mediated) → m.receive ≡ no_ring → m.transmit ≡ no_ring → (ring : Ring) → ring_of m ring ≡ no_ring
begins m receive transmit Receive = receive
begins m receive transmit Transmit = transmit

module _ (m : Mediated) (none : (ring : Ring) → ring_of m ring ≡ no_ring) where
  pub memory-begins : (mem : Memory) → length mem ≤ max_areas → IsInMemory m mem
  memory-begins mem areas = record {
    areas = areas;
    ring = λ ring. subst (λ (r : RingView). IsRingInMemory ring mem r) (sym (none ring)) (ring-none ring mem);
    apart = λ one other j k open_j open_k same. absurd (none_open j (subst (λ (r : RingView). IsOpen r j) (none one) open_j));
  }

  pub device-begins : (mem : Memory) (regs : Registers) → ((r : Reg) → r ≢ Ral0 → r ≢ Rah0 → regs r ≡ reset r) → IsAtDevice m mem regs
  device-begins mem regs each ring part =
      each (reg_of ring part) (no_register Ral0 refl ring part) (no_register Rah0 refl ring part) ∙ ap (λ b. cond b status 0) (no_part Status refl ring part)
      ∙ sym (ap (λ (r : RingView). value_of r (completed ring mem r) part) (none ring) ∙ value-none ring mem part)

pub unheld-begins : (m : Mediated) (names : Names) (mem : Memory) → IsOneToOne names → length mem ≡ length names → 0 < length names
    → ((name : Name) → is_taken names name ≡ false) → ((p : Place) → is_lent_at mem p ≡ false) → AreUnheldBut [] m names mem
unheld-begins m names mem one areas some free kept index below outside not_out =
    let here : IsNameIn (length names) (receive_name index) = record { area = some; index = below } in
    record { free = free _; kept = record { place = rw areas (one.within _ here); kept = kept _ } }

-- No descriptor changes.
module _ (m : Mediated) (mem mem' : Memory) (slots : (ring : Ring) (slot : ℕ) → slot < room_slots → slot_at mem' ring slot ≡ slot_at mem ring slot) where
  pub memory-else : IsInMemory m mem → length mem' ≤ max_areas → ((p : Place) → IsLent mem p → IsLent mem' p) → IsInMemory m mem'
  memory-else memory areas lent = memory-from m mem' (λ ring. completed ring mem (ring_of m ring))
      (λ ring. let is = memory.ring ring in ring-stays ring mem mem' (ring_of m ring) _ is (λ number is_open. descriptors-left mem mem' slots ring number) (λ number is_open. lent _ (is.each number is_open).lent)) areas memory.apart

  pub device-else : (regs : Registers) → IsAtDevice m mem regs → IsAtDevice m mem' regs
  device-else regs device ring part =
      device ring part ∙ sym (ap (λ n. value_of (ring_of m ring) n part) (completed-same ring mem mem' (ring_of m ring) (λ number is_open. descriptors-left mem mem' slots ring number)))

  pub keeps-else : IsInMemory m mem → length mem ≤ length mem' → length mem' ≤ max_areas → ((p : Place) → is_lent_at mem' p ≡ is_lent_at mem p) → Keeps [] m m mem mem' SameRegisters SameNames
  keeps-else memory longer areas lent = keeps-still m mem mem' SameRegisters
      (memory-else memory areas (λ p is. let place = is.place in let low = place.area in record { place = record { area = omega arith; index = place.index }; lent = lent p ∙ is.lent }))
      (λ regs regs' same device. subst (λ x. IsAtDevice m mem' x) (sym same) (device-else regs device)) lent longer

-- what is written into a buffer leaves the rings
pub slots-written : (behind : (areas : ℕ) (ring : Ring) (p : Place) → IsPlaceIn areas p → ring_base ring + ring_room ≤ address_of p)
    (inside : (ring : Ring) (slot : ℕ) → slot < room_slots → IsInside (ring_base ring) ring_room (slot_address ring slot) descriptor_bytes)
    (mem mem' : Memory) (p : Place) (bytes : List ℕ) → IsKept mem p → IsWritten mem mem' (address_of p) bytes → (ring : Ring) (slot : ℕ) → slot < room_slots → slot_at mem' ring slot ≡ slot_at mem ring slot
slots-written behind inside mem mem' p bytes kept written ring slot below =
    let low = behind (length mem) ring p kept.place in
    let is = inside ring slot below in
    let end = is.ends in
    written.others (slot_address ring slot) descriptor_bytes (inl (omega arith))

pub keeps-written : (behind : (areas : ℕ) (ring : Ring) (p : Place) → IsPlaceIn areas p → ring_base ring + ring_room ≤ address_of p)
    (inside : (ring : Ring) (slot : ℕ) → slot < room_slots → IsInside (ring_base ring) ring_room (slot_address ring slot) descriptor_bytes)
    (m : Mediated) (mem mem' : Memory) (p : Place) (bytes : List ℕ) → IsInMemory m mem → IsKept mem p → IsWritten mem mem' (address_of p) bytes → Keeps [] m m mem mem' SameRegisters SameNames
keeps-written behind inside m mem mem' p bytes memory kept written =
    let areas = written.areas in
    let most = memory.areas in
    keeps-else m mem mem' (slots-written behind inside mem mem' p bytes kept written) memory (omega arith) (omega arith) written.lent

-- the station's address is no part of a ring
pub device-addressed : (m : Mediated) (mem : Memory) (old new : Registers) (reg : Reg) (value : ℕ) → (reg ≡ Ral0) ⊎ (reg ≡ Rah0) → IsAtDevice m mem old
    → ((r : Reg) → new r ≡ after_write reg value old r) → IsAtDevice m mem new
device-addressed m mem old new reg value (inl first) device each = device-same m mem old new device (λ ring part. each (reg_of ring part)
    ∙ ap (λ r. after_write r value old (reg_of ring part)) first ∙ ap (λ b. cond b value (old (reg_of ring part))) (no_part Ral0 refl ring part))
device-addressed m mem old new reg value (inr second) device each = device-same m mem old new device (λ ring part. each (reg_of ring part)
    ∙ ap (λ r. after_write r value old (reg_of ring part)) second ∙ ap (λ b. cond b value (old (reg_of ring part))) (no_part Rah0 refl ring part))

-- What a device does to the memory marks no buffer.
same_marks : (mem mem' : Memory) → mem' ≡ mem → ((p : Place) → is_lent_at mem' p ≡ is_lent_at mem p) × (length mem' ≡ length mem)
same_marks mem mem' same = (λ p. ap (λ x. is_lent_at x p) same, ap length same)

pub unheld-marks : (m : Mediated) (mem mem' : Memory) (names : Names) (out : List Held) → ((p : Place) → is_lent_at mem' p ≡ is_lent_at mem p) → length mem' ≡ length mem
    → AreUnheldBut out m names mem → AreUnheldBut out m names mem'
unheld-marks m mem mem' names out lent areas unheld = unheld-else m mem mem' names out (omega arith) lent unheld

pub marks-heard : (mem mem' : Memory) (regs : Registers) (frame : List ℕ) (log log' : List LogEntry) (result : Result Verdict NoMemory) → OnHeard result (IsHeard mem mem' regs frame log log') → OnUnheard result (mem' ≡ mem)
    → ((p : Place) → is_lent_at mem' p ≡ is_lent_at mem p) × (length mem' ≡ length mem)
marks-heard mem mem' regs frame log log' (Ok Heard) heard unheard = (heard.2.lent, heard.2.areas)
marks-heard mem mem' regs frame log log' (Ok Missed) heard unheard = same_marks mem mem' unheard
marks-heard mem mem' regs frame log log' (Ok Filtered) heard unheard = same_marks mem mem' unheard
marks-heard mem mem' regs frame log log' (Err e) heard unheard = same_marks mem mem' unheard

pub marks-sent : (mem mem' : Memory) (at : ℕ) (result : Result Bool NoMemory) → OnSent result (IsTransmitted mem mem' at) → OnUnsent result (mem' ≡ mem)
    → ((p : Place) → is_lent_at mem' p ≡ is_lent_at mem p) × (length mem' ≡ length mem)
marks-sent mem mem' at (Ok true) sent unsent = (sent.lent, sent.areas)
marks-sent mem mem' at (Ok false) sent unsent = same_marks mem mem' unsent
marks-sent mem mem' at (Err e) sent unsent = same_marks mem mem' unsent

-- Names of the pool.
pub owned-given : (r : RingView) (ring : Ring) (old new : Names) (name : Name) → AreOwned ring r old → IsClaimed old new name false
    → ((number : ℕ) → IsOpen r number → same_name (held_for r number).name name ≡ false) → AreOwned ring r new
owned-given r ring old new name owned claimed differ number is_open =
    let is = owned number is_open in
    let n = is.0.name in (
      record {
        name = rw claimed.areas (record { area = n.area; index = n.index });
        taken = claimed.taken_names _ ∙ ap (λ b. cond b false (is_taken old (held_for r number).name)) (differ number is_open) ∙ is.0.taken;
        place = claimed.places _ ∙ is.0.place;
      },
      is.1,
    )

module _ (old new : Names) (more : length old ≤ length new) (taken : (name : Name) → is_taken new name ≡ is_taken old name)
    (places : (name : Name) → IsNameIn (length old) name → place_of new name ≡ place_of old name) where
  pub owned-added : (r : RingView) (ring : Ring) → AreOwned ring r old → AreOwned ring r new
  owned-added r ring owned number is_open =
      let is = owned number is_open in
      let n = is.0.name in
      let low = n.area in
      (record { name = record { area = omega arith; index = n.index }; taken = taken _ ∙ is.0.taken; place = places _ is.0.name ∙ is.0.place }, is.1)

  pub whole-grown : (m : Mediated) (mem mem' : Memory) (regs : Registers) (out : List Held) → 0 < length old → length mem ≤ length mem' → length mem' ≤ max_areas
      → ((from n : ℕ) → bytes_at mem' from n ≡ bytes_at mem from n) → ((p : Place) → is_lent_at mem' p ≡ is_lent_at mem p) → MediatesBut out m mem regs old → MediatesBut out m mem' regs new
  whole-grown m mem mem' regs out some longer areas bytes lent was =
      let keeps = keeps-else m mem mem' (λ ring slot below. bytes _ _) was.memory longer areas lent in
      record {
        memory = keeps.memory;
        device = keeps.device regs regs refl was.device;
        owned = λ ring. owned-added (ring_of m ring) ring (was.owned ring);
        unheld = λ index within outside not_out.
            let is = unheld-else m mem mem' old out longer lent was.unheld index within outside not_out in
            let same = places (receive_name index) (record { area = some; index = within }) in
            record { free = taken _ ∙ is.free; kept = rw same is.kept };
      }

-- a name that is none of a receive buffer is taken
pub whole-claimed : (m : Mediated) (mem : Memory) (regs : Registers) (old new : Names) (name : Name) (out : List Held) → name.area ≢ 0 → IsClaimed old new name true
    → MediatesBut out m mem regs old → MediatesBut out m mem regs new
whole-claimed m mem regs old new name out other claimed was = record {
  memory = was.memory;
  device = was.device;
  owned = λ ring. owned-claimed (ring_of m ring) ring old new name (was.owned ring) claimed;
  unheld = λ index within outside not_out.
      let is = was.unheld index within outside not_out in
      let test : (0 == name.area) ≡ false = grind (arith, nat_tests) in
      let differ : same_name (receive_name index) name ≡ false = ap (λ b. b && index == name.index) test in
      record { free = claimed.taken_names _ ∙ ap (λ b. cond b true (is_taken old (receive_name index))) differ ∙ is.free; kept = rw (claimed.places (receive_name index)) is.kept };
}
