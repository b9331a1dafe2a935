-- One step of a receive bell: what it keeps.
use Rattle.std.proofs.Common.{◌≡◌, ◌≢◌, ◌↔◌, ℕ, suc, ◌+◌, ◌<◌, false, cond, List, [], ◌∷◌, ◌++◌, length, None, Result, refl, sym, ◌∙◌, ap, subst, arith}
use Rattle.std.proofs.lemmas.Bool.Decides.{nat_tests}
use Rattle.std.proofs.lemmas.List.{append-nil}
use Rattle.ibos_pool.proofs.HandLemmas.{kept-freed}
use Rattle.ibos_kinds.specs.declared.rule.Rule.{Rule}
use Rattle.ibos_nic.specs.Registers.{Registers}
use Rattle.ibos_mediate.specs.Frames.{Arrival, after_bell, arrivals, taken_back, unsent_frames}
use Rattle.ibos_mediate.specs.Keeps.{Keeps, SameNames, SameRegisters}
use Rattle.ibos_mediate.specs.Mediated.{Mediated, RingView, ring_of}
use Rattle.ibos_mediate.specs.Relation.{AreOwned, AreUnheld, IsAtDevice, IsInMemory, IsLoanFor, completed}
use Rattle.ibos_recv.proofs.Spendings.{GiftLaws, Leaves, has-same, leaves, names_in}
use Rattle.ibos_recv.proofs.Words.{AreAtHand, Held, Inboxes, Instance, IsKept, IsMarked, IsServed, IsSpent, Memory, Name, Names, Place, Receive, Ring, Transmit, descriptor_bytes, held_in, inbox_by, is_taken, room_slots, same_name, slot_address, slot_at}

-- what a bell works on
pub record State : Type 0 where
  pub med : Mediated
  pub pool : Names
  pub mem : Memory
  pub inboxes : Inboxes

-- What holds all along, from the first state to now.
pub record IsServing (first now : State) : Type 0 where
  pub memory : IsInMemory now.med now.mem
  pub owned : (ring : Ring) → AreOwned ring (ring_of now.med ring) now.pool
  pub unheld : AreUnheld now.med now.pool now.mem
  pub at_hand : AreAtHand now.pool now.mem (held_in now.inboxes)
  pub bell : after_bell Receive now.mem now.med ≡ after_bell Receive first.mem first.med
  pub done : (ring : Ring) → completed ring now.mem (ring_of now.med ring) ≡ completed ring first.mem (ring_of first.med ring)
  pub transmit : now.med.transmit ≡ first.med.transmit
  pub unsent : unsent_frames now.mem now.med.transmit ≡ unsent_frames first.mem first.med.transmit
  pub opened : (p : Instance) → (inbox_by now.inboxes p ≡ None) ↔ (inbox_by first.inboxes p ≡ None)
  pub names : names_in (held_in now.inboxes) ≡ names_in (held_in first.inboxes)
  pub device : (regs : Registers) → IsAtDevice first.med first.mem regs → IsAtDevice now.med now.mem regs
  pub hands : (more : List Held) → AreAtHand first.pool first.mem (held_in first.inboxes ++ more) → AreAtHand now.pool now.mem (held_in now.inboxes ++ more)
  pub served : IsServed (held_in first.inboxes) first.pool now.pool first.mem now.mem

pub serving-begins : (s : State) → IsInMemory s.med s.mem → ((ring : Ring) → AreOwned ring (ring_of s.med ring) s.pool) → AreUnheld s.med s.pool s.mem → AreAtHand s.pool s.mem (held_in s.inboxes) → IsServing s s
serving-begins s memory owned unheld at_hand = record {
  memory = memory;
  owned = owned;
  unheld = unheld;
  at_hand = at_hand;
  bell = refl;
  done = λ ring. refl;
  transmit = refl;
  unsent = refl;
  opened = λ p. ((λ e. e), (λ e. e));
  names = refl;
  device = λ regs is. is;
  hands = λ more hands. hands;
  served = record { names = λ name other. refl; places = λ name other none. refl; pool_areas = refl; bytes = λ from n. refl; kept = λ p kept. kept; areas = refl };
}

-- A buffer with its frame is taken back, and its loan is spent as the frame lands.
pub record IsStep (r : Result (Instance × ℕ) Rule) (h : Held) (arrival : Arrival) (now next : State) : Type 0 where
  pub taken : next.med ≡ taken_back Receive now.med
  pub kept : IsKept next.mem h.place
  pub marked : IsMarked now.mem next.mem h.place false
  pub arrived : arrivals now.mem now.med ≡ arrival ∷ arrivals next.mem next.med
  pub bell : after_bell Receive next.mem next.med ≡ after_bell Receive now.mem now.med
  pub loan : IsLoanFor Receive now.pool h
  pub hands : (held : List Held) → AreAtHand now.pool now.mem held → AreAtHand now.pool next.mem (h ∷ held)
  pub keeps : Keeps (h ∷ []) now.med next.med now.mem next.mem SameRegisters SameNames
  pub opened : (p : Instance) → (inbox_by next.inboxes p ≡ None) ↔ (inbox_by now.inboxes p ≡ None)
  pub spent : IsSpent r h (held_in now.inboxes) (held_in next.inboxes) now.pool next.pool

-- the laws of the mediator that a step rests on
pub record Laws : Type 0 where
  pub gifts : GiftLaws
  pub counted : (mem : Memory) (m : Mediated) → completed Receive mem m.receive ≡ m.receive.values.taken + length (arrivals mem m)
  pub completed : (mem mem' : Memory) (ring : Ring) (r : RingView) → ((one : Ring) (slot : ℕ) → slot < room_slots → slot_at mem' one slot ≡ slot_at mem one slot) → completed ring mem' r ≡ completed ring mem r
  pub taken_unsent : (m : Mediated) (mem mem' : Memory) (p : Place) → IsInMemory m mem → IsMarked mem mem' p false → unsent_frames mem' m.transmit ≡ unsent_frames mem m.transmit

module _ (laws : Laws) (r : Result (Instance × ℕ) Rule) (h : Held) (a : Arrival) (first now next : State) (serving : IsServing first now) (step : IsStep r h a now next) where
  at-hand : AreAtHand now.pool next.mem (h ∷ held_in now.inboxes)
  at-hand = step.hands (held_in now.inboxes) serving.at_hand

  memory-step : IsInMemory next.med next.mem
  memory-step = step.keeps.memory

  left : Leaves next.med next.mem h (held_in now.inboxes) (held_in next.inboxes) now.pool next.pool
  left = leaves laws.gifts next.med next.mem h (held_in now.inboxes) now.pool next.pool memory-step at-hand r (held_in next.inboxes) step.spent

  kept-next : (p : Place) → IsKept now.mem p → IsKept next.mem p
  kept-next p kept =
      let place = kept.place in
      let marked = step.marked in
      record { place = rw marked.areas (record { area = place.area; index = place.index }); kept = marked.lent p ∙ kept-freed _ _ kept.kept }

  transmit-same : next.med.transmit ≡ now.med.transmit
  transmit-same = ap (λ (m : Mediated). m.transmit) step.taken

  done-step : (ring : Ring) → completed ring next.mem (ring_of next.med ring) ≡ completed ring now.mem (ring_of now.med ring)
  done-step Transmit = laws.completed now.mem next.mem Transmit next.med.transmit (λ ring slot below. step.marked.bytes (slot_address ring slot) descriptor_bytes) ∙ ap (λ r. completed Transmit now.mem r) transmit-same
  done-step Receive =
      let more : next.med.receive.values.taken ≡ now.med.receive.values.taken + 1 = ap (λ (m : Mediated). m.receive.values.taken) step.taken in
      let one = laws.counted next.mem next.med in
      let other = laws.counted now.mem now.med in
      let longer : length (arrivals now.mem now.med) ≡ suc (length (arrivals next.mem next.med)) = ap (λ (rs : List Arrival). length rs) step.arrived in
      omega (arith, more, one, other, longer)

  -- it is a receive buffer
  other-name : (name : Name) → name.area ≢ 0 → same_name name h.name ≡ false
  other-name name other = let own = step.loan.1 in grind (arith, nat_tests)

  hands-step : (more : List Held) → AreAtHand now.pool now.mem (held_in now.inboxes ++ more) → AreAtHand next.pool next.mem (held_in next.inboxes ++ more)
  hands-step more hands = left.hands more (step.hands (held_in now.inboxes ++ more) hands)

  pub serving-step : IsServing first next
  serving-step = record {
    memory = memory-step;
    owned = λ ring. left.owned ring (step.keeps.owned now.pool now.pool refl ring (serving.owned ring));
    unheld = left.unheld (step.keeps.unheld now.pool now.pool refl [] serving.unheld);
    at_hand = subst (AreAtHand next.pool next.mem) (append-nil (held_in next.inboxes)) (hands-step [] (subst (AreAtHand now.pool now.mem) (sym (append-nil (held_in now.inboxes))) serving.at_hand));
    bell = step.bell ∙ serving.bell;
    done = λ ring. done-step ring ∙ serving.done ring;
    transmit = transmit-same ∙ serving.transmit;
    unsent = ap (λ r. unsent_frames next.mem r) transmit-same ∙ laws.taken_unsent now.med now.mem next.mem h.place serving.memory step.marked ∙ serving.unsent;
    opened = λ p. ((λ e. (serving.opened p).0 ((step.opened p).0 e)), (λ e. (step.opened p).1 ((serving.opened p).1 e)));
    names = left.names ∙ serving.names;
    device = λ regs is. step.keeps.device regs regs refl (serving.device regs is);
    hands = λ more hands. hands-step more (serving.hands more hands);
    served = record {
      names = λ name other. left.taken_names name ∙ ap (λ b. cond b false (is_taken now.pool name)) (other-name name other) ∙ serving.served.names name other;
      places = λ name other none. left.places name (other-name name other) (has-same (held_in first.inboxes) (held_in now.inboxes) name serving.names ∙ none) ∙ serving.served.places name other none;
      pool_areas = left.areas ∙ serving.served.pool_areas;
      bytes = λ from n. step.marked.bytes from n ∙ serving.served.bytes from n;
      kept = λ p kept. kept-next p (serving.served.kept p kept);
      areas = step.marked.areas ∙ serving.served.areas;
    };
  }

-- the step that the calls of one round make
pub step-of : (r : Result (Instance × ℕ) Rule) (now : State) (h : Held) (arrival : Arrival) (med : Mediated) (pool pool' : Names) (mem : Memory) (inboxes : Inboxes)
    → med ≡ taken_back Receive now.med → IsKept mem h.place → IsMarked now.mem mem h.place false → arrivals now.mem now.med ≡ arrival ∷ arrivals mem med → after_bell Receive mem med ≡ after_bell Receive now.mem now.med
    → IsLoanFor Receive pool h → ((held : List Held) → AreAtHand now.pool now.mem held → AreAtHand pool mem (h ∷ held)) → Keeps (h ∷ []) now.med med now.mem mem SameRegisters SameNames → pool ≡ now.pool
    → ((p : Instance) → (inbox_by inboxes p ≡ None) ↔ (inbox_by now.inboxes p ≡ None)) → IsSpent r h (held_in now.inboxes) (held_in inboxes) pool pool'
    → IsStep r h arrival now (record { med = med; pool = pool'; mem = mem; inboxes = inboxes })
step-of r now h arrival med pool pool' mem inboxes taken kept marked arrived bell loan hands keeps same opened spent = record {
  taken = taken;
  kept = kept;
  marked = marked;
  arrived = arrived;
  bell = bell;
  loan = subst (λ names. IsLoanFor Receive names h) same loan;
  hands = λ xs at_hand. subst (λ names. AreAtHand names mem (h ∷ xs)) same (hands xs at_hand);
  keeps = keeps;
  opened = opened;
  spent = subst (λ names. IsSpent r h (held_in now.inboxes) (held_in inboxes) names pool') same spent;
}
