-- One step of a transmit bell: a buffer is taken back, and comes home or is given.
use Rattle.std.proofs.Common.{◌≡◌, ◌≢◌, ℕ, zero, suc, ◌+◌, ◌<◌, false, true, Bool, List, [], ◌∷◌, ◌++◌, length, refl, sym, ◌∙◌, ap, subst, arith}
use Rattle.std.specs.Prelude.{Some, drop, take, not, slice_get, if◌then◌else◌}
use Rattle.std.specs.List.{All}
use Rattle.std.proofs.lemmas.List.{append-nil, append_assoc}
use Rattle.ibos_kinds.specs.declared.outcome.Item.{Item}
use Rattle.ibos_kinds.specs.declared.outcome.Item.TheVariants.{Home, Returned}
use Rattle.ibos_kinds.specs.Sends.{Send, home_items, returned_items, send_at}
use Rattle.ibos_pool.proofs.HandLemmas.{kept-freed}
use Rattle.ibos_nic.specs.Registers.{Registers}
use Rattle.ibos_nic.specs.Rings.{Takes}
use Rattle.ibos_mediate.specs.Changes.{ring_changed}
use Rattle.ibos_mediate.specs.Frames.{after_bell, arrivals, received_frames, returns, taken_back, unsent_frames}
use Rattle.ibos_mediate.specs.Keeps.{Keeps, SameNames, SameRegisters}
use Rattle.ibos_mediate.specs.Mediated.{Mediated, RingView, ring_of}
use Rattle.ibos_mediate.specs.Relation.{AreOwned, AreUnheldBut, IsAtDevice, IsInMemory, completed}
use Rattle.ibos_send.proofs.BackSteps.{IsBack, back-are, none-back, one-back, stays}
use Rattle.ibos_send.proofs.Words.{AreAllAway, AreAtHand, AreReturned, Held, Instance, IsInRing, IsKept, IsMarked, IsSendOf, IsServed, Memory, Name, Names, Outgoing, Place, Post, Receive, Ring, Transmit, address_of, after_returns, all_left, back_since, buffer_bytes, came_back, descriptor_bytes, has_name, has_place, held_in, held_of, is_lent_at, is_open, is_taken, items_for, left_then, numbers_of, posted_in, returned_of, room_slots, slot_address, slot_at}

-- what a bell works on
pub record State : Type 0 where
  pub sends : Outgoing
  pub med : Mediated
  pub pool : Names
  pub mem : Memory

-- What holds all along, from the first state to now.
pub record IsServing (first now : State) : Type 0 where
  pub memory : IsInMemory now.med now.mem
  pub owned : (ring : Ring) → AreOwned ring (ring_of now.med ring) now.pool
  pub at_hand : AreAtHand now.pool now.mem (held_in now.sends)
  pub ring : IsInRing now.sends now.med
  pub state : after_returns now.sends (returns now.mem now.med.transmit) ≡ after_returns first.sends (returns first.mem first.med.transmit)
  pub bell : after_bell Transmit now.mem now.med ≡ after_bell Transmit first.mem first.med
  pub opened : (q : Instance) → is_open now.sends q ≡ is_open first.sends q
  pub waiting : now.sends.waiting ≡ first.sends.waiting
  pub posts : now.sends.posts ≡ first.sends.posts
  pub told : now.sends.told ≡ first.sends.told
  pub done : (ring : Ring) → completed ring now.mem (ring_of now.med ring) ≡ completed ring first.mem (ring_of first.med ring)
  pub receive : now.med.receive ≡ first.med.receive
  pub turns : now.med.turns ≡ first.med.turns
  pub unsent : unsent_frames now.mem now.med.transmit ≡ unsent_frames first.mem first.med.transmit
  pub received : received_frames now.mem now.med.receive ≡ received_frames first.mem first.med.receive
  pub arrived : arrivals now.mem now.med ≡ arrivals first.mem first.med
  pub device : (regs : Registers) → IsAtDevice first.med first.mem regs → IsAtDevice now.med now.mem regs
  pub unheld : (more : List Held) → AreUnheldBut more first.med first.pool first.mem → AreUnheldBut more now.med now.pool now.mem
  pub hands : (more : List Held) → AreAtHand first.pool first.mem (held_in first.sends ++ more) → AreAtHand now.pool now.mem (held_in now.sends ++ more)
  pub served : IsServed first.pool now.pool first.mem now.mem
  pub back : (hs : List Held) × IsBack hs (returns first.mem first.med.transmit) (returns now.mem now.med.transmit) first.sends now.sends first.pool now.pool first.mem now.mem

pub serving-begins : (s : State) → IsInMemory s.med s.mem → ((ring : Ring) → AreOwned ring (ring_of s.med ring) s.pool) → AreAtHand s.pool s.mem (held_in s.sends) → IsInRing s.sends s.med → IsServing s s
serving-begins s memory owned at_hand ring = record {
  memory = memory;
  owned = owned;
  at_hand = at_hand;
  ring = ring;
  state = refl;
  bell = refl;
  opened = λ q. refl;
  waiting = refl;
  posts = refl;
  told = refl;
  done = λ r. refl;
  receive = refl;
  turns = refl;
  unsent = refl;
  received = refl;
  arrived = refl;
  device = λ regs is. is;
  unheld = λ more are. are;
  hands = λ more hands. hands;
  served = record { places = λ name. refl; pool_areas = refl; bytes = λ from n. refl; buffers = λ p place. refl; kept = λ p kept. kept; areas = refl };
  back = ([], none-back (returns s.mem s.med.transmit) s.sends s.pool s.mem);
}

-- what came back, and what it changed
module _ (first now : State) (serving : IsServing first now) where
  abbrev since : List Held
  since = back_since first.sends now.sends (returns first.mem first.med.transmit)

  these : serving.back.0 ≡ since
  these = back-are serving.back.0 (returns first.mem first.med.transmit) (returns now.mem now.med.transmit) first.sends now.sends first.pool now.pool first.mem now.mem serving.back.1

  pub sends-back : now.sends ≡ after_returns first.sends since
  sends-back = serving.back.1.sends ∙ ap (λ hs. after_returns first.sends hs) these

  pub names-given : AreReturned (all_left first.sends since) first.pool now.pool
  names-given = subst (λ hs. AreReturned (all_left first.sends hs) first.pool now.pool) these serving.back.1.given

  pub lent-back : (p : Place) → is_lent_at now.mem p ≡ (if has_place since p then false else is_lent_at first.mem p)
  lent-back p = serving.back.1.lent p ∙ ap (λ hs. if has_place hs p then false else is_lent_at first.mem p) these

  pub names-stay : AreAllAway first.sends → (name : Name) → has_name (returns first.mem first.med.transmit) name ≡ false → is_taken now.pool name ≡ is_taken first.pool name
  names-stay away name apart = stays name serving.back.0 (returns first.mem first.med.transmit) (returns now.mem now.med.transmit) first.sends now.sends first.pool now.pool first.mem now.mem serving.back.1 away apart

-- A buffer is taken back, and its sender has it again or the pool.
pub record IsStep (h : Held) (now next : State) : Type 0 where
  pub taken : next.med ≡ taken_back Transmit now.med
  pub marked : IsMarked now.mem next.mem h.place false
  pub returned : returns now.mem now.med.transmit ≡ h ∷ returns next.mem next.med.transmit
  pub bell : after_bell Transmit next.mem next.med ≡ after_bell Transmit now.mem now.med
  pub hands : (held : List Held) → AreAtHand now.pool now.mem held → AreAtHand now.pool next.mem (h ∷ held)
  pub keeps : Keeps [] now.med next.med now.mem next.mem SameRegisters SameNames
  pub state : next.sends ≡ came_back (slice_get now.sends.posts now.sends.returned) h now.sends
  pub opened : (q : Instance) → is_open next.sends q ≡ is_open now.sends q
  pub pooled : AreReturned (held_of (left_then (slice_get now.sends.posts now.sends.returned) h now.sends)) now.pool next.pool
  pub given : (mem : Memory) (more : List Held) → AreAtHand now.pool mem (h ∷ held_in now.sends ++ more) → AreAtHand next.pool mem (held_in next.sends ++ more)
  pub given_owned : (m : Mediated) (mem : Memory) (ring : Ring) → IsInMemory m mem → AreAtHand now.pool mem (h ∷ held_in now.sends) → AreOwned ring (ring_of m ring) now.pool → AreOwned ring (ring_of m ring) next.pool
  pub given_unheld : (m : Mediated) (mem : Memory) (more : List Held) → AreAtHand now.pool mem (h ∷ held_in now.sends) → AreUnheldBut more m now.pool mem → AreUnheldBut more m next.pool mem

-- the laws of the mediator that a step rests on
pub record Laws : Type 0 where
  pub counted : (mem : Memory) (r : RingView) → completed Transmit mem r ≡ r.values.taken + length (returns mem r)
  pub still : (mem mem' : Memory) (ring : Ring) (r : RingView) → ((one : Ring) (slot : ℕ) → slot < room_slots → slot_at mem' one slot ≡ slot_at mem one slot) → completed ring mem' r ≡ completed ring mem r
  pub unsent : (m : Mediated) (mem mem' : Memory) (p : Place) → IsInMemory m mem → completed Transmit mem m.transmit ≢ m.transmit.values.taken → IsMarked mem mem' p false → unsent_frames mem' (ring_changed m.transmit Takes) ≡ unsent_frames mem m.transmit
  pub received : (m : Mediated) (mem mem' : Memory) (p : Place) → IsInMemory m mem → IsMarked mem mem' p false → received_frames mem' m.receive ≡ received_frames mem m.receive
  pub arrived : (m : Mediated) (mem mem' : Memory) (p : Place) → IsInMemory m mem → IsMarked mem mem' p false → arrivals mem' m ≡ arrivals mem m

-- an item of a list, and those behind it
some_at : {A : Type 0} (xs : List A) (i : ℕ) → i < length xs → (x : A) × (slice_get xs i ≡ Some x) × (drop i xs ≡ x ∷ drop (suc i) xs)
some_at [] i below = absurd (omega (arith, below))
some_at (x ∷ xs) zero below = (x, refl, refl)
some_at (x ∷ xs) (suc i) below = let rest = some_at xs i (omega (arith, below)) in (rest.0, rest.1, rest.2)

-- there is a post whose buffer comes back
pub some-posted : (laws : Laws) (s : State) (h : Held) (rs : List Held) → IsInMemory s.med s.mem → IsInRing s.sends s.med → returns s.mem s.med.transmit ≡ h ∷ rs → s.sends.returned < length s.sends.posts
some-posted laws s h rs memory ring some =
    let counted = laws.counted s.mem s.med.transmit in
    let more : length (returns s.mem s.med.transmit) ≡ suc (length rs) = ap (λ (hs : List Held). length hs) some in
    let rung = (memory.ring Transmit).rung in
    let posted = (memory.ring Transmit).balanced.posted in
    let all = ring.posted in
    let back = ring.taken in
    omega (arith, counted, more, rung, posted, all, back)

module _ (laws : Laws) (h : Held) (first now next : State) (serving : IsServing first now) (step : IsStep h now next) where
  post : (x : Post) × (slice_get now.sends.posts now.sends.returned ≡ Some x) × (drop now.sends.returned now.sends.posts ≡ x ∷ drop (suc now.sends.returned) now.sends.posts)
  post = some_at now.sends.posts now.sends.returned (some-posted laws now h (returns next.mem next.med.transmit) serving.memory serving.ring step.returned)

  back : next.sends ≡ came_back (Some post.0) h now.sends
  back = step.state ∙ ap (λ o. came_back o h now.sends) post.1

  some-done : completed Transmit now.mem now.med.transmit ≢ now.med.transmit.values.taken
  some-done none =
      let counted = laws.counted now.mem now.med.transmit in
      let more : length (returns now.mem now.med.transmit) ≡ suc (length (returns next.mem next.med.transmit)) = ap (λ (hs : List Held). length hs) step.returned in
      omega (arith, none, counted, more)

  kept-next : (p : Place) → IsKept now.mem p → IsKept next.mem p
  kept-next p kept =
      let place = kept.place in
      let marked = step.marked in
      record { place = rw marked.areas (record { area = place.area; index = place.index }); kept = marked.lent p ∙ kept-freed _ _ kept.kept }

  slots : (ring : Ring) (slot : ℕ) → slot < room_slots → slot_at next.mem ring slot ≡ slot_at now.mem ring slot
  slots ring slot below = step.marked.bytes (slot_address ring slot) descriptor_bytes

  receive-same : next.med.receive ≡ now.med.receive
  receive-same = ap (λ (m : Mediated). m.receive) step.taken

  done-step : (ring : Ring) → completed ring next.mem (ring_of next.med ring) ≡ completed ring now.mem (ring_of now.med ring)
  done-step Receive = ap (λ r. completed Receive next.mem r) receive-same ∙ laws.still now.mem next.mem Receive now.med.receive slots
  done-step Transmit =
      let more : next.med.transmit.values.taken ≡ now.med.transmit.values.taken + 1 = ap (λ (m : Mediated). m.transmit.values.taken) step.taken in
      let one = laws.counted next.mem next.med.transmit in
      let other = laws.counted now.mem now.med.transmit in
      let longer : length (returns now.mem now.med.transmit) ≡ suc (length (returns next.mem next.med.transmit)) = ap (λ (hs : List Held). length hs) step.returned in
      omega (arith, more, one, other, longer)

  at_hand : AreAtHand now.pool next.mem (h ∷ held_in now.sends)
  at_hand = step.hands (held_in now.sends) serving.at_hand

  pub serving-step : IsServing first next
  serving-step = record {
    memory = step.keeps.memory;
    owned = λ ring. step.given_owned next.med next.mem ring step.keeps.memory at_hand (step.keeps.owned now.pool now.pool refl ring (serving.owned ring));
    at_hand = subst (AreAtHand next.pool next.mem) (append-nil (held_in next.sends)) (step.given next.mem [] (subst (λ hs. AreAtHand now.pool next.mem (h ∷ hs)) (sym (append-nil (held_in now.sends))) at_hand));
    ring = record {
      posted = ap (λ (m : Mediated). m.transmit.values.posted) step.taken ∙ serving.ring.posted ∙ sym (ap (λ (s : Outgoing). length s.posts) back);
      taken = ap (λ (m : Mediated). m.transmit.values.taken) step.taken ∙ ap (λ n. n + 1) serving.ring.taken ∙ sym (ap (λ (s : Outgoing). s.returned) back);
    };
    state = ap (λ s. after_returns s (returns next.mem next.med.transmit)) step.state ∙ sym (ap (λ hs. after_returns now.sends hs) step.returned) ∙ serving.state;
    bell = step.bell ∙ serving.bell;
    opened = λ q. step.opened q ∙ serving.opened q;
    waiting = ap (λ (s : Outgoing). s.waiting) back ∙ serving.waiting;
    posts = ap (λ (s : Outgoing). s.posts) back ∙ serving.posts;
    told = ap (λ (s : Outgoing). s.told) back ∙ serving.told;
    done = λ ring. done-step ring ∙ serving.done ring;
    receive = receive-same ∙ serving.receive;
    turns = ap (λ (m : Mediated). m.turns) step.taken ∙ serving.turns;
    unsent = ap (λ (m : Mediated). unsent_frames next.mem m.transmit) step.taken ∙ laws.unsent now.med now.mem next.mem h.place serving.memory some-done step.marked ∙ serving.unsent;
    received = ap (λ r. received_frames next.mem r) receive-same ∙ laws.received now.med now.mem next.mem h.place serving.memory step.marked ∙ serving.received;
    arrived = ap (λ m. arrivals next.mem m) step.taken ∙ laws.arrived now.med now.mem next.mem h.place serving.memory step.marked ∙ serving.arrived;
    device = λ regs is. step.keeps.device regs regs refl (serving.device regs is);
    unheld = λ more are. step.given_unheld next.med next.mem more at_hand (step.keeps.unheld now.pool now.pool refl more (serving.unheld more are));
    hands = λ more hands. step.given next.mem more (step.hands (held_in now.sends ++ more) (serving.hands more hands));
    served = record {
      places = λ name. step.pooled.places name ∙ serving.served.places name;
      pool_areas = step.pooled.areas ∙ serving.served.pool_areas;
      bytes = λ from n. step.marked.bytes from n ∙ serving.served.bytes from n;
      buffers = λ p place. step.marked.bytes (address_of p) buffer_bytes ∙ serving.served.buffers p place;
      kept = λ p kept. kept-next p (serving.served.kept p kept);
      areas = step.marked.areas ∙ serving.served.areas;
    };
    back =
        let before = serving.back.1 in
        let before' = rw step.returned at before in (
          serving.back.0 ++ h ∷ [],
          one-back h serving.back.0 (returns first.mem first.med.transmit) (returns next.mem next.med.transmit) first.sends now.sends next.sends first.pool now.pool next.pool first.mem now.mem next.mem
              before' step.state (ap (λ (s : Outgoing). s.returned) back) step.pooled step.marked,
        );
  }

  -- fewer are left
  pub fewer : length (returns next.mem next.med.transmit) < length (returns now.mem now.med.transmit)
  fewer = let more : length (returns now.mem now.med.transmit) ≡ suc (length (returns next.mem next.med.transmit)) = ap (λ (hs : List Held). length hs) step.returned in omega (arith, more)

  posted-now : posted_in now.sends ≡ post.0 ∷ posted_in next.sends
  posted-now =
      let next' : posted_in next.sends ≡ drop (now.sends.returned + 1) now.sends.posts = ap (λ (s : Outgoing). posted_in s) back in
      let same : suc now.sends.returned ≡ now.sends.returned + 1 = omega arith in
      post.2 ∙ ap (λ n. post.0 ∷ drop n now.sends.posts) same ∙ ap (λ ps. post.0 ∷ ps) (sym next')

  module _ (ended : Instance → Bool) (sends : List Send) where
    pub all-next : All (IsSendOf ended sends now.sends) (posted_in now.sends) → All (IsSendOf ended sends next.sends) (posted_in next.sends)
    all-next all k d below =
        let all' = subst (All (IsSendOf ended sends now.sends)) posted-now all in
        let one = all' (suc k) d (omega (arith, below)) in
        record { send = one.send; gone = one.gone ∙ ap not (sym (step.opened _)) }

    items-now : All (IsSendOf ended sends now.sends) (posted_in now.sends)
        → returned_items ended sends (take (length (returns now.mem now.med.transmit)) (numbers_of (posted_in now.sends))) ≡ returned_of now.sends ++ returned_items ended sends (take (length (returns next.mem next.med.transmit)) (numbers_of (posted_in next.sends)))
    unfolding returned_items
    items-now all =
        let all' = subst (All (IsSendOf ended sends now.sends)) posted-now all in
        let own = all' zero post.0 (omega arith) in
        ap (λ (hs : List Held). returned_items ended sends (take (length hs) (numbers_of (posted_in now.sends)))) step.returned
        ∙ ap (λ ps. returned_items ended sends (take (suc (length (returns next.mem next.med.transmit))) (numbers_of ps))) posted-now
        ∙ ap (λ is. Returned post.0.number ∷ (is ++ returned_items ended sends (take (length (returns next.mem next.med.transmit)) (numbers_of (posted_in next.sends))))) (homes own)
        ∙ sym (ap (λ o. items_for now.sends o ++ returned_items ended sends (take (length (returns next.mem next.med.transmit)) (numbers_of (posted_in next.sends)))) post.1)
      where
        by_open : (e o : Bool) (x : Send) → e ≡ not o → x.who ≡ post.0.who → x.buffer ≡ post.0.buffer → (if e then [] else Home x.who x.buffer ∷ []) ≡ (if o then Home post.0.who post.0.buffer ∷ [] else [])
        by_open e true x is who buffer = rw is (ap (λ q. Home q x.buffer ∷ []) who ∙ ap (λ b. Home post.0.who b ∷ []) buffer)
        by_open e false x is who buffer = rw is refl

        homes : IsSendOf ended sends now.sends post.0 → home_items ended (send_at sends post.0.number) ≡ (if is_open now.sends post.0.who then Home post.0.who post.0.buffer ∷ [] else [])
        homes own =
            let send = own.send in
            ap (λ o. home_items ended o) send.1 ∙ by_open (ended send.0.who) (is_open now.sends post.0.who) send.0 (ap ended send.2 ∙ own.gone) send.2 send.3

    pub told-step : (before items items' : List Item) → All (IsSendOf ended sends now.sends) (posted_in now.sends) → items' ≡ items ++ returned_of now.sends
        → before ≡ items ++ returned_items ended sends (take (length (returns now.mem now.med.transmit)) (numbers_of (posted_in now.sends)))
        → before ≡ items' ++ returned_items ended sends (take (length (returns next.mem next.med.transmit)) (numbers_of (posted_in next.sends)))
    told-step before items items' all pushed told =
        told ∙ ap (λ is. items ++ is) (items-now all) ∙ sym (append_assoc items (returned_of now.sends) (returned_items ended sends (take (length (returns next.mem next.med.transmit)) (numbers_of (posted_in next.sends)))))
        ∙ ap (λ is. is ++ returned_items ended sends (take (length (returns next.mem next.med.transmit)) (numbers_of (posted_in next.sends)))) (sym pushed)

-- What is told already, and what is still to be told, are all.
abbrev pub IsTold : State → State → List Item → List Item → Type 0
IsTold first now before items = (ended : Instance → Bool) (sends : List Send) → All (IsSendOf ended sends first.sends) (posted_in first.sends)
    → All (IsSendOf ended sends now.sends) (posted_in now.sends)
    × (before ++ returned_items ended sends (take (length (returns first.mem first.med.transmit)) (numbers_of (posted_in first.sends)))
    ≡ items ++ returned_items ended sends (take (length (returns now.mem now.med.transmit)) (numbers_of (posted_in now.sends))))

-- nothing is left to be told
pub told-all : (first now : State) (before items : List Item) → IsTold first now before items → returns now.mem now.med.transmit ≡ [] → (ended : Instance → Bool) (sends : List Send) → All (IsSendOf ended sends first.sends) (posted_in first.sends)
    → items ≡ before ++ returned_items ended sends (take (length (returns first.mem first.med.transmit)) (numbers_of (posted_in first.sends)))
unfolding returned_items
told-all first now before items told none ended sends all =
    let all' = told ended sends all in
    sym (all'.1 ∙ ap (λ (hs : List Held). items ++ returned_items ended sends (take (length hs) (numbers_of (posted_in now.sends)))) none ∙ append-nil items)
