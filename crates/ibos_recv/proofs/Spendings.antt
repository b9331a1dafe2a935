-- A loan is given to the pool, as it is or after it was passed to the inboxes' buffers.
use Rattle.std.proofs.Common.{◌≡◌, ℕ, false, cond, List, [], ◌∷◌, ◌++◌, length, map, refl, sym, ◌∙◌, ap, subst, Result, Ok, Err}
use Rattle.std.specs.List.{list_any}
use Rattle.std.proofs.lemmas.List.{append-nil, map-append}
use Rattle.ibos_pool.proofs.HandLemmas.{hands-exchanged, hands-given, parts}
use Rattle.ibos_kinds.specs.declared.rule.Rule.{Rule}
use Rattle.ibos_mediate.specs.Mediated.{Mediated, ring_of}
use Rattle.ibos_mediate.specs.Relation.{AreOwned, AreUnheldBut, IsInMemory}
use Rattle.ibos_recv.proofs.Givings.{has_name-append}
use Rattle.ibos_recv.proofs.PartedHands.{comes_first, goes_back, rotated}
use Rattle.ibos_recv.proofs.Words.{AreAtHand, AreExchanged, Held, Instance, IsClaimed, IsKept, IsLoanOf, IsPassed, IsSpent, Memory, Name, Names, Place, Ring, as_placed, has_name, is_taken, place_of, same_name}

-- the names of buffers, in their order
abbrev pub names_in : List Held → List Name
names_in held = map (λ (h : Held). h.name) held

has-listed : (held : List Held) (name : Name) → has_name held name ≡ list_any (λ n. same_name name n) (names_in held)
has-listed [] name = refl
has-listed (h ∷ held) name = rw (has-listed held name) refl

-- where the names are the same, so are the tests of them
pub has-same : (held held' : List Held) (name : Name) → names_in held' ≡ names_in held → has_name held' name ≡ has_name held name
has-same held held' name same = has-listed held' name ∙ ap (λ ns. list_any (λ n. same_name name n) ns) same ∙ sym (has-listed held name)

-- and what is at hand lies at the places that the pool has for the names
abbrev placed_by : Names → Name → Held
placed_by pool name = record { name = name; place = place_of pool name }

placed-listed : (pool : Names) (held : List Held) → as_placed pool held ≡ map (placed_by pool) (names_in held)
placed-listed pool [] = refl
placed-listed pool (h ∷ held) = ap (λ hs. placed_by pool h.name ∷ hs) (placed-listed pool held)

placed-hands : (pool : Names) (mem : Memory) (held : List Held) → AreAtHand pool mem held → held ≡ map (placed_by pool) (names_in held)
placed-hands pool mem [] hands = refl
placed-hands pool mem (h ∷ held) hands =
    let F : Place → Held = λ p. record { name = h.name; place = p } in
    ap (λ x. x ∷ held) (ap F (sym hands.0.place)) ∙ ap (λ hs. placed_by pool h.name ∷ hs) (placed-hands pool mem held hands.3)

pub placed-same : (pool : Names) (mem : Memory) (held held' : List Held) → AreAtHand pool mem held' → names_in held' ≡ names_in held → held' ≡ as_placed pool held
placed-same pool mem held held' hands same = placed-hands pool mem held' hands ∙ ap (λ ns. map (placed_by pool) ns) same ∙ sym (placed-listed pool held)

-- the laws of the mediator that a gift rests on
pub record GiftLaws : Type 0 where
  pub given_owned : (m : Mediated) (mem : Memory) (names names' : Names) (h : Held) (ring : Ring) → IsInMemory m mem → IsLoanOf names h → IsKept mem h.place → IsClaimed names names' h.name false → AreOwned ring (ring_of m ring) names → AreOwned ring (ring_of m ring) names'
  pub given_unheld : (m : Mediated) (mem : Memory) (names names' : Names) (out : List Held) (h : Held) → IsLoanOf names h → IsKept mem h.place → IsClaimed names names' h.name false → AreUnheldBut (h ∷ out) m names mem → AreUnheldBut out m names' mem
  pub exchanged_owned : (m : Mediated) (mem : Memory) (names names' : Names) (h k : Held) (ring : Ring) → IsInMemory m mem → IsLoanOf names h → IsKept mem h.place → IsLoanOf names k → IsKept mem k.place → AreExchanged names names' h.name k.name
      → AreOwned ring (ring_of m ring) names → AreOwned ring (ring_of m ring) names'
  pub exchanged_unheld : (m : Mediated) (mem : Memory) (names names' : Names) (out : List Held) (h k : Held) → IsLoanOf names h → IsKept mem h.place → IsLoanOf names k → IsKept mem k.place → AreExchanged names names' h.name k.name
      → AreUnheldBut out m names mem → AreUnheldBut out m names' mem

-- what a spent loan leaves
pub record Leaves (m : Mediated) (mem : Memory) (h : Held) (held held' : List Held) (pool pool' : Names) : Type 0 where
  pub owned : (ring : Ring) → AreOwned ring (ring_of m ring) pool → AreOwned ring (ring_of m ring) pool'
  pub unheld : AreUnheldBut (h ∷ []) m pool mem → AreUnheldBut [] m pool' mem
  pub hands : (more : List Held) → AreAtHand pool mem (h ∷ (held ++ more)) → AreAtHand pool' mem (held' ++ more)
  pub taken_names : (name : Name) → is_taken pool' name ≡ cond (same_name name h.name) false (is_taken pool name)
  pub places : (name : Name) → same_name name h.name ≡ false → has_name held name ≡ false → place_of pool' name ≡ place_of pool name
  pub areas : length pool' ≡ length pool
  pub names : names_in held' ≡ names_in held

module _ (laws : GiftLaws) (m : Mediated) (mem : Memory) (h : Held) (held : List Held) (pool pool' : Names) (memory : IsInMemory m mem) (hands : AreAtHand pool mem (h ∷ held)) where
  leaves-given : (held' : List Held) → held' ≡ held → IsClaimed pool pool' h.name false → Leaves m mem h held held' pool pool'
  leaves-given held' same claimed = record {
    owned = λ ring owned. laws.given_owned m mem pool pool' h ring memory hands.0 hands.1 claimed owned;
    unheld = λ unheld. laws.given_unheld m mem pool pool' [] h hands.0 hands.1 claimed unheld;
    hands = λ more all. subst (λ hs. AreAtHand pool' mem (hs ++ more)) (sym same) (hands-given pool pool' mem (held ++ more) h claimed all);
    taken_names = claimed.taken_names;
    places = λ name other none. claimed.places name;
    areas = claimed.areas;
    names = ap names_in same;
  }

  module _ (between : Names) (held' : List Held) (passed : IsPassed h held held' pool between) (claimed : IsClaimed between pool' h.name false) where
    -- the two after the exchange
    abbrev back_to : Held
    back_to = record { name = h.name; place = passed.free.place }

    abbrev filled : Held
    filled = record { name = passed.free.name; place = h.place }

    abbrev rest : List Held
    rest = passed.front ++ passed.back

    -- the loan, the buffer, and the others
    in-order : (more : List Held) → AreAtHand pool mem (h ∷ (held ++ more)) → AreAtHand pool mem (h ∷ passed.free ∷ (rest ++ more))
    in-order more all =
        rotated pool mem (passed.free ∷ []) (h ∷ []) (rest ++ more)
        (comes_first pool mem (h ∷ passed.front) (passed.free ∷ []) passed.back more (subst (λ hs. AreAtHand pool mem (h ∷ (hs ++ more))) passed.was all))

    after : (more : List Held) → AreAtHand pool mem (h ∷ (held ++ more)) → AreAtHand between mem (back_to ∷ filled ∷ (rest ++ more))
    after more all = hands-exchanged pool between mem (rest ++ more) h passed.free passed.exchanged (in-order more all)

    alone : AreAtHand pool mem (h ∷ (held ++ []))
    alone = subst (λ hs. AreAtHand pool mem (h ∷ hs)) (sym (append-nil held)) hands

    loan-free : IsLoanOf pool passed.free
    loan-free = (in-order [] alone).3.0

    kept-free : IsKept mem passed.free.place
    kept-free = (in-order [] alone).3.1

    differs : (name : Name) → has_name held name ≡ false → same_name name passed.free.name ≡ false
    differs name none = (parts _ _ (parts _ _ (sym (has_name-append passed.front (passed.free ∷ passed.back) name) ∙ sym (ap (λ hs. has_name hs name) passed.was) ∙ none)).1).0

    leaves-passed : Leaves m mem h held held' pool pool'
    leaves-passed = record {
      owned = λ ring owned. laws.given_owned m mem between pool' back_to ring memory (after [] alone).0 (after [] alone).1 claimed (laws.exchanged_owned m mem pool between h passed.free ring memory hands.0 hands.1 loan-free kept-free passed.exchanged owned);
      unheld = λ unheld. laws.given_unheld m mem between pool' [] back_to (after [] alone).0 (after [] alone).1 claimed (laws.exchanged_unheld m mem pool between (h ∷ []) h passed.free hands.0 hands.1 loan-free kept-free passed.exchanged unheld);
      hands = λ more all. subst (λ hs. AreAtHand pool' mem (hs ++ more)) (sym passed.now)
          (goes_back pool' mem passed.front (filled ∷ []) passed.back more (hands-given between pool' mem (filled ∷ (rest ++ more)) back_to claimed (after more all)));
      taken_names = λ name. claimed.taken_names name ∙ ap (λ t. cond (same_name name h.name) false t) (passed.exchanged.taken_names name);
      places = λ name other none. claimed.places name ∙ passed.exchanged.places name other (differs name none);
      areas = claimed.areas ∙ passed.exchanged.areas;
      names = ap names_in passed.now ∙ map-append (λ (x : Held). x.name) passed.front (filled ∷ passed.back) ∙ sym (map-append (λ (x : Held). x.name) passed.front (passed.free ∷ passed.back)) ∙ sym (ap names_in passed.was);
    }

  pub leaves : (r : Result (Instance × ℕ) Rule) (held' : List Held) → IsSpent r h held held' pool pool' → Leaves m mem h held held' pool pool'
  leaves (Ok r) held' spent = leaves-passed spent.0 held' spent.1 spent.2
  leaves (Err rule) held' spent = leaves-given held' spent.0 spent.1
