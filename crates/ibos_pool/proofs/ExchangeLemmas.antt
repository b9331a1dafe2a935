-- What the exchange of two names' places leaves of a pool's names.
use Rattle.std.proofs.Common.{◌≡◌, ℕ, List, Bool, true, false, cond, get_or, set, length, refl, sym, ◌∙◌, ap, subst}
use Rattle.ibos_pool.specs.declared.name.Name.{Name}
use Rattle.ibos_pool.specs.declared.names.Entry.{Entry}
use Rattle.ibos_pool.specs.Hands.{AreExchanged}
use Rattle.ibos_pool.specs.Places.{IsPlaceIn}
use Rattle.ibos_pool.specs.Names.{Held, IsLoanOf, IsNameIn, IsOneToOne, IsSound, Names, no_entry, place_of, same_name}
use Rattle.ibos_pool.proofs.NameLemmas.{IsMoved, move_name, same_name_from_test, test_from_same_name}

-- the one name for the other, and all else as it is
abbrev turned : Name → Name → Name → Name
turned one other n = cond (same_name n one) other (cond (same_name n other) one n)

module _ (old new : Names) (one other : Name) (change : AreExchanged old new one other) where
  place-turned : (n : Name) → place_of new n ≡ place_of old (turned one other n)
  place-turned n = by_tests (same_name n one) (same_name n other) refl refl
    where
      by_tests : (a b : Bool) → same_name n one ≡ a → same_name n other ≡ b → place_of new n ≡ place_of old (cond a other (cond b one n))
      by_tests true b is is' = ap (place_of new) (same_name_from_test n one is) ∙ change.first
      by_tests false true is is' = ap (place_of new) (same_name_from_test n other is') ∙ change.second
      by_tests false false is is' = change.places n is is'

  turned-one : turned one other one ≡ other
  turned-one = ap (λ b. cond b other (cond (same_name one other) one one)) (test_from_same_name one)

  turned-other : turned one other other ≡ one
  turned-other = by_test (same_name other one) refl
    where
      by_test : (b : Bool) → same_name other one ≡ b → cond b other (cond (same_name other other) one other) ≡ one
      by_test true is = same_name_from_test other one is
      by_test false is = ap (λ b. cond b one other) (test_from_same_name other)

  turned-twice : (n : Name) → turned one other (turned one other n) ≡ n
  turned-twice n = by_tests (same_name n one) (same_name n other) refl refl
    where
      by_tests : (a b : Bool) → same_name n one ≡ a → same_name n other ≡ b → turned one other (cond a other (cond b one n)) ≡ n
      by_tests true b is is' = turned-other ∙ sym (same_name_from_test n one is)
      by_tests false true is is' = turned-one ∙ sym (same_name_from_test n other is')
      by_tests false false is is' = ap (λ a. cond a other (cond (same_name n other) one n)) is ∙ ap (λ b. cond b one n) is'

  turned-in : (areas : ℕ) (n : Name) → IsNameIn areas one → IsNameIn areas other → IsNameIn areas n → IsNameIn areas (turned one other n)
  turned-in areas n is_one is_other is_n = by_tests (same_name n one) (same_name n other)
    where
      by_tests : (a b : Bool) → IsNameIn areas (cond a other (cond b one n))
      by_tests true b = is_other
      by_tests false true = is_one
      by_tests false false = is_n

  pub one_to_one-exchanged : IsNameIn (length old) one → IsNameIn (length old) other → IsOneToOne old → IsOneToOne new
  one_to_one-exchanged is_one is_other was = record {
    within = λ n is. subst (λ k. IsPlaceIn k (place_of new n)) (sym change.areas) (subst (IsPlaceIn (length old)) (sym (place-turned n)) (was.within (turned one other n) (turned-in (length old) n is_one is_other (as_old n is))));
    apart = λ a b is_a is_b e.
        let same = was.apart (turned one other a) (turned one other b) (turned-in (length old) a is_one is_other (as_old a is_a)) (turned-in (length old) b is_one is_other (as_old b is_b)) (sym (place-turned a) ∙ e ∙ place-turned b) in
        sym (turned-twice a) ∙ ap (turned one other) same ∙ turned-twice b;
    named = λ p is.
        let found = was.named p (subst (λ k. IsPlaceIn k p) change.areas is) in (
          turned one other found.0,
          subst (λ k. IsNameIn k (turned one other found.0)) (sym change.areas) (turned-in (length old) found.0 is_one is_other found.1),
          place-turned (turned one other found.0) ∙ ap (place_of old) (turned-twice found.0) ∙ found.2,
        );
  }
    where
      as_old : (n : Name) → IsNameIn (length new) n → IsNameIn (length old) n
      as_old n is = subst (λ k. IsNameIn k n) change.areas is

-- what an exchange leaves: the pool is sound, and both are its loans
pub record IsExchange (old new : Names) (h k : Held) : Type 0 where
  pub exchanged : AreExchanged old new h.name k.name
  pub sound : IsSound new
  pub first : IsLoanOf new (record { name = h.name; place = k.place })
  pub second : IsLoanOf new (record { name = k.name; place = h.place })

-- both names are moved, one after the other
module _ (old mid new : Names) (h k : Held) (sound : IsSound old) (loan : IsLoanOf old h) (loan' : IsLoanOf old k) (one : IsMoved old mid h.name k.place) (two : IsMoved mid new k.name h.place) where
  count : length new ≡ length old
  count = two.areas ∙ one.areas

  change : AreExchanged old new h.name k.name
  change = record {
    first = by_test (same_name h.name k.name) refl;
    second = two.places k.name ∙ ap (λ b. cond b h.place (place_of mid k.name)) (test_from_same_name k.name) ∙ sym loan.place;
    places = λ n is is'. two.places n ∙ ap (λ b. cond b h.place (place_of mid n)) is' ∙ one.places n ∙ ap (λ b. cond b k.place (place_of old n)) is;
    taken_names = λ n. two.taken_names n ∙ one.taken_names n;
    areas = count;
  }
    where
      by_test : (b : Bool) → same_name h.name k.name ≡ b → place_of new h.name ≡ place_of old k.name
      by_test true is = two.places h.name ∙ ap (λ b. cond b h.place (place_of mid h.name)) is ∙ sym loan.place ∙ ap (place_of old) (same_name_from_test h.name k.name is)
      by_test false is = two.places h.name ∙ ap (λ b. cond b h.place (place_of mid h.name)) is ∙ one.places h.name ∙ ap (λ b. cond b k.place (place_of old h.name)) (test_from_same_name h.name) ∙ sym loan'.place

  exchange-moved : IsExchange old new h k
  exchange-moved = record {
    exchanged = change;
    sound = record {
      some = rw count sound.some;
      most = rw count sound.most;
      entries = λ area below. two.entries area ∙ one.entries area ∙ sound.entries area (rw (← count) below);
      one_to_one = one_to_one-exchanged old new h.name k.name change loan.name loan'.name sound.one_to_one;
    };
    first = record {
      name = subst (λ n. IsNameIn n h.name) (sym count) loan.name;
      taken = change.taken_names h.name ∙ loan.taken;
      place = change.first ∙ loan'.place;
    };
    second = record {
      name = subst (λ n. IsNameIn n k.name) (sym count) loan'.name;
      taken = change.taken_names k.name ∙ loan'.taken;
      place = change.second ∙ loan.place;
    };
  }

-- es and fs are the entries that were read, and new and new' are what they became
pub exchange : (names : Names) (h k : Held) → IsSound names → IsLoanOf names h → IsLoanOf names k
    → (a : ℕ) → a ≡ h.name.area → (es : List Entry) → es ≡ get_or names a es → (new : List Entry) → new ≡ set es h.name.index (record (get_or es h.name.index no_entry) { place = k.place })
    → (b : ℕ) → b ≡ k.name.area → (fs : List Entry) → fs ≡ get_or (set names a new) b fs → (new' : List Entry) → new' ≡ set fs k.name.index (record (get_or fs k.name.index no_entry) { place = h.place })
    → IsExchange names (set (set names a new) b new') h k
exchange names h k sound loan loan' a is_a es read new became b is_b fs read' new' became' =
    let one = move_name names h.name k.place sound.entries loan.name a is_a es read new became in
    let two = move_name (set names a new) k.name h.place (λ area below. one.entries area ∙ sound.entries area (rw (← one.areas) below)) (subst (λ n. IsNameIn n k.name) (sym one.areas) loan'.name) b is_b fs read' new' became' in
    exchange-moved names (set names a new) (set (set names a new) b new') h k sound loan loan' one two
