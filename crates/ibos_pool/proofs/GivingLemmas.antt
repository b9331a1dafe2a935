-- Buffers that are away are given back, one after the other.
use Rattle.std.proofs.Common.{◌≡◌, ◌≢◌, ℕ, suc, ◌<◌, ◌||◌, List, [], ◌∷◌, ◌++◌, Bool, true, false, cond, drop, get_or, length, refl, sym, ◌∙◌, ap, subst, arith}
use Rattle.std.proofs.lemmas.List.Folds.{list_any-append}
use Rattle.std.specs.Prelude.{IsFalse, Option, None, Some, slice_get, unwrap_or}
use Rattle.ibos_pool.specs.declared.name.Name.{Name}
use Rattle.ibos_pool.specs.declared.place.Place.{Place}
use Rattle.ibos_pool.specs.Hands.{AreAtHand, AreAway, AreGiven, has_name, has_place, no_buffer}
use Rattle.ibos_pool.specs.Memory.{IsKept, IsLent, IsMarked, Memory, bytes_at, is_lent_at}
use Rattle.ibos_pool.specs.Names.{Held, IsClaimed, IsLoanOf, Names, is_taken, place_of, same_name}
use Rattle.ibos_pool.specs.Places.{same_place}
use Rattle.ibos_pool.proofs.HandLemmas.{hands-all, names-differ, not_true, place-turned}
use Rattle.ibos_pool.proofs.NameLemmas.{same_name_from_test}
use Rattle.ibos_pool.proofs.PlaceLemmas.{same_from_test}

either_way : (a b : Bool) → (a || b) ≡ false → (a ≡ false) × (b ≡ false)
either_way true b e = absurd (let clash : true ≡ false = e in cc)
either_way false b e = (refl, e)

-- the rest is away where one buffer was given back
pub away-rest : (names new : Names) (mem mem' : Memory) (h : Held) (held : List Held) → IsLoanOf names h → IsFalse (has_place held h.place)
    → IsClaimed names new h.name false → IsMarked mem mem' h.place false → AreAway names mem held → AreAway new mem' held
away-rest names new mem mem' h [] loan apart claimed marked away = tt
away-rest names new mem mem' h (x ∷ held) loan apart claimed marked away =
    let parts = either_way (same_place h.place x.place) (has_place held h.place) apart in
    let differ : same_place x.place h.place ≡ false = place-turned h.place x.place parts.0 in
    let other : same_name x.name h.name ≡ false = names-differ names x h away.0 loan differ in (
      record {
        name = rw claimed.areas away.0.name;
        taken = claimed.taken_names x.name ∙ rw other away.0.taken;
        place = claimed.places x.name ∙ away.0.place;
      },
      record { place = rw marked.areas away.1.place; lent = marked.lent x.place ∙ rw differ away.1.lent },
      away.2,
      away-rest names new mem mem' h held loan parts.1 claimed marked away.3,
    )

-- giving the first back, and then the rest, gives all back
given-test : (first rest old : Bool) → cond rest false (cond first false old) ≡ cond (first || rest) false old
given-test true true old = refl
given-test true false old = refl
given-test false true old = refl
given-test false false old = refl

-- What giving back the rest makes of the pool and the memory is what giving back all made of the first.
pub record AreLeft (all rest : List Held) (first now : Names) (mem mem' : Memory) : Type 0 where
  pub names : (name : Name) → cond (has_name rest name) false (is_taken now name) ≡ cond (has_name all name) false (is_taken first name)
  pub places : (name : Name) → place_of now name ≡ place_of first name
  pub pool_areas : length now ≡ length first
  pub lent : (p : Place) → cond (has_place rest p) false (is_lent_at mem' p) ≡ cond (has_place all p) false (is_lent_at mem p)
  pub bytes : (from n : ℕ) → bytes_at mem' from n ≡ bytes_at mem from n
  pub areas : length mem' ≡ length mem

pub left-all : (held : List Held) (names : Names) (mem : Memory) → AreLeft held held names names mem mem
left-all held names mem = record { names = λ name. refl; places = λ name. refl; pool_areas = refl; lent = λ p. refl; bytes = λ from n. refl; areas = refl }

pub left-step : (all rest : List Held) (h : Held) (first now next : Names) (mem mem' mem'' : Memory) → AreLeft all (h ∷ rest) first now mem mem'
    → IsClaimed now next h.name false → IsMarked mem' mem'' h.place false → AreLeft all rest first next mem mem''
left-step all rest h first now next mem mem' mem'' left claimed marked = record {
  names = λ name. ap (λ t. cond (has_name rest name) false t) (claimed.taken_names name) ∙ given-test (same_name name h.name) (has_name rest name) (is_taken now name) ∙ left.names name;
  places = λ name. claimed.places name ∙ left.places name;
  pool_areas = claimed.areas ∙ left.pool_areas;
  lent = λ p. ap (λ t. cond (has_place rest p) false t) (marked.lent p) ∙ given-test (same_place p h.place) (has_place rest p) (is_lent_at mem' p) ∙ left.lent p;
  bytes = λ from n. marked.bytes from n ∙ left.bytes from n;
  areas = marked.areas ∙ left.areas;
}

pub left-none : (all : List Held) (first now : Names) (mem mem' : Memory) → AreLeft all [] first now mem mem' → AreGiven all first now mem mem'
left-none all first now mem mem' left = record { names = left.names; places = left.places; pool_areas = left.pool_areas; lent = left.lent; bytes = left.bytes; areas = left.areas }

-- what holds while the buffers are given back
pub record IsClosing (all rest : List Held) (first now : Names) (mem mem' : Memory) : Type 0 where
  pub away : AreAway now mem' rest
  pub left : AreLeft all rest first now mem mem'
  pub others : (others : List Held) → AreAway first mem (all ++ others) → AreAway now mem' (rest ++ others)

pub closing-begins : (held : List Held) (names : Names) (mem : Memory) → AreAway names mem held → IsClosing held held names names mem mem
closing-begins held names mem away = record { away = away; left = left-all held names mem; others = λ others more. more }

pub closing-step : (all rest : List Held) (h : Held) (first now next : Names) (mem mem' mem'' : Memory) → IsClosing all (h ∷ rest) first now mem mem'
    → IsClaimed now next h.name false → IsMarked mem' mem'' h.place false → IsClosing all rest first next mem mem''
closing-step all rest h first now next mem mem' mem'' closing claimed marked = record {
  away = let away = closing.away in away-rest now next mem' mem'' h rest away.0 away.2 claimed marked away.3;
  left = left-step all rest h first now next mem mem' mem'' closing.left claimed marked;
  others = λ others more. let away = closing.others others more in away-rest now next mem' mem'' h (rest ++ others) away.0 away.2 claimed marked away.3;
}

-- a list whose first item is known
front-is : (xs : List Held) (x : Held) → Some x ≡ slice_get xs 0 → xs ≡ x ∷ drop 1 xs
front-is [] x e = absurd (let clash : Some x ≡ None = e in cc)
front-is (y ∷ xs) x e = ap (λ (o : Option Held). unwrap_or o y ∷ xs) (sym e)

-- the same for the list from which the first was taken
pub closing-popped : (all held rest : List Held) (h : Held) (first now next : Names) (mem mem' mem'' : Memory) → IsClosing all held first now mem mem'
    → Some h ≡ slice_get held 0 → rest ≡ drop 1 held
    → IsClaimed now next h.name false → IsMarked mem' mem'' h.place false → IsClosing all rest first next mem mem''
closing-popped all held rest h first now next mem mem' mem'' closing is_first is_rest claimed marked =
    let whole : held ≡ h ∷ rest = front-is held h is_first ∙ ap (λ xs. h ∷ xs) (sym is_rest) in
    closing-step all rest h first now next mem mem' mem'' (subst (λ xs. IsClosing all xs first now mem mem') whole closing) claimed marked

-- what is at hand is none of those that are away
not_away : (names : Names) (mem : Memory) (h : Held) (away : List Held) → IsLoanOf names h → IsKept mem h.place → AreAway names mem away → has_name away h.name ≡ false
not_away names mem h [] loan kept are = refl
not_away names mem h (x ∷ away) loan kept are =
    let differ : same_name h.name x.name ≡ false = not_true _ (λ same.
    let place : x.place ≡ h.place = sym are.0.place ∙ sym (ap (place_of names) (same_name_from_test _ _ same)) ∙ loan.place in
    let P : Place → Type 0 = λ p. is_lent_at mem p ≡ true in
    let clash : false ≡ true = sym kept.kept ∙ subst P place are.1.lent in cc) in
    rw (differ) (not_away names mem h away loan kept are.3)

kept-given : (b before : Bool) → before ≡ false → cond b false before ≡ false
kept-given true before was = refl
kept-given false before was = was

-- where they are given, what is at hand stays
pub hands-closed : (names names' : Names) (mem mem' : Memory) (away held : List Held) → AreAway names mem away → AreGiven away names names' mem mem'
    → AreAtHand names mem held → AreAtHand names' mem' held
hands-closed names names' mem mem' away held are given hands = hands-all names names' mem mem' (λ h is at.
    let n = is.name in
    let spot = at.place in (
      record {
        name = rw given.pool_areas (record { area = n.area; index = n.index });
        taken = given.names h.name ∙ ap (λ b. cond b false (is_taken names h.name)) (not_away names mem h away is at are) ∙ is.taken;
        place = given.places h.name ∙ is.place;
      },
      record { place = rw given.areas (record { area = spot.area; index = spot.index }); kept = given.lent h.place ∙ kept-given _ _ at.kept },
    )) held hands

-- Buffers that are away, from what holds of each place of the list.
abbrev pub buffer_in : List Held → ℕ → Held
buffer_in held k = get_or held k no_buffer

-- a place that no buffer of a list has is not among them
pub not_placed : (p : Place) (held : List Held) → ((k : ℕ) → k < length held → p ≢ (buffer_in held k).place) → has_place held p ≡ false
not_placed p [] differ = refl
not_placed p (x ∷ held) differ =
    let first : same_place p x.place ≡ false = not_true _ (λ same. differ 0 (omega arith) (same_from_test p x.place same)) in
    rw first (not_placed p held (λ k below. differ (suc k) (omega arith)))

pub away-each : (names : Names) (mem : Memory) (held : List Held) → ((k : ℕ) → k < length held → IsLoanOf names (buffer_in held k) × IsLent mem (buffer_in held k).place)
    → ((j k : ℕ) → j < k → k < length held → (buffer_in held j).place ≢ (buffer_in held k).place) → AreAway names mem held
away-each names mem [] each apart = tt
away-each names mem (x ∷ held) each apart = (
  (each 0 (omega arith)).0,
  (each 0 (omega arith)).1,
  not_placed x.place held (λ k below. apart 0 (suc k) (omega arith) (omega arith)),
  away-each names mem held (λ k below. each (suc k) (omega arith)) (λ j k order below. apart (suc j) (suc k) (omega arith) (omega arith)),
)

pub away-append : (names : Names) (mem : Memory) (xs ys : List Held) → AreAway names mem xs → AreAway names mem ys
    → ((k : ℕ) → k < length xs → has_place ys (buffer_in xs k).place ≡ false) → AreAway names mem (xs ++ ys)
away-append names mem [] ys away more apart = more
away-append names mem (x ∷ xs) ys away more apart = (
  away.0,
  away.1,
  list_any-append (λ (h : Held). same_place x.place h.place) xs ys ∙ rw (away.2, apart 0 (omega arith)) refl,
  away-append names mem xs ys away.3 more (λ k below. apart (suc k) (omega arith)),
)

-- giving one list and then another gives both
given_twice : (b c old : Bool) → cond c false (cond b false old) ≡ cond (b || c) false old
given_twice true true old = refl
given_twice true false old = refl
given_twice false true old = refl
given_twice false false old = refl

pub given-both : (xs ys : List Held) (names names' names'' : Names) (mem mem' mem'' : Memory) → AreGiven xs names names' mem mem' → AreGiven ys names' names'' mem' mem'' → AreGiven (xs ++ ys) names names'' mem mem''
given-both xs ys names names' names'' mem mem' mem'' one two = record {
  names = λ name. two.names name ∙ rw (one.names name, list_any-append (λ (h : Held). same_name name h.name) xs ys) (given_twice (has_name xs name) (has_name ys name) _);
  places = λ name. two.places name ∙ one.places name;
  pool_areas = two.pool_areas ∙ one.pool_areas;
  lent = λ p. two.lent p ∙ rw (one.lent p, list_any-append (λ (h : Held). same_place p h.place) xs ys) (given_twice (has_place xs p) (has_place ys p) _);
  bytes = λ from n. two.bytes from n ∙ one.bytes from n;
  areas = two.areas ∙ one.areas;
}
