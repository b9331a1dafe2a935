-- Buffers at hand, in parts.
use Rattle.std.proofs.Common.{◌≡◌, ◌≢◌, ℕ, zero, suc, ◌||◌, List, [], ◌∷◌, ◌++◌, Bool, true, false, refl, sym, ◌∙◌, ap, subst}
use Rattle.std.specs.Prelude.{None, Some, slice_get, unwrap_or}
use Rattle.std.proofs.lemmas.List.{append_assoc}
use Rattle.std.proofs.lemmas.List.Folds.{list_any-append}
use Rattle.ibos_pool.proofs.HandLemmas.{not_true, parts}
use Rattle.ibos_pool.proofs.PlaceLemmas.{same_from_test, test_from_same}
use Rattle.ibos_send.proofs.Words.{AreAtHand, Held, IsKept, Memory, Names, Place, has_place, same_place}

pub has-append : (xs ys : List Held) (p : Place) → has_place (xs ++ ys) p ≡ (has_place xs p || has_place ys p)
has-append xs ys p = list_any-append (λ (h : Held). same_place p h.place) xs ys

-- no place is in both
abbrev pub ShareNone : List Held → List Held → Type 0
ShareNone xs ys = (p : Place) → has_place xs p ≡ true → has_place ys p ≡ true → ⊥

pub clash : (b : Bool) → b ≡ true → b ≡ false → ⊥
clash true is isn't = let e : true ≡ false = isn't in cc
clash false is isn't = let e : false ≡ true = is in cc

left_in : (a b : Bool) → a ≡ true → (a || b) ≡ true
left_in true b is = refl
left_in false b is = let e : false ≡ true = is in absurd cc

right_in : (a b : Bool) → b ≡ true → (a || b) ≡ true
right_in true b is = refl
right_in false b is = is

pub in_left : (xs ys : List Held) (p : Place) → has_place xs p ≡ true → has_place (xs ++ ys) p ≡ true
in_left xs ys p is = has-append xs ys p ∙ left_in _ _ is

pub in_right : (xs ys : List Held) (p : Place) → has_place ys p ≡ true → has_place (xs ++ ys) p ≡ true
in_right xs ys p is = has-append xs ys p ∙ right_in _ _ is

-- what is in two lists together is in one of them
pub in_either : {A : Type 0} (xs ys : List Held) (p : Place) → has_place (xs ++ ys) p ≡ true → (has_place xs p ≡ true → A) → (has_place ys p ≡ true → A) → A
in_either {A} xs ys p is one other = by_test (has_place xs p) refl
  where
    by_test : (b : Bool) → has_place xs p ≡ b → A
    by_test true in_x = one in_x
    by_test false out = other (sym (ap (λ b. b || has_place ys p) out) ∙ sym (has-append xs ys p) ∙ is)

pub both_false : (a b : Bool) → a ≡ false → b ≡ false → (a || b) ≡ false
both_false a b is is' = rw (is, is') refl

-- an item of a list is in it
pub in_list : (ys : List Held) (k : ℕ) (g : Held) → slice_get ys k ≡ Some g → has_place ys g.place ≡ true
in_list [] k g at = let e : None ≡ Some g = at in absurd cc
in_list (y ∷ ys) zero g at = left_in _ _ (subst (λ (o : Held). same_place g.place o.place ≡ true) (sym (ap (λ o. unwrap_or o y) at)) (test_from_same g.place))
in_list (y ∷ ys) (suc k) g at = right_in _ _ (in_list ys k g at)

module _ (names : Names) (mem : Memory) where
  pub front_of : (xs ys : List Held) → AreAtHand names mem (xs ++ ys) → AreAtHand names mem xs
  front_of [] ys hands = tt
  front_of (x ∷ xs) ys hands = (hands.0, hands.1, (parts _ _ (sym (has-append xs ys x.place) ∙ hands.2)).0, front_of xs ys hands.3)

  pub back_of : (xs ys : List Held) → AreAtHand names mem (xs ++ ys) → AreAtHand names mem ys
  back_of [] ys hands = hands
  back_of (x ∷ xs) ys hands = back_of xs ys hands.3

  -- the first of a list is in no other place of it
  first_apart : (x : Held) (xs : List Held) (p : Place) → has_place xs x.place ≡ false → same_place p x.place ≡ true → has_place xs p ≡ true → ⊥
  first_apart x xs p out same is = clash (has_place xs x.place) (subst (λ q. has_place xs q ≡ true) (same_from_test p x.place same) is) out

  pub none_shared : (xs ys : List Held) → AreAtHand names mem (xs ++ ys) → ShareNone xs ys
  none_shared [] ys hands p in_x in_y = clash false in_x refl
  none_shared (x ∷ xs) ys hands p in_x in_y = by_test (same_place p x.place) refl (none_shared xs ys hands.3 p)
    where
      by_test : (b : Bool) → same_place p x.place ≡ b → (has_place xs p ≡ true → has_place ys p ≡ true → ⊥) → ⊥
      by_test true same rest = first_apart x (xs ++ ys) p hands.2 same (in_right xs ys p in_y)
      by_test false differ rest = rest (sym (ap (λ b. b || has_place xs p) differ) ∙ in_x) in_y

  pub joined : (xs ys : List Held) → AreAtHand names mem xs → AreAtHand names mem ys → ShareNone xs ys → AreAtHand names mem (xs ++ ys)
  joined [] ys hands more none = more
  joined (x ∷ xs) ys hands more none = (
    hands.0,
    hands.1,
    has-append xs ys x.place ∙ both_false _ _ hands.2 (not_true _ (λ is. none x.place (left_in _ _ (test_from_same x.place)) is)),
    joined xs ys hands.3 more (λ p in_x in_y. none p (right_in _ _ in_x) in_y),
  )

  pub swapped : (xs ys : List Held) → AreAtHand names mem (xs ++ ys) → AreAtHand names mem (ys ++ xs)
  swapped xs ys hands = joined ys xs (back_of xs ys hands) (front_of xs ys hands) (λ p in_y in_x. none_shared xs ys hands p in_x in_y)

  -- the second of three parts comes first
  pub rotated : (xs ys zs : List Held) → AreAtHand names mem (xs ++ (ys ++ zs)) → AreAtHand names mem (ys ++ (xs ++ zs))
  rotated xs ys zs hands =
      let rest = back_of xs (ys ++ zs) hands in
      let none = none_shared xs (ys ++ zs) hands in
      let none' = none_shared ys zs rest in
      joined ys (xs ++ zs) (front_of ys zs rest)
      (joined xs zs (front_of xs (ys ++ zs) hands) (back_of ys zs rest) (λ p in_x in_z. none p in_x (in_right ys zs p in_z)))
      (λ p in_y in_xz. in_either xs zs p in_xz (λ in_x. none p in_x (in_left ys zs p in_y)) (λ in_z. none' p in_y in_z))

  -- one part among others comes first, and the other way
  pub comes_first : (front xs back more : List Held) → AreAtHand names mem ((front ++ (xs ++ back)) ++ more) → AreAtHand names mem (xs ++ ((front ++ back) ++ more))
  comes_first front xs back more hands =
      let to : (front ++ (xs ++ back)) ++ more ≡ front ++ (xs ++ (back ++ more)) = append_assoc front (xs ++ back) more ∙ ap (λ zs. front ++ zs) (append_assoc xs back more) in
      subst (λ zs. AreAtHand names mem (xs ++ zs)) (sym (append_assoc front back more)) (rotated front xs (back ++ more) (subst (AreAtHand names mem) to hands))

  pub goes_back : (front xs back more : List Held) → AreAtHand names mem (xs ++ ((front ++ back) ++ more)) → AreAtHand names mem ((front ++ (xs ++ back)) ++ more)
  goes_back front xs back more hands =
      let to : (front ++ (xs ++ back)) ++ more ≡ front ++ (xs ++ (back ++ more)) = append_assoc front (xs ++ back) more ∙ ap (λ zs. front ++ zs) (append_assoc xs back more) in
      subst (AreAtHand names mem) (sym to) (rotated xs front (back ++ more) (subst (λ zs. AreAtHand names mem (xs ++ zs)) (append_assoc front back more) hands))

  pub kept_in : (xs : List Held) (p : Place) → AreAtHand names mem xs → has_place xs p ≡ true → IsKept mem p
  kept_in [] p hands is = absurd (clash false is refl)
  kept_in (x ∷ xs) p hands is = by_test (same_place p x.place) refl (kept_in xs p hands.3)
    where
      by_test : (b : Bool) → same_place p x.place ≡ b → (has_place xs p ≡ true → IsKept mem p) → IsKept mem p
      by_test true same rest = subst (IsKept mem) (sym (same_from_test p x.place same)) hands.1
      by_test false differ rest = rest (sym (ap (λ b. b || has_place xs p) differ) ∙ is)

  -- two of them are at two places
  first_differs : (x : Held) (xs : List Held) (j : ℕ) (h g : Held) → has_place xs x.place ≡ false → Some x ≡ Some h → slice_get xs j ≡ Some g → h.place ≡ g.place → ⊥
  first_differs x xs j h g out at at' same =
      let is : x ≡ h = ap (λ o. unwrap_or o x) at in
      clash (has_place xs x.place) (subst (λ q. has_place xs q ≡ true) (sym same ∙ sym (ap (λ (k : Held). k.place) is)) (in_list xs j g at')) out

  pub places_differ : (xs : List Held) (i j : ℕ) (h g : Held) → AreAtHand names mem xs → i ≢ j → slice_get xs i ≡ Some h → slice_get xs j ≡ Some g → h.place ≡ g.place → ⊥
  places_differ [] i j h g hands differ at at' same = let e : None ≡ Some h = at in cc
  places_differ (x ∷ xs) zero zero h g hands differ at at' same = differ refl
  places_differ (x ∷ xs) zero (suc j) h g hands differ at at' same = first_differs x xs j h g hands.2 at at' same
  places_differ (x ∷ xs) (suc i) zero h g hands differ at at' same = first_differs x xs i g h hands.2 at' at (sym same)
  places_differ (x ∷ xs) (suc i) (suc j) h g hands differ at at' same = places_differ xs i j h g hands.3 (λ e. differ (ap suc e)) at at' same

  -- two parts stand in each other's place
  pub exchanged : (xs ps ys qs : List Held) → AreAtHand names mem (xs ++ (ps ++ (ys ++ qs))) → AreAtHand names mem (ys ++ (ps ++ (xs ++ qs)))
  exchanged xs ps ys qs hands =
      let one = rotated (xs ++ ps) ys qs (subst (AreAtHand names mem) (sym (append_assoc xs ps (ys ++ qs))) hands) in
      let flat = subst (AreAtHand names mem) (ap (λ zs. ys ++ zs) (append_assoc xs ps qs) ∙ sym (append_assoc ys xs (ps ++ qs))) one in
      let two = rotated (ys ++ xs) ps qs flat in
      rotated ps ys (xs ++ qs) (subst (λ zs. AreAtHand names mem (ps ++ zs)) (append_assoc ys xs qs) two)

  -- two neighbours change places behind others
  pub rotated_behind : (ws xs ys zs : List Held) → AreAtHand names mem (ws ++ (xs ++ (ys ++ zs))) → AreAtHand names mem (ws ++ (ys ++ (xs ++ zs)))
  rotated_behind ws xs ys zs hands =
      let one = rotated (ws ++ xs) ys zs (subst (AreAtHand names mem) (sym (append_assoc ws xs (ys ++ zs))) hands) in
      rotated ys ws (xs ++ zs) (subst (λ hs. AreAtHand names mem (ys ++ hs)) (append_assoc ws xs zs) one)

  pub regrouped : (xs ys zs : List Held) → AreAtHand names mem ((xs ++ ys) ++ zs) → AreAtHand names mem (xs ++ (ys ++ zs))
  regrouped xs ys zs hands = subst (AreAtHand names mem) (append_assoc xs ys zs) hands

  pub grouped : (xs ys zs : List Held) → AreAtHand names mem (xs ++ (ys ++ zs)) → AreAtHand names mem ((xs ++ ys) ++ zs)
  grouped xs ys zs hands = subst (AreAtHand names mem) (sym (append_assoc xs ys zs)) hands
