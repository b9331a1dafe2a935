-- What stands at a place of a list: of joined lists, and of a list that a range makes.
use Rattle.std.proofs.Common.{◌≡◌, ℕ, zero, suc, ◌+◌, ◌-◌, ◌<◌, ◌≤◌, List, [], ◌∷◌, ◌++◌, length, map, drop, Some, slice_get, slice_index, slice_set, refl, ap, ◌∙◌, arith}
use Rattle.std.specs.List.{range_with_len}
use Rattle.std.proofs.lemmas.Option.{same_Some}

pub slice_get-front : {X : Type 0} (xs ys : List X) (k : ℕ) → k < length xs → slice_get (xs ++ ys) k ≡ slice_get xs k
slice_get-front [] ys k h = absurd (omega arith)
slice_get-front (x ∷ xs) ys zero h = refl
slice_get-front (x ∷ xs) ys (suc k) h = slice_get-front xs ys k (omega arith)

pub slice_get-behind : {X : Type 0} (xs ys : List X) (k : ℕ) → length xs ≤ k → slice_get (xs ++ ys) k ≡ slice_get ys (k - length xs)
slice_get-behind [] ys k h = let same : k ≡ k - 0 = omega arith in ap (λ n. slice_get ys n) same
slice_get-behind (x ∷ xs) ys zero h = absurd (omega arith)
slice_get-behind (x ∷ xs) ys (suc k) h =
    let less : k - length xs ≡ suc k - suc (length xs) = omega arith in
    slice_get-behind xs ys k (omega arith) ∙ ap (λ n. slice_get ys n) less

pub slice_get-range : {X : Type 0} (f : ℕ → X) (a n k : ℕ) → k < n → slice_get (map f (range_with_len a n)) k ≡ Some (f (a + k))
slice_get-range f a zero k h = absurd (omega arith)
slice_get-range f a (suc n) zero h = let same : a ≡ a + 0 = omega arith in ap (λ i. Some (f i)) same
slice_get-range f a (suc n) (suc k) h =
    let same : a + 1 + k ≡ a + suc k = omega arith in
    slice_get-range f (a + 1) n k (omega arith) ∙ ap (λ i. Some (f i)) same

pub drop-at : {X : Type 0} (xs : List X) (k : ℕ) (x : X) → slice_get xs k ≡ Some x → drop k xs ≡ x ∷ drop (suc k) xs
drop-at [] k x h = cc
drop-at (y ∷ xs) zero x h = ap (λ z. z ∷ xs) (same_Some y x h)
drop-at (y ∷ xs) (suc k) x h = drop-at xs k x h

-- where one number of a list is raised, each has lost at most one of its distance from a bound
pub raised-below : (xs : List ℕ) (k i n bound : ℕ) → ((j : ℕ) → slice_index xs j + suc n < bound)
    → slice_index (slice_set xs k (slice_index xs k + 1)) i + n < bound
raised-below [] k i n bound h = omega (arith, h i)
raised-below (x ∷ xs) zero zero n bound h = omega (arith, h 0)
raised-below (x ∷ xs) zero (suc i) n bound h = omega (arith, h (suc i))
raised-below (x ∷ xs) (suc k) zero n bound h = omega (arith, h 0)
raised-below (x ∷ xs) (suc k) (suc i) n bound h = raised-below xs k i n bound (λ j. h (suc j))
