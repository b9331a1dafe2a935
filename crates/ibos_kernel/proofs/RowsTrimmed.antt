-- A row without the spaces at its end, from that end on, and rows one after the other.
use Rattle.std.proofs.Common.{◌≡◌, ◌≢◌, ℕ, zero, suc, ◌+◌, ◌-◌, ◌<◌, ◌≤◌, false, List, [], ◌∷◌, ◌++◌, length, take, drop, ◌*◌, refl, sym, ◌∙◌, ap, arith}
use Rattle.std.specs.Prelude.{◌==◌, slice_index}
use Rattle.std.proofs.lemmas.Bool.Decides.{nat_tests}
use Rattle.std.proofs.lemmas.List.{length-take-le, length-drop, get_or-take, get_or-drop}
use Rattle.ibos_model.specs.Screen.{trimmed, trimmed_onto, cells_from, seen_row}
use Rattle.ibos_model.specs.Outcomes.{rows_from}
use Rattle.ibos_kinds.specs.declared.outcome.Item.TheVariants.{RowIs}

pub trimmed-space : (xs : List ℕ) → trimmed (xs ++ 32 ∷ []) ≡ trimmed xs
trimmed-space [] = refl
trimmed-space (x ∷ xs) = ap (trimmed_onto x) (trimmed-space xs)

pub trimmed-other : (xs : List ℕ) (b : ℕ) → (b == 32) ≡ false → trimmed (xs ++ b ∷ []) ≡ xs ++ b ∷ []
trimmed-other [] b other = rw other refl
trimmed-other (x ∷ xs) b other = ap (trimmed_onto x) (trimmed-other xs b other) ∙ onto xs
  where
    onto : (ys : List ℕ) → trimmed_onto x (ys ++ b ∷ []) ≡ x ∷ (ys ++ b ∷ [])
    onto [] = refl
    onto (y ∷ ys) = refl

-- the front with one item more
pub take-one : (n : ℕ) (xs : List ℕ) → n < length xs → take (suc n) xs ≡ take n xs ++ slice_index xs n ∷ []
take-one n [] h = absurd (omega (arith, h))
take-one zero (x ∷ xs) h = refl
take-one (suc n) (x ∷ xs) h = ap (λ ys. x ∷ ys) (take-one n xs (omega (arith, h)))

-- the cells of a list that has these values
pub cells_are : (xs : List ℕ) (c : ℕ) (f : ℕ → ℕ) → ((k : ℕ) → k < length xs → slice_index xs k ≡ f (c + k)) → xs ≡ cells_from c (length xs) f
cells_are [] c f same = refl
cells_are (x ∷ xs) c f same =
    let zero_on : c + 0 ≡ c = omega arith in
    let first : x ≡ f c = same 0 (omega arith) ∙ ap f zero_on in
    let rest : xs ≡ cells_from (c + 1) (length xs) f = cells_are xs (c + 1) f (λ k h. let on : c + suc k ≡ c + 1 + k = omega arith in same (suc k) (omega (arith, h)) ∙ ap f on) in
    ap (λ y. y ∷ xs) first ∙ ap (λ ys. f c ∷ ys) rest

-- a row that is cut out of the pixels
pub seen_text : (pixels : List ℕ) (f : ℕ → ℕ → ℕ) (row n : ℕ) → n ≡ 80 → length pixels ≡ 2000 → ((r c : ℕ) → r < 25 → c < 80 → slice_index pixels (80 * r + c) ≡ f r c) → row < 25
    → trimmed (take n (drop (80 * row) pixels)) ≡ seen_row f row
unfolding seen_row
seen_text pixels f row n is count seen within = rw is (ap trimmed (cells_are line 0 (f row) same ∙ ap (λ k. cells_from 0 k (f row)) size))
  where
    line : List ℕ
    line = take 80 (drop (80 * row) pixels)

    size : length (take 80 (drop (80 * row) pixels)) ≡ 80
    size = length-take-le 80 (drop (80 * row) pixels) (simp length-drop (omega (arith, count, within)))

    same : (k : ℕ) → k < length (take 80 (drop (80 * row) pixels)) → slice_index (take 80 (drop (80 * row) pixels)) k ≡ f row (0 + k)
    same k h =
        let low : k < 80 = omega (arith, size, h) in
        let on : k ≡ 0 + k = omega arith in
        get_or-take 80 (drop (80 * row) pixels) k 0 low ∙ get_or-drop (80 * row) pixels k 0 ∙ seen row k within low ∙ ap (f row) on

-- rows with one more
pub rows-one : (r n : ℕ) (f : ℕ → List ℕ) → rows_from r (suc n) f ≡ rows_from r n f ++ RowIs (r + n) (f (r + n)) ∷ []
rows-one r zero f = let on : r ≡ r + 0 = omega arith in ap (λ k. RowIs k (f k) ∷ []) on
rows-one r (suc n) f =
    let rest = rows-one (r + 1) n f in
    let on : r + 1 + n ≡ r + suc n = omega arith in
    ap (λ items. RowIs r (f r) ∷ items) (rest ∙ ap (λ k. rows_from (r + 1) n f ++ RowIs k (f k) ∷ []) on)

pub rows-next : (n : ℕ) (f : ℕ → List ℕ) (text : List ℕ) → text ≡ f n → rows_from 0 n f ++ RowIs n text ∷ [] ≡ rows_from 0 (n + 1) f
rows-next n f text is =
    let on : n ≡ 0 + n = omega arith in
    let more : suc n ≡ n + 1 = omega arith in
    ap (λ (t : List ℕ). rows_from 0 n f ++ RowIs n t ∷ []) is ∙ ap (λ k. rows_from 0 n f ++ RowIs k (f k) ∷ []) on ∙ sym (rows-one 0 n f) ∙ ap (λ k. rows_from 0 k f) more

-- a front that ends in a space, and one that does not
pub front-space : (n : ℕ) (xs : List ℕ) → 0 < n → n ≤ length xs → slice_index xs (n - 1) ≡ 32 → trimmed (take n xs) ≡ trimmed (take (n - 1) xs)
front-space zero xs some within last = absurd (omega (arith, some))
front-space (suc n) xs some within last =
    let back : n ≡ suc n - 1 = omega arith in
    let at : slice_index xs n ≡ 32 = ap (slice_index xs) back ∙ last in
    let cut : take (suc n) xs ≡ take n xs ++ 32 ∷ [] = take-one n xs (omega (arith, within)) ∙ ap (λ (b : ℕ). take n xs ++ b ∷ []) at in
    ap trimmed cut ∙ trimmed-space (take n xs) ∙ ap (λ k. trimmed (take k xs)) back

pub front-other : (n : ℕ) (xs : List ℕ) → 0 < n → n ≤ length xs → slice_index xs (n - 1) ≢ 32 → trimmed (take n xs) ≡ take n xs
front-other zero xs some within last = absurd (omega (arith, some))
front-other (suc n) xs some within last =
    let cut = take-one n xs (omega (arith, within)) in
    let other : (slice_index xs n == 32) ≡ false = grind (arith, nat_tests, last) in
    ap trimmed cut ∙ trimmed-other (take n xs) (slice_index xs n) other ∙ sym cut
