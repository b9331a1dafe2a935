-- Sums of words, piece by piece.
use Rattle.std.proofs.Common.{◌≡◌, ℕ, zero, suc, ◌+◌, ◌-◌, ◌*◌, ◌/◌, ◌%◌, ◌<◌, ◌≤◌, eqb, false, List, [], ◌∷◌, ◌++◌, length, take, drop, get_or, refl, ap, sym, ◌∙◌, arith}
use Rattle.std.proofs.Math.Nat.{mod-add-mod, mod-lt}
use Rattle.std.proofs.lemmas.List.{drop_more, drop_all, take-append-drop, length-take-le}
use Rattle.std.proofs.lemmas.Bool.Decides.{nat_tests}
use Rattle.ibos_kinds.specs.Sums.{plain_sum, carried, sum_words}

-- the words of what follows an even number of bytes
pub plain_sum-append : (xs ys : List ℕ) (k : ℕ) → length xs ≡ 2 * k → plain_sum (xs ++ ys) ≡ plain_sum xs + plain_sum ys
plain_sum-append [] ys k h = omega arith
plain_sum-append (x ∷ []) ys k h = absurd (omega arith)
plain_sum-append (x ∷ y ∷ xs) ys zero h = absurd (omega arith)
plain_sum-append (x ∷ y ∷ xs) ys (suc k) h = omega (arith, plain_sum-append xs ys k (omega arith))

pub plain_sum-split : (xs : List ℕ) (k : ℕ) → 2 * k ≤ length xs → plain_sum xs ≡ plain_sum (take (2 * k) xs) + plain_sum (drop (2 * k) xs)
plain_sum-split xs k h =
    ap plain_sum (sym (take-append-drop (2 * k) xs))
    ∙ plain_sum-append (take (2 * k) xs) (drop (2 * k) xs) k (length-take-le (2 * k) xs h)

-- a sum that is not 0, carried
carried-suc : (n : ℕ) → carried (suc n) ≡ 1 + n % 65535
carried-suc n =
    let less : suc n - 1 ≡ n = omega arith in
    let more : eqb (suc n) 0 ≡ false = grind (arith, nat_tests) in
    rw more (ap (λ k. 1 + k % 65535) less)

-- carries may be added in early
pub carried-add : (a b : ℕ) → carried (carried a + b) ≡ carried (a + b)
carried-add zero b = refl
carried-add (suc a) b =
    let early : carried (suc a) + b ≡ suc (a % 65535 + b) = omega (arith, carried-suc a) in
    let late : suc a + b ≡ suc (a + b) = omega arith in
    ap carried early ∙ carried-suc (a % 65535 + b)
    ∙ ap (λ n. 1 + n) (mod-add-mod a 65535 b)
    ∙ sym (carried-suc (a + b)) ∙ sym (ap carried late)

-- no carry is left
pub carried-le : (n : ℕ) → carried n ≤ 65535
carried-le zero = omega arith
carried-le (suc n) = omega (arith, carried-suc n, mod-lt n {m = 65535} (omega arith))

-- the sum of what follows an even number of bytes, on top of the sum of those
pub sum_words-append : (first : ℕ) (front bytes : List ℕ) → length front % 2 ≡ 0 → sum_words (sum_words first front) bytes ≡ sum_words first (front ++ bytes)
unfolding sum_words
sum_words-append first front bytes even =
    let halves : length front ≡ 2 * (length front / 2) = omega arith in
    let regroup : first + plain_sum front + plain_sum bytes ≡ first + plain_sum (front ++ bytes) =
    omega (arith, plain_sum-append front bytes (length front / 2) halves) in
    carried-add (first + plain_sum front) (plain_sum bytes) ∙ ap carried regroup
