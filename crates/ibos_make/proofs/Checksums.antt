-- A checksum in its place makes the sum over it right.
use Rattle.std.proofs.Common.{◌≡◌, ℕ, zero, suc, ◌+◌, ◌-◌, ◌*◌, ◌/◌, ◌%◌, ◌^◌, ◌<◌, ◌⊎◌, ◌==◌, Bool, true, if◌then◌else◌, eqb, false, List, [], ◌∷◌, ◌++◌, length, refl, ap, sym, ◌∙◌, inl, inr, arith}
use Rattle.std.proofs.Math.Nat.{add-mod_right}
use Rattle.std.proofs.lemmas.Bool.Decides.{nat_tests}
use Rattle.std.specs.Int.{bytes_high_first}
use Rattle.ibos_kinds.specs.Sums.{plain_sum, carried, sum_words, sum16}

plain_sum-append : (xs ys : List ℕ) (k : ℕ) → length xs ≡ 2 * k → plain_sum (xs ++ ys) ≡ plain_sum xs + plain_sum ys
plain_sum-append [] ys k h = omega arith
plain_sum-append (x ∷ []) ys k h = absurd (omega arith)
plain_sum-append (x ∷ y ∷ xs) ys zero h = absurd (omega arith)
plain_sum-append (x ∷ y ∷ xs) ys (suc k) h = omega (arith, plain_sum-append xs ys k (omega arith))

carried-suc : (n : ℕ) → carried (suc n) ≡ 1 + n % 65535
carried-suc n =
    let less : suc n - 1 ≡ n = omega arith in
    let more : eqb (suc n) 0 ≡ false = grind (arith, nat_tests) in
    rw more (ap (λ k. 1 + k % 65535) less)

-- a sum and its complement are all ones
carried-complement : (n c : ℕ) → c ≡ 65534 - n % 65535 → carried (suc n + c) ≡ 65535
carried-complement n c h =
    let whole : suc n + c ≡ suc (65534 + n / 65535 * 65535) = omega (arith, h) in
    ap carried whole ∙ carried-suc (65534 + n / 65535 * 65535) ∙ omega arith

-- what may stand for a checksum: the complement, or all ones where the complement is 0
abbrev pub Stands : ℕ → ℕ → Type 0
Stands total c = (c ≡ 65535 - carried total) ⊎ ((65535 - carried total ≡ 0) × (c ≡ 65535))

carried-stands : (total c : ℕ) → 0 < total → Stands total c → carried (total + c) ≡ 65535
carried-stands zero c h is = absurd (omega arith)
carried-stands (suc n) c h (inl is) = carried-complement n c (omega (arith, is, carried-suc n))
carried-stands (suc n) c h (inr is) =
    let sum : suc n + c ≡ suc (n + 65535) = omega (arith, is.1) in
    let last : n % 65535 ≡ 65534 = omega (arith, is.0, carried-suc n) in
    ap carried sum ∙ carried-suc (n + 65535) ∙ omega (arith, add-mod_right n 65535, last)

sum16-carried : (bytes : List ℕ) → sum16 bytes ≡ 65535 - carried (plain_sum bytes)
unfolding sum_words sum16
sum16-carried bytes = let none : 0 + plain_sum bytes ≡ plain_sum bytes = omega arith in ap (λ n. 65535 - carried n) none

-- the checksum of bytes that have 0 in its place, or all ones for 0
abbrev pub IsChecksum : List ℕ → ℕ → Type 0
IsChecksum bytes c = (c ≡ sum16 bytes) ⊎ ((sum16 bytes ≡ 0) × (c ≡ 65535))

pub sum16-right : (front rest : List ℕ) (k c : ℕ) → length front ≡ 2 * k → c < 2 ^ 16 → 0 < plain_sum (front ++ (0 ∷ 0 ∷ rest))
    → IsChecksum (front ++ (0 ∷ 0 ∷ rest)) c → sum16 (front ++ (bytes_high_first 2 c ++ rest)) ≡ 0
sum16-right front rest k c even fits some is =
    let blank : List ℕ = front ++ (0 ∷ 0 ∷ rest) in
    let summed : plain_sum (front ++ (bytes_high_first 2 c ++ rest)) ≡ plain_sum blank + c =
    omega (arith, plain_sum-append front (bytes_high_first 2 c ++ rest) k even, plain_sum-append front (0 ∷ 0 ∷ rest) k even) in
    let stands : Stands (plain_sum blank) c = elim is [
      | inl same ↦ inl (same ∙ sum16-carried blank)
      | inr ones ↦ inr (sym (sum16-carried blank) ∙ ones.0, ones.1)
    ] in
    sum16-carried (front ++ (bytes_high_first 2 c ++ rest))
    ∙ ap (λ n. 65535 - carried n) summed
    ∙ ap (λ n. 65535 - n) (carried-stands (plain_sum blank) c some stands)

pub sum16-fits : (bytes : List ℕ) → sum16 bytes < 2 ^ 16
sum16-fits bytes = omega (arith, sum16-carried bytes)

chosen : (b : Bool) (n : ℕ) → (b ≡ true → n ≡ 0) → ((if b then 0xFFFF else n) ≡ n) ⊎ ((n ≡ 0) × ((if b then 0xFFFF else n) ≡ 65535))
chosen true n h = inr (h refl, refl)
chosen false n h = inl refl

-- what UDP writes for a checksum
pub written-is : (bytes : List ℕ) → IsChecksum bytes (if sum16 bytes == 0 then 0xFFFF else sum16 bytes)
written-is bytes = chosen (sum16 bytes == 0) (sum16 bytes) (λ h. grind (arith, nat_tests))

pub written-fits : (bytes : List ℕ) → (if sum16 bytes == 0 then 0xFFFF else sum16 bytes) < 2 ^ 16
written-fits bytes = elim (written-is bytes) [ inl same ↦ omega (arith, same, sum16-fits bytes) | inr ones ↦ omega (arith, ones.1) ]
