-- Numbers as big-endian bytes, there and back.
use Rattle.std.proofs.Common.{◌≡◌, ℕ, zero, suc, ◌+◌, ◌*◌, ◌/◌, ◌%◌, ◌^◌, ◌<◌, ◌≤◌, List, [], ◌∷◌, ◌++◌, length, take, drop, slice_index, refl, ap, sym, ◌∙◌, inl, inr, arith}
use Rattle.std.proofs.Math.Nat.{pow-succ', mod-eq_of_lt, mul_assoc, one-le-pow, div-one, mul-add-mod_self_right, mul-add-div_right}
use Rattle.std.proofs.lemmas.List.{get_or-drop, get_or-take, get_or_past, length-take, drop-drop, length-drop, drop_more}
use Rattle.std.proofs.lemmas.Nat.{div-mul-add}
use Rattle.std.proofs.lemmas.Bool.{cases_lt}
use Rattle.std.specs.Int.{byte_at, bytes_high_first}
use Rattle.byteorder.specs.Endian.{big_from}
use Rattle.byteorder.specs.Numbers.{big_from-cons, big_number-reads_back, big_from-lt}
use Rattle.ibos_kinds.specs.Frames.{IsBytes, number_from, number}

-- the same number as `byteorder` reads
number_from-big : (i n : ℕ) (xs : List ℕ) → number_from i n xs ≡ big_from i n xs
number_from-big i zero xs = refl
number_from-big i (suc n) xs = ap (λ r. slice_index xs i * 256 ^ n + r) (number_from-big (suc i) n xs)

pub number-big : (n : ℕ) (xs : List ℕ) → number n xs ≡ big_from 0 n xs
unfolding number
number-big n xs = number_from-big 0 n xs

-- a number that fits is read from its bytes
pub number-bytes : (n x : ℕ) (rest : List ℕ) → x < 256 ^ n → number n (bytes_high_first n x ++ rest) ≡ x
number-bytes n x rest fits = number-big n (bytes_high_first n x ++ rest) ∙ big_number-reads_back n x rest fits

pub number-lt : (n : ℕ) (xs : List ℕ) → IsBytes xs → number n xs < 256 ^ n
number-lt n xs bytes = let e = number-big n xs in let h = big_from-lt 0 n xs bytes in rw e h

number-cons : (n x : ℕ) (xs : List ℕ) → number (suc n) (x ∷ xs) ≡ x * 256 ^ n + number n xs
number-cons n x xs =
    number-big (suc n) (x ∷ xs) ∙ ap (λ r. x * 256 ^ n + r) (big_from-cons 0 n x xs ∙ sym (number-big n xs))

-- a byte of a number, by its place
byte_at-pow : (k x : ℕ) → byte_at k x ≡ x / 256 ^ k % 256
byte_at-pow zero x = ap (λ y. y % 256) (sym (div-one x))
byte_at-pow (suc k) x = refl

pow_positive : (n : ℕ) → zero < 256 ^ n
pow_positive n = let h = one-le-pow n 256 (omega arith) in omega arith

above : (n a y : ℕ) → a * 256 ^ suc n + y ≡ (a * 256) * 256 ^ n + y
above n a y = ap (λ m. m + y) (ap (λ m. a * m) (pow-succ' 256 n) ∙ sym (mul_assoc a 256 (256 ^ n)))

-- what lies above the n bytes is none of theirs
bytes_high_first-above : (n a y : ℕ) → bytes_high_first n (a * 256 ^ n + y) ≡ bytes_high_first n y
bytes_high_first-above zero a y = refl
bytes_high_first-above (suc n) a y =
    let tail : bytes_high_first n (a * 256 ^ suc n + y) ≡ bytes_high_first n y =
    ap (bytes_high_first n) (above n a y) ∙ bytes_high_first-above n (a * 256) y in
    let quotient : (a * 256 ^ suc n + y) / 256 ^ n ≡ a * 256 + y / 256 ^ n =
    ap (λ m. m / 256 ^ n) (above n a y) ∙ mul-add-div_right (pow_positive n) (a * 256) y in
    let head : byte_at n (a * 256 ^ suc n + y) ≡ byte_at n y =
    byte_at-pow n (a * 256 ^ suc n + y) ∙ ap (λ m. m % 256) quotient ∙ mul-add-mod_self_right a 256 (y / 256 ^ n) ∙ sym (byte_at-pow n y) in
    rw (head, tail) refl

-- bytes stand for their number
pub bytes-number : (n : ℕ) (xs : List ℕ) → IsBytes xs → n ≤ length xs → bytes_high_first n (number n xs) ++ drop n xs ≡ xs
bytes-number zero xs bytes h = refl
bytes-number (suc n) [] bytes h = absurd (omega arith)
bytes-number (suc n) (x ∷ xs) bytes h =
    let below : number n xs < 256 ^ n = number-lt n xs (λ i. bytes (suc i)) in
    let byte : x < 256 = bytes 0 in
    let split : number (suc n) (x ∷ xs) ≡ x * 256 ^ n + number n xs = number-cons n x xs in
    let head : byte_at n (number (suc n) (x ∷ xs)) ≡ x =
    byte_at-pow n (number (suc n) (x ∷ xs)) ∙ ap (λ m. m / 256 ^ n % 256) split ∙ ap (λ m. m % 256) (div-mul-add x (256 ^ n) (number n xs) below) ∙ mod-eq_of_lt byte in
    let tail : bytes_high_first n (number (suc n) (x ∷ xs)) ≡ bytes_high_first n (number n xs) =
    ap (bytes_high_first n) split ∙ bytes_high_first-above n x (number n xs) in
    rw (head, tail) (ap (λ t. x ∷ t) (bytes-number n xs (λ i. bytes (suc i)) (omega arith)))

-- bytes from a place on, and to a place
pub IsBytes-drop : (i : ℕ) (xs : List ℕ) → IsBytes xs → IsBytes (drop i xs)
IsBytes-drop i xs bytes = λ k. let e = get_or-drop i xs k 0 in let h = bytes (i + k) in rw e h

pub IsBytes-take : (i : ℕ) (xs : List ℕ) → IsBytes xs → IsBytes (take i xs)
IsBytes-take i xs bytes = λ k.
    elim (cases_lt k i) [
      | inl before ↦ let e = get_or-take i xs k 0 before in let h = bytes k in rw e h
      | inr past ↦ let e = get_or_past (take i xs) k 0 (omega (arith, length-take i xs)) in rw e (omega arith)
    ]

-- from a place on, some bytes stand for their number
pub drop-number : (i n : ℕ) (xs : List ℕ) → IsBytes xs → i + n ≤ length xs → drop i xs ≡ bytes_high_first n (number n (drop i xs)) ++ drop (i + n) xs
drop-number i n xs bytes h =
    let there = bytes-number n (drop i xs) (IsBytes-drop i xs bytes) (omega (arith, length-drop i xs)) in
    sym there ∙ ap (λ t. bytes_high_first n (number n (drop i xs)) ++ t) (drop-drop n i xs)

-- the same of one byte
pub drop-byte : (i : ℕ) (xs : List ℕ) → i < length xs → drop i xs ≡ slice_index xs i ∷ drop (i + 1) xs
drop-byte i xs h = drop_more xs i 0 h
