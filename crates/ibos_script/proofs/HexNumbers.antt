-- A register's number, read back from its eight digits.
use Rattle.std.proofs.Common.{◌≡◌, ℕ, zero, suc, ◌+◌, ◌*◌, ◌/◌, ◌%◌, ◌<◌, List, [], ◌∷◌, Bool, true, fold, length, slice_index, inl, inr, Some, None, refl, ◌∙◌, ap, arith}
use Rattle.std.specs.Prelude.{◌^◌, ◌&&◌, ◌==◌, nat_le, nat_lt, if◌then◌else◌}
use Rattle.std.specs.Char.{digit_value, is_digit}
use Rattle.std.specs.Int.{bytes_high_first}
use Rattle.std.specs.List.{list_all}
use Rattle.std.specs.Str.Parse.{digits_value, digits_value_after}
use Rattle.std.proofs.lemmas.Bool.{and_parts, cases_lt, eqb-true}
use Rattle.std.proofs.lemmas.Bool.Decides.{nat_tests}
use Rattle.hex.specs.Hex.{encode_lower, encode_with, lower_digits}
use Rattle.hex.proofs.HexLemmas.{length-encode_with}
use Rattle.ibos_fields.specs.Fields.{hex_digits_in, hex_number_in}
use Rattle.ibos_outcome.specs.Printed.{value_text}
use Rattle.ibos_fields.specs.Printable.{is_graph, IsWord}
use Rattle.ibos_script.specs.Spelled.{hex_number_text}

-- ---- one digit

-- the tests of one place of the table, which compute
abbrev is_at : ℕ → Bool
is_at d = digit_value (slice_index lower_digits d) == d && is_graph (slice_index lower_digits d)

abbrev are_at : ℕ → Bool
are_at zero = true
are_at (suc n) = is_at n && are_at n

at_place : (n k : ℕ) → are_at n ≡ true → k < n → is_at k ≡ true
at_place zero k h below = absurd (omega (arith, below))
at_place (suc n) k h below =
    let parts = and_parts (is_at n) (are_at n) h in
    elim (cases_lt k n) [
      | inl lower ↦ at_place n k parts.1 lower
      | inr top ↦
          let same : k ≡ n = omega (arith, below, top) in
          rw same parts.0
    ]

record IsHexDigit (d : ℕ) : Type 0 where
  value : digit_value (slice_index lower_digits d) ≡ d
  graph : is_graph (slice_index lower_digits d) ≡ true

hex_digit : (d : ℕ) → d < 16 → IsHexDigit d
hex_digit d below =
    let parts = and_parts (digit_value (slice_index lower_digits d) == d) (is_graph (slice_index lower_digits d)) (at_place 16 d refl below) in
    record { value = eqb-true (digit_value (slice_index lower_digits d)) d parts.0; graph = parts.1 }

-- ---- digits of bytes

-- the digits of a byte, behind those of n
byte_digits : (n b : ℕ) (ds : List ℕ) → b < 256
    → digits_value_after 16 n (slice_index lower_digits (b / 16) ∷ slice_index lower_digits (b % 16) ∷ ds) ≡ digits_value_after 16 (n * 256 + b) ds
byte_digits n b ds small =
    let high = (hex_digit (b / 16) (omega (arith, small))).value in
    let low = (hex_digit (b % 16) (omega arith)).value in
    let same : (n * 16 + b / 16) * 16 + b % 16 ≡ n * 256 + b = omega arith in
    rw (high, low) (ap (λ m. digits_value_after 16 m ds) same)

-- the digits of bytes have their number
bytes_value : (n : ℕ) (bytes : List ℕ) → list_all (λ b. nat_lt b 256) bytes ≡ true
    → digits_value_after 16 n (encode_lower bytes) ≡ fold (λ m b. m * 256 + b) n bytes
unfolding encode_with
bytes_value n [] small = refl
bytes_value n (b ∷ bytes) small =
    let parts = and_parts (nat_lt b 256) (list_all (λ c. nat_lt c 256) bytes) small in
    byte_digits n b (encode_lower bytes) (grind (arith, nat_tests, parts.0)) ∙ bytes_value (n * 256 + b) bytes parts.1

abbrev IsHexText : List ℕ → Type 0
IsHexText ds = (list_all (λ c. is_digit c 16) ds ≡ true) × (list_all is_graph ds ≡ true)

bytes_text : (bytes : List ℕ) → list_all (λ b. nat_lt b 256) bytes ≡ true → IsHexText (encode_lower bytes)
unfolding encode_with
bytes_text [] small = (refl, refl)
bytes_text (b ∷ bytes) small =
    let parts = and_parts (nat_lt b 256) (list_all (λ c. nat_lt c 256) bytes) small in
    let below : b < 256 = grind (arith, nat_tests, parts.0) in
    let high = hex_digit (b / 16) (omega (arith, below)) in
    let low = hex_digit (b % 16) (omega arith) in
    let more = bytes_text bytes parts.1 in
    let is_high : is_digit (slice_index lower_digits (b / 16)) 16 ≡ true = grind (arith, nat_tests, high.value, below) in
    let is_low : is_digit (slice_index lower_digits (b % 16)) 16 ≡ true = grind (arith, nat_tests, low.value) in
    (rw (is_high, is_low) more.0, rw (high.graph, low.graph) more.1)

-- ---- numbers

four_small : (n : ℕ) → list_all (λ b. nat_lt b 256) (bytes_high_first 4 n) ≡ true
four_small n =
    let a : nat_lt (n / 256 ^ 3 % 256) 256 ≡ true = grind (arith, nat_tests) in
    let b : nat_lt (n / 256 ^ 2 % 256) 256 ≡ true = grind (arith, nat_tests) in
    let c : nat_lt (n / 256 ^ 1 % 256) 256 ≡ true = grind (arith, nat_tests) in
    let d : nat_lt (n % 256) 256 ≡ true = grind (arith, nat_tests) in
    rw (a, b, c, d) refl

four_value : (n : ℕ) → n < 2 ^ 32 → fold (λ m b. m * 256 + b) 0 (bytes_high_first 4 n) ≡ n
four_value n small = omega (arith, small)

when_hex : (some few digits : Bool) (n : ℕ) → some ≡ true → few ≡ true → digits ≡ true → (if some && few && digits then Some n else None) ≡ Some n
when_hex some few digits n is_some is_few are_digits = rw (is_some, is_few, are_digits) refl

digits_read : (n : ℕ) → n < 2 ^ 32 → hex_digits_in (value_text n) ≡ Some n
unfolding hex_digits_in value_text
digits_read n small =
    let ds = encode_lower (bytes_high_first 4 n) in
    let len : length ds ≡ 8 = length-encode_with lower_digits (bytes_high_first 4 n) in
    when_hex (nat_lt 0 (length ds)) (nat_le (length ds) 8) (list_all (λ c. is_digit c 16) ds) (digits_value 16 ds)
    (rw len refl) (rw len refl) (bytes_text (bytes_high_first 4 n) (four_small n)).0
    ∙ ap Some (bytes_value 0 (bytes_high_first 4 n) (four_small n) ∙ four_value n small)

pub hex_number_read : (n : ℕ) → n < 2 ^ 32 → hex_number_in (hex_number_text n) ≡ Some n
unfolding hex_number_in hex_number_text
hex_number_read n small = digits_read n small

pub hex_number_word : (n : ℕ) → IsWord (hex_number_text n)
unfolding hex_number_text value_text
hex_number_word n = record {
  graph = (bytes_text (bytes_high_first 4 n) (four_small n)).1;
  some = omega arith;
}
