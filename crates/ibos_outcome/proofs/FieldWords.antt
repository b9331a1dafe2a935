-- The words of fields, and what is read of them.
use Rattle.std.proofs.Common.{◌≡◌, ℕ, ◌+◌, ◌*◌, ◌-◌, ◌<◌, ◌≤◌, List, [], ◌∷◌, ◌++◌, Bool, true, false, not, length, take, drop, fold, Some, None, refl, sym, ◌∙◌, ap, subst, append_assoc, arith}
use Rattle.std.specs.Prelude.{◌^◌, ◌==◌, ◌&&◌, nat_le, nat_lt, bytes_eq, codes, decimal, if◌then◌else◌}
use Rattle.std.specs.Int.{IsInRange}
use Rattle.std.specs.List.{list_all}
use Rattle.std.proofs.Math.Seq.{take-append_seam, drop-append_seam}
use Rattle.std.proofs.lemmas.Bool.Decides.{nat_tests}
use Rattle.std.proofs.lemmas.Fmt.{digits_decimal, digits_value-decimal, decimal_is_IsNumeral, length-decimal-le}
use Rattle.std.proofs.lemmas.Str.Parse.{IsDigitsTest, FoldsDigits, IsNumeralModel, numerals_by_fold}
use Rattle.std.proofs.lemmas.List.Sums.{list_all-from_AllPass}
use Rattle.std.proofs.lemmas.List.Folds.{list_all-append}
use Rattle.hex.specs.Hex.{IsBytes, encode_lower, encode_with, is_hex_digit}
use Rattle.hex.proofs.HexLemmas.{decode_of-encode_lower, decode_of-ok}
use Rattle.ibos_kinds.specs.declared.names.Instance.{Instance}
use Rattle.ibos_kinds.specs.Limits.{IsNamed}
use Rattle.ibos_text.specs.Parts.{len_before}
use Rattle.ibos_fields.specs.Fields.{is_digit, value_of, number_in, instance_parted, instance_in, hex_in}
use Rattle.ibos_outcome.specs.Printed.{instance_text, or_dash, hex_text}
use Rattle.ibos_fields.specs.Printable.{is_graph, IsWord}
use Rattle.ibos_fields.proofs.Words.{all_weaker, len_before-front}

-- ---- numbers

abbrev pub AreDigits : List ℕ → Type 0
AreDigits ds = list_all is_digit ds ≡ true

both_of : (first rest : Bool) → (first && rest) ≡ true → (first ≡ true) × (rest ≡ true)
both_of true rest h = (refl, h)
both_of false rest h = cc

digit_range : (b : ℕ) → is_digit b ≡ true → IsInRange 48 57 b
digit_range b h = (grind (arith, nat_tests, h), grind (arith, nat_tests, h))

range_digit : (b : ℕ) → IsInRange 48 57 b → is_digit b ≡ true
range_digit b range = grind (arith, nat_tests, range)

tells : IsDigitsTest AreDigits
tells = record {
  empty = refl;
  parts = λ c cs all. (digit_range c (both_of (is_digit c) (list_all is_digit cs) all).0, (both_of (is_digit c) (list_all is_digit cs) all).1);
  more = λ c cs range all. rw (range_digit c range) all;
}

folds : FoldsDigits (λ n ds. fold (λ n b. 10 * n + (b - 48)) n ds)
folds = record {
  empty = λ n. refl;
  more = λ n c cs range. let same : 10 * n + (c - 48) ≡ n * 10 + (c - 48) = omega arith in ap (λ m. fold (λ k b. 10 * k + (b - 48)) m cs) same;
}

own : IsNumeralModel AreDigits value_of
own = numerals_by_fold AreDigits tells (λ n ds. fold (λ n b. 10 * n + (b - 48)) n ds) folds

pub number_digits : (n : ℕ) → n < 2 ^ 64 → AreDigits (decimal n)
number_digits n small = digits_decimal own n small

digit_graph : (b : ℕ) → is_digit b ≡ true → is_graph b ≡ true
digit_graph b h = grind (arith, nat_tests, h)

pub number_word : (n : ℕ) → n < 2 ^ 32 → IsWord (decimal n)
number_word n small = record {
  graph = all_weaker is_digit is_graph digit_graph (decimal n) (digits_decimal own n (omega (arith, small)));
  some = (decimal_is_IsNumeral n (omega (arith, small))).0.0;
}

number_when : (few some digits below : Bool) (n : ℕ) → some ≡ true → few ≡ true → digits ≡ true → below ≡ true → (if some && few && digits && below then Some n else None) ≡ Some n
number_when few some digits below n is_some is_few are_digits is_below = rw (is_some, is_few, are_digits, is_below) refl

pub number_read : (bound n : ℕ) → n < bound → bound ≤ 2 ^ 32 → number_in bound (decimal n) ≡ Some n
unfolding number_in
number_read bound n below most =
    let small : n < 2 ^ 32 = omega (arith, below, most) in
    let long = length-decimal-le 10 n (omega arith) (omega (arith, small)) (omega (arith, small)) in
    let value : value_of (decimal n) ≡ n = digits_value-decimal own n (omega (arith, small)) in
    number_when (nat_le (length (decimal n)) 10) (nat_lt 0 (length (decimal n))) (list_all is_digit (decimal n)) (nat_lt (value_of (decimal n)) bound) (value_of (decimal n))
    (grind (arith, nat_tests, (number_word n small).some)) (grind (arith, nat_tests, long)) (digits_decimal own n (omega (arith, small))) (grind (arith, nat_tests, value, below))
    ∙ ap Some value

-- ---- instances

no_dot : (b : ℕ) → is_digit b ≡ true → not (b == 46) ≡ true
no_dot b h = grind (arith, nat_tests, h)

spelled_instance : (who : Instance) → instance_text who ≡ decimal who.tab ++ 46 ∷ decimal who.ord
unfolding instance_text
spelled_instance who = append_assoc (decimal who.tab) (codes ".") (decimal who.ord)

longer : (xs ys : List ℕ) → 0 < length xs → 0 < length (xs ++ ys)
longer [] ys some = absurd (omega (arith, some))
longer (x ∷ xs) ys some = omega arith

pub instance_word : (who : Instance) → IsNamed who → IsWord (instance_text who)
instance_word who named =
    let tab = number_word who.tab (omega (arith, named.0)) in
    let ord = number_word who.ord (omega (arith, named.1)) in
    let word : IsWord (decimal who.tab ++ 46 ∷ decimal who.ord) = record {
      graph = list_all-append is_graph (decimal who.tab) (46 ∷ decimal who.ord) ∙ rw (tab.graph, ord.graph) refl;
      some = longer (decimal who.tab) (46 ∷ decimal who.ord) tab.some;
    } in
    subst IsWord (sym (spelled_instance who)) word

parted : (tab ord : List ℕ) → list_all (λ b. not (b == 46)) tab ≡ true → instance_in (tab ++ 46 ∷ ord) ≡ instance_parted tab (46 ∷ ord)
unfolding instance_in
parted tab ord all =
    let tail : List ℕ = 46 ∷ ord in
    let len : len_before 46 (tab ++ tail) ≡ length tab = len_before-front 46 tab tail all refl in
    ap (λ n. instance_parted (take n (tab ++ tail)) (drop n (tab ++ tail))) len
    ∙ ap (λ t. instance_parted t (drop (length tab) (tab ++ tail))) (take-append_seam tab tail)
    ∙ ap (λ t. instance_parted tab t) (drop-append_seam tab tail)

pub instance_read : (who : Instance) → IsNamed who → instance_in (instance_text who) ≡ Some who
instance_read who named =
    ap instance_in (spelled_instance who)
    ∙ parted (decimal who.tab) (decimal who.ord) (all_weaker is_digit (λ b. not (b == 46)) no_dot (decimal who.tab) (digits_decimal own who.tab (omega (arith, named.0))))
    ∙ rw (number_read 64 who.tab named.0 (omega arith), number_read 32 who.ord named.1 (omega arith)) refl

-- ---- bytes

hex_graph : (b : ℕ) → is_hex_digit b ≡ true → is_graph b ≡ true
hex_graph b h = grind (arith, nat_tests, h)

pub encoded_word : (b : ℕ) (bytes : List ℕ) → IsBytes (b ∷ bytes) → IsWord (encode_lower (b ∷ bytes))
encoded_word b bytes small =
    let ok = decode_of-ok (encode_lower (b ∷ bytes)) (b ∷ bytes) (decode_of-encode_lower (b ∷ bytes) small) in
    record {
      graph = all_weaker is_hex_digit is_graph hex_graph (encode_lower (b ∷ bytes)) (list_all-from_AllPass is_hex_digit (encode_lower (b ∷ bytes)) ok.1);
      some = omega (arith, ok.2);
    }

-- a text of another length is another
pub other_length : (text word : List ℕ) → (length text ≡ length word → ⊥) → bytes_eq word text ≡ false
other_length [] [] other = absurd (other refl)
other_length [] (b ∷ word) other = refl
other_length (b ∷ text) [] other = refl
other_length (b ∷ text) (c ∷ word) other = by_first (c == b) (other_length text word (λ same. other (omega (arith, same))))
  where
    by_first : (t : Bool) → bytes_eq word text ≡ false → (t && bytes_eq word text) ≡ false
    by_first true h = h
    by_first false h = refl

pub hex_word : (bytes : List ℕ) → IsBytes bytes → IsWord (hex_text bytes)
unfolding hex_text or_dash encode_with
hex_word [] small = record { graph = refl; some = omega arith }
hex_word (b ∷ bytes) small = encoded_word b bytes small

pub hex_read : (bytes : List ℕ) → IsBytes bytes → hex_in (hex_text bytes) ≡ Some bytes
unfolding hex_in hex_text or_dash encode_with
hex_read [] small = refl
hex_read (b ∷ bytes) small =
    let ok = decode_of-ok (encode_lower (b ∷ bytes)) (b ∷ bytes) (decode_of-encode_lower (b ∷ bytes) small) in
    rw (other_length (codes "-") (encode_lower (b ∷ bytes)) (λ same. omega (arith, same, ok.2)), decode_of-encode_lower (b ∷ bytes) small) refl
