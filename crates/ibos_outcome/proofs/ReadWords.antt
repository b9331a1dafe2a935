-- Words of a line that is cut, and the fields that are read of them as they were printed.
use Rattle.std.proofs.Common.{◌≡◌, ℕ, zero, suc, ◌+◌, ◌<◌, List, [], ◌∷◌, ◌++◌, Bool, true, false, not, length, take, drop, Option, Some, None, Result, Ok, Err, refl, sym, ◌∙◌, ap, subst, append_assoc, arith}
use Rattle.std.specs.Prelude.{◌^◌, ◌==◌, ◌&&◌, nat_le, nat_lt, bytes_eq, slice_index, codes, decimal, if◌then◌else◌}
use Rattle.std.specs.Int.{byte_at, bytes_high_first}
use Rattle.std.specs.List.{list_all}
use Rattle.std.proofs.Math.Seq.{take-append_seam, drop-append_seam}
use Rattle.std.proofs.lemmas.Bool.Decides.{nat_tests}
use Rattle.std.proofs.lemmas.Nat.{from_be_bytes-to_be_bytes_4}
use Rattle.std.proofs.lemmas.Slice.Eq.{bytes_eq-Decides}
use Rattle.std.proofs.lemmas.List.Folds.{list_all-append}
use Rattle.hex.specs.Hex.{IsBytes, encode_lower}
use Rattle.hex.specs.Hex.{decode_of}
use Rattle.hex.specs.declared.error.FromHexError.{FromHexError}
use Rattle.hex.proofs.HexLemmas.{decode_sized-encode_lower, decode_of-ok}
use Rattle.ibos_text.specs.Parts.{len_before}
use Rattle.ibos_fields.specs.Fields.{is_digit, number_in, hex_in, bytes_named}
use Rattle.ibos_fields.specs.Printable.{is_printable, is_graph, IsWord}
use Rattle.ibos_fields.proofs.Words.{all_weaker, len_before-front}
use Rattle.ibos_outcome.specs.Printed.{or_dash, value_text, addr_text}
use Rattle.ibos_outcome.specs.Canonical.{IsPrintable, IsCells, AreCookies, ends_in_space}
use Rattle.ibos_outcome.specs.Readings.{word_of, rest_of, after_first, printable_in, word_in, cookies_in, cells_in, byte_in, value_in, octets_in, addr_in}
use Rattle.ibos_outcome.proofs.FieldWords.{number_word, number_read, number_digits, encoded_word}

-- ---- words

abbrev pub Lacks : ℕ → List ℕ → Type 0
Lacks stop word = list_all (λ b. not (b == stop)) word ≡ true

pub word_of-front : (stop : ℕ) (word tail : List ℕ) → Lacks stop word → len_before stop tail ≡ 0 → word_of stop (word ++ tail) ≡ word
unfolding word_of
word_of-front stop word tail lacks none =
    ap (λ n. take n (word ++ tail)) (len_before-front stop word tail lacks none) ∙ take-append_seam word tail

pub rest_of-front : (stop : ℕ) (word tail : List ℕ) → Lacks stop word → len_before stop tail ≡ 0 → rest_of stop (word ++ tail) ≡ after_first tail
unfolding rest_of
rest_of-front stop word tail lacks none =
    ap (λ n. after_first (drop n (word ++ tail))) (len_before-front stop word tail lacks none) ∙ ap after_first (drop-append_seam word tail)

stops : (stop : ℕ) (tail : List ℕ) → len_before stop (stop ∷ tail) ≡ 0
stops stop tail = by_test (stop == stop) (grind (arith, nat_tests))
  where
    by_test : (t : Bool) → t ≡ true → (if not t then 1 + len_before stop tail else 0) ≡ 0
    by_test true h = refl
    by_test false h = cc

pub word_of-stop : (stop : ℕ) (word tail : List ℕ) → Lacks stop word → word_of stop (word ++ stop ∷ tail) ≡ word
word_of-stop stop word tail lacks = word_of-front stop word (stop ∷ tail) lacks (stops stop tail)

pub rest_of-stop : (stop : ℕ) (word tail : List ℕ) → Lacks stop word → rest_of stop (word ++ stop ∷ tail) ≡ tail
rest_of-stop stop word tail lacks = rest_of-front stop word (stop ∷ tail) lacks (stops stop tail)

-- two texts that are cut at one byte, and are the same
pub cut_same : (stop : ℕ) (word other tail rest : List ℕ) → Lacks stop word → Lacks stop other → word ++ stop ∷ tail ≡ other ++ stop ∷ rest → (word ≡ other) × (tail ≡ rest)
cut_same stop word other tail rest lacks too same = (
  sym (word_of-stop stop word tail lacks) ∙ ap (word_of stop) same ∙ word_of-stop stop other rest too,
  sym (rest_of-stop stop word tail lacks) ∙ ap (rest_of stop) same ∙ rest_of-stop stop other rest too,
)

graph_no_space : (b : ℕ) → is_graph b ≡ true → not (b == 32) ≡ true
graph_no_space b h = grind (arith, nat_tests, h)

pub word_lacks : (word : List ℕ) → IsWord word → Lacks 32 word
word_lacks word is = all_weaker is_graph (λ b. not (b == 32)) graph_no_space word is.graph

printable_no_end : (b : ℕ) → is_printable b ≡ true → not (b == 10) ≡ true
printable_no_end b h = grind (arith, nat_tests, h)

pub printable_lacks : (text : List ℕ) → IsPrintable text → Lacks 10 text
printable_lacks text printable = all_weaker is_printable (λ b. not (b == 10)) printable_no_end text printable

digit_no_dot : (b : ℕ) → is_digit b ≡ true → not (b == 46) ≡ true
digit_no_dot b h = grind (arith, nat_tests, h)

digit_no_space : (b : ℕ) → is_digit b ≡ true → not (b == 32) ≡ true
digit_no_space b h = grind (arith, nat_tests, h)

digit_printable : (b : ℕ) → is_digit b ≡ true → is_printable b ≡ true
digit_printable b h = grind (arith, nat_tests, h)

pub digits_lack : (digits : List ℕ) → list_all is_digit digits ≡ true → Lacks 32 digits
digits_lack digits are = all_weaker is_digit (λ b. not (b == 32)) digit_no_space digits are

pub digits_printable : (digits : List ℕ) → list_all is_digit digits ≡ true → IsPrintable digits
digits_printable digits are = all_weaker is_digit is_printable digit_printable digits are

-- ---- texts

pub printable_read : (text : List ℕ) → IsPrintable text → printable_in text ≡ Some text
unfolding printable_in
printable_read text is = rw is refl

word_when : (some graph : Bool) (word : List ℕ) → some ≡ true → graph ≡ true → (if some && graph then Some word else None) ≡ Some word
word_when some graph word is_some is_graph = rw (is_some, is_graph) refl

pub word_read : (word : List ℕ) → IsWord word → word_in word ≡ Some word
unfolding word_in
word_read word is = word_when (nat_lt 0 (length word)) (list_all is_graph word) word (grind (arith, nat_tests, is.some)) is.graph

-- another text than a dash is no dash
no_dash : (text : List ℕ) → (text ≡ codes "-" → ⊥) → bytes_eq text (codes "-") ≡ false
no_dash text other = by_test (bytes_eq text (codes "-")) refl
  where
    by_test : (t : Bool) → bytes_eq text (codes "-") ≡ t → t ≡ false
    by_test true is = absurd (other ((bytes_eq-Decides text (codes "-")).0 is))
    by_test false is = refl

pub cookies_printable : (text : List ℕ) → AreCookies text → IsPrintable (or_dash text)
unfolding or_dash
cookies_printable [] are = refl
cookies_printable (b ∷ text) are = are.printable

cookies_when : (dash : Bool) (text : List ℕ) → dash ≡ false → IsPrintable text → (if dash then Some [] else printable_in text) ≡ Some text
cookies_when dash text other is = rw other (printable_read text is)

pub cookies_read : (text : List ℕ) → AreCookies text → cookies_in (or_dash text) ≡ Some text
unfolding cookies_in or_dash
cookies_read [] are = refl
cookies_read (b ∷ text) are = cookies_when (bytes_eq (b ∷ text) (codes "-")) (b ∷ text) (no_dash (b ∷ text) are.no_dash) are.printable

cells_when : (short spaced : Bool) (text : List ℕ) → short ≡ true → spaced ≡ false → IsPrintable text → (if short && not spaced then printable_in text else None) ≡ Some text
cells_when short spaced text is_short is_trimmed is = rw (is_short, is_trimmed) (printable_read text is)

pub cells_read : (text : List ℕ) → IsCells text → cells_in (124 ∷ text) ≡ Some text
unfolding cells_in
cells_read text are = cells_when (nat_le (length text) 80) (ends_in_space text) text (grind (arith, nat_tests, are.short)) are.trimmed are.printable

-- ---- bytes and addresses

one_byte : (b : ℕ) → b < 256 → (i : ℕ) → slice_index (b ∷ []) i < 256
one_byte b small zero = small
one_byte b small (suc i) = omega arith

pub byte_word : (b : ℕ) → b < 256 → IsWord (encode_lower (b ∷ []))
byte_word b small = encoded_word b [] (one_byte b small)

pub byte_read : (b : ℕ) → b < 256 → byte_in (encode_lower (b ∷ [])) ≡ Some b
unfolding byte_in
byte_read b small = rw (decode_sized-encode_lower (b ∷ []) 1 refl (one_byte b small)) refl

four_bytes : (n i : ℕ) → slice_index (bytes_high_first 4 n) i < 256
four_bytes n zero = omega arith
four_bytes n (suc zero) = omega arith
four_bytes n (suc (suc zero)) = omega arith
four_bytes n (suc (suc (suc zero))) = omega arith
four_bytes n (suc (suc (suc (suc i)))) = omega arith

pub value_word : (value : ℕ) → IsWord (value_text value)
unfolding value_text
value_word value = encoded_word (byte_at 3 value) (byte_at 2 value ∷ byte_at 1 value ∷ byte_at 0 value ∷ []) (four_bytes value)

pub value_read : (value : ℕ) → value < 2 ^ 32 → value_in (value_text value) ≡ Some value
unfolding value_in value_text
value_read value small =
    rw (decode_sized-encode_lower (bytes_high_first 4 value) 4 refl (four_bytes value)) (ap Some (from_be_bytes-to_be_bytes_4 value small))

octet : (n : ℕ) → n < 256 → number_in 256 (decimal n) ≡ Some n
octet n small = number_read 256 n small (omega arith)

octet_lacks : (n : ℕ) → n < 256 → Lacks 46 (decimal n)
octet_lacks n small = all_weaker is_digit (λ b. not (b == 46)) digit_no_dot (decimal n) (number_digits n (omega (arith, small)))

addr_spelled : (addr : ℕ) → addr_text addr ≡ decimal (byte_at 3 addr) ++ 46 ∷ (decimal (byte_at 2 addr) ++ 46 ∷ (decimal (byte_at 1 addr) ++ 46 ∷ decimal (byte_at 0 addr)))
unfolding addr_text
addr_spelled addr = simp append_assoc

dot_word : (n : ℕ) (tail : List ℕ) → n < 256 → IsWord tail → IsWord (decimal n ++ 46 ∷ tail)
dot_word n tail small is = record {
  graph = list_all-append is_graph (decimal n) (46 ∷ tail) ∙ rw ((number_word n (omega (arith, small))).graph, is.graph) refl;
  some = longer (decimal n) (46 ∷ tail) (number_word n (omega (arith, small))).some;
}
  where
    longer : (xs ys : List ℕ) → 0 < length xs → 0 < length (xs ++ ys)
    longer [] ys some = absurd (omega (arith, some))
    longer (x ∷ xs) ys some = omega arith

pub addr_word : (addr : ℕ) → IsWord (addr_text addr)
addr_word addr =
    subst IsWord (sym (addr_spelled addr))
    (dot_word (byte_at 3 addr) _ (omega arith) (dot_word (byte_at 2 addr) _ (omega arith) (dot_word (byte_at 1 addr) _ (omega arith) (number_word (byte_at 0 addr) (omega arith)))))

four_read : (a b c d : ℕ) → a < 256 → b < 256 → c < 256 → d < 256 → addr_in (decimal a ++ 46 ∷ (decimal b ++ 46 ∷ (decimal c ++ 46 ∷ decimal d))) ≡ octets_in (decimal a) (decimal b) (decimal c) (decimal d)
unfolding addr_in
four_read a b c d is_a is_b is_c is_d =
    let third : List ℕ = decimal c ++ 46 ∷ decimal d in
    let second : List ℕ = decimal b ++ 46 ∷ third in
    let first : List ℕ = decimal a ++ 46 ∷ second in
    let r1 : rest_of 46 first ≡ second = rest_of-stop 46 (decimal a) second (octet_lacks a is_a) in
    let r2 : rest_of 46 second ≡ third = rest_of-stop 46 (decimal b) third (octet_lacks b is_b) in
    let r3 : rest_of 46 third ≡ decimal d = rest_of-stop 46 (decimal c) (decimal d) (octet_lacks c is_c) in
    let w1 : word_of 46 first ≡ decimal a = word_of-stop 46 (decimal a) second (octet_lacks a is_a) in
    let w2 : word_of 46 second ≡ decimal b = word_of-stop 46 (decimal b) third (octet_lacks b is_b) in
    let w3 : word_of 46 third ≡ decimal c = word_of-stop 46 (decimal c) (decimal d) (octet_lacks c is_c) in
    rw (r1, w1) (rw (r2, w2) (rw (r3, w3) refl))

pub addr_read : (addr : ℕ) → addr < 2 ^ 32 → addr_in (addr_text addr) ≡ Some addr
addr_read addr small =
    let a : ℕ = byte_at 3 addr in
    let b : ℕ = byte_at 2 addr in
    let c : ℕ = byte_at 1 addr in
    let d : ℕ = byte_at 0 addr in
    ap addr_in (addr_spelled addr) ∙ four_read a b c d (omega arith) (omega arith) (omega arith) (omega arith)
    ∙ rw (octet a (omega arith), octet b (omega arith), octet c (omega arith), octet d (omega arith)) (ap Some (from_be_bytes-to_be_bytes_4 addr small))

-- ---- bytes that were read

named_small : (decoded : Result (List ℕ) FromHexError) (word bytes : List ℕ) → decode_of word ≡ decoded → bytes_named decoded ≡ Some bytes → IsBytes bytes
named_small (Ok read) word bytes is same = λ i. subst (λ b. slice_index b i < 256) (ap (unwrap_or_none) same) ((decode_of-ok word read is).3 i)
  where
    unwrap_or_none : Option (List ℕ) → List ℕ
    unwrap_or_none (Some b) = b
    unwrap_or_none None = []
named_small (Err e) word bytes is same = cc

hex_small_by : (dash : Bool) (word bytes : List ℕ) → (if dash then Some [] else bytes_named (decode_of word)) ≡ Some bytes → IsBytes bytes
hex_small_by true word [] same = λ i. omega arith
hex_small_by true word (b ∷ bytes) same = cc
hex_small_by false word bytes same = named_small (decode_of word) word bytes refl same

pub hex_small : (word bytes : List ℕ) → hex_in word ≡ Some bytes → IsBytes bytes
unfolding hex_in
hex_small word bytes same = hex_small_by (bytes_eq word (codes "-")) word bytes same
