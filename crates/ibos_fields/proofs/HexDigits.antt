-- Bytes that are decoded one by one, whether or not all that was read is digits.
use Rattle.std.proofs.Common.{◌≡◌, ℕ, ◌+◌, ◌-◌, ◌*◌, ◌%◌, ◌<◌, ◌≤◌, ◌⊎◌, inl, inr, List, [], ◌∷◌, ◌++◌, Bool, true, false, cond, length, take, drop, slice_index, slice_set, Option, Some, None, unwrap_or, option_map, nat_lt, map, zero, suc, ◌&&◌, Result, Ok, Err, refl, sym, ◌∙◌, ap, ap₂, append_assoc, arith}
use Rattle.std.specs.Int.Bits.{bit_or}
use Rattle.std.proofs.lemmas.Bool.Decides.{nat_tests}
use Rattle.std.proofs.lemmas.Bool.{cases_lt}
use Rattle.std.proofs.lemmas.Nat.{or_lt, le_or_l, le_or_r}
use Rattle.std.proofs.lemmas.List.{append-nil, drop_all, drop-drop, length-append, length-drop, length-take, map-append, take_all, take_more_set, take-append-drop}
use Rattle.std.specs.List.{list_all}
use Rattle.std.proofs.Math.Seq.{take-add}
use Rattle.std.proofs.lemmas.List.Folds.{list_all-append}
use lib.Lanes.{chunk}
use Rattle.hex.specs.Hex.{decode_pairs, digit_or_error, hex_digit_value, pair_value, value_at}
use Rattle.hex.specs.declared.error.FromHexError.{FromHexError}
use Rattle.hex.specs.declared.error.FromHexError.TheVariants.{InvalidHexCharacter}
use Rattle.hex.proofs.Pairs.{cons_byte, decode_pairs-ok_pair, decode_pairs-err_pair, drop-pair}
use Rattle.ibos_fields.specs.Fields.{bytes_named}

-- a digit's value, and 255 for a byte that is none
abbrev pub code : ℕ → ℕ
code byte = unwrap_or (hex_digit_value byte) 255

-- the bytes before those of a rest, if all codes up to there are of digits
abbrev pub joined : ℕ → List ℕ → Option (List ℕ) → Option (List ℕ)
joined codes front rest = cond (nat_lt codes 16) (option_map (λ bytes. front ++ bytes) rest) None

-- the byte of two digits, which wraps around where one is none
abbrev pub byte_of : ℕ → ℕ → ℕ
byte_of high low = (code high * 16 % 256 + code low) % 256

small_or_none : (c : ℕ) → (code c < 16) ⊎ (hex_digit_value c ≡ None)
small_or_none c =
    elim (cases_lt c 48) [
      | inl a ↦ inr (grind (arith, nat_tests, a))
      | inr a ↦ elim (cases_lt c 58) [
        | inl b ↦ inl (grind (arith, nat_tests, a, b))
        | inr b ↦ elim (cases_lt c 65) [
          | inl d ↦ inr (grind (arith, nat_tests, b, d))
          | inr d ↦ elim (cases_lt c 71) [
            | inl e ↦ inl (grind (arith, nat_tests, d, e))
            | inr e ↦ elim (cases_lt c 97) [
              | inl f ↦ inr (grind (arith, nat_tests, e, f))
              | inr f ↦ elim (cases_lt c 103) [
                | inl g ↦ inl (grind (arith, nat_tests, f, g))
                | inr g ↦ inr (grind (arith, nat_tests, g))
              ]
            ]
          ]
        ]
      ]
    ]

value-some : (c i : ℕ) (o : Option ℕ) → unwrap_or o 255 < 16 → digit_or_error c i o ≡ Ok (unwrap_or o 255)
value-some c i (Some v) small = refl
value-some c i None small = absurd (omega (arith, small))

value-none : (c i : ℕ) → hex_digit_value c ≡ None → (error : FromHexError) × (value_at c i ≡ Err error)
value-none c i none = (InvalidHexCharacter c i, ap (digit_or_error c i) none)

code-none : (c : ℕ) → hex_digit_value c ≡ None → code c ≡ 255
code-none c none = ap (λ (o : Option ℕ). unwrap_or o 255) none

pair-digits : (a b i : ℕ) → code a < 16 → code b < 16 → pair_value a b i ≡ Ok (byte_of a b)
pair-digits a b i first second =
    let byte : code a * 16 + code b ≡ byte_of a b = omega (arith, first, second) in
    rw (value-some a i (hex_digit_value a) first, value-some b (i + 1) (hex_digit_value b) second) (ap Ok byte)

-- a byte moves to the front
cons-named : (v : ℕ) (r : Result (List ℕ) FromHexError) → bytes_named (cons_byte v r) ≡ option_map (λ bytes. v ∷ bytes) (bytes_named r)
cons-named v (Ok bytes) = refl
cons-named v (Err error) = refl

moved : (t : Bool) (front : List ℕ) (v : ℕ) (o : Option (List ℕ)) → cond t (option_map (λ bytes. front ++ bytes) (option_map (λ bytes. v ∷ bytes) o)) None ≡ cond t (option_map (λ bytes. (front ++ v ∷ []) ++ bytes) o) None
moved true front v (Some bytes) = ap Some (sym (append_assoc front (v ∷ []) bytes))
moved true front v None = refl
moved false front v o = refl

same_branches : (t : Bool) (none : Option (List ℕ)) → cond t none none ≡ none
same_branches true none = refl
same_branches false none = refl

none_joined : (codes : ℕ) (front : List ℕ) → joined codes front None ≡ None
none_joined codes front = same_branches (nat_lt codes 16) None

-- nothing is decoded where a code is that of no digit
large_joined : (codes : ℕ) (front : List ℕ) (rest : Option (List ℕ)) → 16 ≤ codes → joined codes front rest ≡ None
large_joined codes front rest large =
    let test : nat_lt codes 16 ≡ false = grind (arith, nat_tests, large) in
    rw test refl

pair-none_first : (a b i : ℕ) → hex_digit_value a ≡ None → (error : FromHexError) × (pair_value a b i ≡ Err error)
pair-none_first a b i none = let v = value-none a i none in (v.0, rw v.1 refl)

pair-none_second : (a b i : ℕ) → code a < 16 → hex_digit_value b ≡ None → (error : FromHexError) × (pair_value a b i ≡ Err error)
pair-none_second a b i first none =
    let v = value-none b (i + 1) none in (v.0, rw (value-some a i (hex_digit_value a) first, v.1) refl)

refused : (codes : ℕ) (front rest : List ℕ) (a b i : ℕ) (error : FromHexError) (more : ℕ) (next : List ℕ) (o : Option (List ℕ)) → pair_value a b i ≡ Err error → 16 ≤ more → joined codes front (bytes_named (decode_pairs i (a ∷ b ∷ rest))) ≡ joined more next o
refused codes front rest a b i error more next o bad large =
    ap (λ (r : Result (List ℕ) FromHexError). joined codes front (bytes_named r)) (decode_pairs-err_pair i a b error rest bad)
    ∙ none_joined codes front ∙ sym (large_joined more next o large)

-- more codes are below 16 where all are
both : (codes more : ℕ) → more < 16 → nat_lt codes 16 ≡ nat_lt (bit_or codes more) 16
both codes more small =
    let l = le_or_l codes more in
    elim (cases_lt codes 16) [
      | inl below ↦ let all = or_lt 4 codes more below small in grind (arith, nat_tests, below, all)
      | inr above ↦ grind (arith, nat_tests, above, l)
    ]

-- the digits of the next byte
pub joined-pair : (codes : ℕ) (front rest : List ℕ) (a b i : ℕ) → joined codes front (bytes_named (decode_pairs i (a ∷ b ∷ rest))) ≡ joined (bit_or codes (bit_or (code a) (code b))) (front ++ byte_of a b ∷ []) (bytes_named (decode_pairs (i + 2) rest))
joined-pair codes front rest a b i =
    let more = bit_or codes (bit_or (code a) (code b)) in
    let least = le_or_r codes (bit_or (code a) (code b)) in
    elim (small_or_none a) [
      | inr first ↦
          let v = pair-none_first a b i first in
          refused codes front rest a b i v.0 more _ _ v.1 (omega (arith, least, le_or_l (code a) (code b), code-none a first))
      | inl first ↦ elim (small_or_none b) [
        | inr second ↦
            let v = pair-none_second a b i first second in
            refused codes front rest a b i v.0 more _ _ v.1 (omega (arith, least, le_or_r (code a) (code b), code-none b second))
        | inl second ↦
            let named = ap bytes_named (decode_pairs-ok_pair i a b (byte_of a b) rest (pair-digits a b i first second)) ∙ cons-named (byte_of a b) (decode_pairs (i + 2) rest) in
            ap (joined codes front) named ∙ moved (nat_lt codes 16) front (byte_of a b) (bytes_named (decode_pairs (i + 2) rest))
            ∙ ap (λ t. cond t (option_map (λ bytes. (front ++ byte_of a b ∷ []) ++ bytes) (bytes_named (decode_pairs (i + 2) rest))) None) (both codes (bit_or (code a) (code b)) (or_lt 4 (code a) (code b) first second))
      ]
    ]

-- one byte more is decoded
pub joined_step : (word bytes : List ℕ) (codes i : ℕ) → 2 * i + 1 < length word → i < length bytes
    → bytes_named (decode_pairs 0 word) ≡ joined codes (take i bytes) (bytes_named (decode_pairs (2 * i) (drop (2 * i) word)))
    → bytes_named (decode_pairs 0 word) ≡ joined (bit_or codes (bit_or (code (slice_index word (2 * i))) (code (slice_index word (2 * i + 1))))) (take (i + 1) (slice_set bytes i (byte_of (slice_index word (2 * i)) (slice_index word (2 * i + 1))))) (bytes_named (decode_pairs (2 * (i + 1)) (drop (2 * (i + 1)) word)))
joined_step word bytes codes i fits room before =
    let a = slice_index word (2 * i) in
    let b = slice_index word (2 * i + 1) in
    let rest = drop (2 * (i + 1)) word in
    let more = bit_or codes (bit_or (code a) (code b)) in
    let two : 2 * i + 2 ≡ 2 * (i + 1) = omega arith in
    before ∙ ap (λ (digits : List ℕ). joined codes (take i bytes) (bytes_named (decode_pairs (2 * i) digits))) (drop-pair word i fits)
    ∙ joined-pair codes (take i bytes) rest a b (2 * i)
    ∙ ap (λ (k : ℕ). joined more (take i bytes ++ byte_of a b ∷ []) (bytes_named (decode_pairs k rest))) two
    ∙ ap (λ (front : List ℕ). joined more front (bytes_named (decode_pairs (2 * (i + 1)) rest))) (sym (take_more_set bytes i (byte_of a b) room))

-- every byte is decoded
pub joined_done : (word bytes : List ℕ) (codes i : ℕ) → length bytes ≤ i → length word ≤ 2 * i
    → bytes_named (decode_pairs 0 word) ≡ joined codes (take i bytes) (bytes_named (decode_pairs (2 * i) (drop (2 * i) word)))
    → bytes_named (decode_pairs 0 word) ≡ cond (nat_lt codes 16) (Some bytes) None
unfolding decode_pairs
joined_done word bytes codes i room fits before =
    before ∙ ap (λ (digits : List ℕ). joined codes (take i bytes) (bytes_named (decode_pairs (2 * i) digits))) (drop_all (2 * i) word fits)
    ∙ ap (λ (front : List ℕ). cond (nat_lt codes 16) (Some front) None) (append-nil (take i bytes) ∙ take_all i bytes room)

-- nothing is decoded yet
pub joined_start : (r : Option (List ℕ)) → r ≡ joined 0 [] r
joined_start (Some bytes) = refl
joined_start None = refl

abbrev are_two : ℕ → ℕ → Bool
are_two a b = nat_lt (code a) 16 && nat_lt (code b) 16

abbrev before : Bool → ℕ → Option (List ℕ) → Option (List ℕ)
before test v o = cond test (option_map (λ bytes. v ∷ bytes) o) None

-- the bytes of a first pair and of the others
named-pair : (i a b : ℕ) (rest : List ℕ) → bytes_named (decode_pairs i (a ∷ b ∷ rest)) ≡ before (are_two a b) (byte_of a b) (bytes_named (decode_pairs (i + 2) rest))
named-pair i a b rest =
    elim (small_or_none a) [
      | inr first ↦
          let v = pair-none_first a b i first in
          let test : nat_lt (code a) 16 ≡ false = grind (arith, nat_tests, code-none a first) in
          ap bytes_named (decode_pairs-err_pair i a b v.0 rest v.1) ∙ rw test refl
      | inl first ↦ elim (small_or_none b) [
        | inr second ↦
            let v = pair-none_second a b i first second in
            let one : nat_lt (code a) 16 ≡ true = grind (arith, nat_tests, first) in
            let two : nat_lt (code b) 16 ≡ false = grind (arith, nat_tests, code-none b second) in
            ap bytes_named (decode_pairs-err_pair i a b v.0 rest v.1) ∙ rw (one, two) refl
        | inl second ↦
            let one : nat_lt (code a) 16 ≡ true = grind (arith, nat_tests, first) in
            let two : nat_lt (code b) 16 ≡ true = grind (arith, nat_tests, second) in
            ap bytes_named (decode_pairs-ok_pair i a b (byte_of a b) rest (pair-digits a b i first second))
            ∙ cons-named (byte_of a b) (decode_pairs (i + 2) rest) ∙ rw (one, two) refl
      ]
    ]

-- what a word decodes to doesn't depend on where it stands
named-any : (i j : ℕ) (xs : List ℕ) → bytes_named (decode_pairs i xs) ≡ bytes_named (decode_pairs j xs)
unfolding decode_pairs
named-any i j [] = refl
named-any i j (a ∷ []) = refl
named-any i j (a ∷ b ∷ xs) = named-pair i a b xs ∙ ap (before (are_two a b) (byte_of a b)) (named-any (i + 2) (j + 2) xs) ∙ sym (named-pair j a b xs)

-- the bytes of a front, and then those of the rest
abbrev pub followed : Option (List ℕ) → Option (List ℕ) → Option (List ℕ)
followed (Some front) rest = option_map (λ bytes. front ++ bytes) rest
followed None rest = None

none_before : (rest : Option (List ℕ)) → rest ≡ option_map (λ bytes. [] ++ bytes) rest
none_before (Some bytes) = refl
none_before None = refl

before-followed : (test : Bool) (v : ℕ) (o rest : Option (List ℕ)) → before test v (followed o rest) ≡ followed (before test v o) rest
before-followed false v o rest = refl
before-followed true v (Some front) (Some bytes) = refl
before-followed true v (Some front) None = refl
before-followed true v None rest = refl

named-append : (n i : ℕ) (xs ys : List ℕ) → length xs ≡ 2 * n → bytes_named (decode_pairs i (xs ++ ys)) ≡ followed (bytes_named (decode_pairs i xs)) (bytes_named (decode_pairs 0 ys))
unfolding decode_pairs
named-append n i [] ys long = named-any i 0 ys ∙ none_before (bytes_named (decode_pairs 0 ys))
named-append n i (a ∷ []) ys long = absurd (omega (arith, long))
named-append zero i (a ∷ b ∷ xs) ys long = absurd (omega (arith, long))
named-append (suc n) i (a ∷ b ∷ xs) ys long =
    named-pair i a b (xs ++ ys) ∙ ap (before (are_two a b) (byte_of a b)) (named-append n (i + 2) xs ys (omega (arith, long)))
    ∙ before-followed (are_two a b) (byte_of a b) (bytes_named (decode_pairs (i + 2) xs)) (bytes_named (decode_pairs 0 ys))
    ∙ ap (λ o. followed o (bytes_named (decode_pairs 0 ys))) (sym (named-pair i a b xs))

-- the bytes of n pairs of codes from place k on
abbrev pub pairs_from : ℕ → ℕ → List ℕ → List ℕ
pairs_from k zero codes = []
pairs_from k (suc n) codes = (slice_index codes k * 16 % 256 + slice_index codes (suc k)) % 256 ∷ pairs_from (suc (suc k)) n codes

pairs_from-behind : (k n a b : ℕ) (codes : List ℕ) → pairs_from (suc (suc k)) n (a ∷ b ∷ codes) ≡ pairs_from k n codes
pairs_from-behind k zero a b codes = refl
pairs_from-behind k (suc n) a b codes = ap (λ (bytes : List ℕ). (slice_index codes k * 16 % 256 + slice_index codes (suc k)) % 256 ∷ bytes) (pairs_from-behind (suc (suc k)) n a b codes)

abbrev pub all_small : List ℕ → Bool
all_small codes = list_all (λ c. nat_lt c 16) codes

before-all : (t u r : Bool) (v : ℕ) (bytes : List ℕ) → before (t && u) v (cond r (Some bytes) None) ≡ cond (t && (u && r)) (Some (v ∷ bytes)) None
before-all false u r v bytes = refl
before-all true false r v bytes = refl
before-all true true false v bytes = refl
before-all true true true v bytes = refl

-- whole pairs of codes at once
pub named-codes : (n i : ℕ) (xs : List ℕ) → length xs ≡ 2 * n → bytes_named (decode_pairs i xs) ≡ cond (all_small (map code xs)) (Some (pairs_from 0 n (map code xs))) None
unfolding decode_pairs
named-codes zero i [] long = refl
named-codes (suc n) i [] long = absurd (omega (arith, long))
named-codes n i (a ∷ []) long = absurd (omega (arith, long))
named-codes zero i (a ∷ b ∷ xs) long = absurd (omega (arith, long))
named-codes (suc n) i (a ∷ b ∷ xs) long =
    let behind : pairs_from 2 n (code a ∷ code b ∷ map code xs) ≡ pairs_from 0 n (map code xs) = pairs_from-behind 0 n (code a) (code b) (map code xs) in
    named-pair i a b xs ∙ ap (before (are_two a b) (byte_of a b)) (named-codes n (i + 2) xs (omega (arith, long)))
    ∙ before-all (nat_lt (code a) 16) (nat_lt (code b) 16) (all_small (map code xs)) (byte_of a b) (pairs_from 0 n (map code xs))
    ∙ ap (λ (bytes : List ℕ). cond (all_small (code a ∷ code b ∷ map code xs)) (Some (byte_of a b ∷ bytes)) None) (sym behind)

-- a front of 32 digits that decodes to a block
pub named-block : (word : List ℕ) (block : Option (List ℕ)) → 32 ≤ length word → block ≡ bytes_named (decode_pairs 0 (take 32 word)) → bytes_named (decode_pairs 0 word) ≡ followed block (bytes_named (decode_pairs 0 (drop 32 word)))
named-block word block long is =
    ap (λ (digits : List ℕ). bytes_named (decode_pairs 0 digits)) (sym (take-append-drop 32 word))
    ∙ named-append 16 0 (take 32 word) (drop 32 word) (length-take 32 word ∙ omega (arith, long))
    ∙ ap (λ o. followed o (bytes_named (decode_pairs 0 (drop 32 word)))) (sym is)

-- the codes of 32 digits, of which 16 stand in each vector
pub block-codes : (word first second : List ℕ) → 32 ≤ length word → first ≡ map code (chunk 0 16 word) → second ≡ map code (chunk 16 16 word) → bytes_named (decode_pairs 0 (take 32 word)) ≡ cond (all_small first && all_small second) (Some (pairs_from 0 16 (first ++ second))) None
block-codes word first second long p q =
    let both : first ++ second ≡ map code (take 32 word) = ap₂ (λ (xs ys : List ℕ). xs ++ ys) p q ∙ sym (map-append code (take 16 word) (take 16 (drop 16 word))) ∙ ap (map code) (sym (take-add 16 16 word)) in
    named-codes 16 0 (take 32 word) (length-take 32 word ∙ omega (arith, long))
    ∙ ap (λ (codes : List ℕ). cond (all_small codes) (Some (pairs_from 0 16 codes)) None) (sym both)
    ∙ ap (λ t. cond t (Some (pairs_from 0 16 (first ++ second))) None) (list_all-append (λ c. nat_lt c 16) first second)

-- the digits from a place on
from_place : (word : List ℕ) (at : ℕ) → take (length word - at) (drop at word) ≡ drop at word
from_place word at = take_all (length word - at) (drop at word) (omega (arith, length-drop at word))

block-next : (word : List ℕ) (at : ℕ) (block : Option (List ℕ)) → 2 * at + 32 ≤ length word → block ≡ bytes_named (decode_pairs 0 (take 32 (take (length word - 2 * at) (drop (2 * at) word)))) → bytes_named (decode_pairs 0 (drop (2 * at) word)) ≡ followed block (bytes_named (decode_pairs 0 (drop 32 (drop (2 * at) word))))
block-next word at block fits is =
    named-block (drop (2 * at) word) block (omega (arith, fits, length-drop (2 * at) word)) (is ∙ ap (λ (digits : List ℕ). bytes_named (decode_pairs 0 (take 32 digits))) (from_place word (2 * at)))

-- a block that doesn't decode
pub block-none : (word front : List ℕ) (at : ℕ) → 2 * at + 32 ≤ length word → None ≡ bytes_named (decode_pairs 0 (take 32 (take (length word - 2 * at) (drop (2 * at) word))))
    → bytes_named (decode_pairs 0 word) ≡ option_map (λ rest. front ++ rest) (bytes_named (decode_pairs 0 (drop (2 * at) word)))
    → bytes_named (decode_pairs 0 word) ≡ None
block-none word front at fits is so_far = so_far ∙ ap (option_map (λ rest. front ++ rest)) (block-next word at None fits is)

two_fronts : (front block : List ℕ) (o : Option (List ℕ)) → option_map (λ rest. front ++ rest) (option_map (λ rest. block ++ rest) o) ≡ option_map (λ rest. (front ++ block) ++ rest) o
two_fronts front block (Some rest) = ap Some (sym (append_assoc front block rest))
two_fronts front block None = refl

-- a block more is decoded
pub block_step : (word bytes after block : List ℕ) (at : ℕ) → 2 * at + 32 ≤ length word → take (at + 16) after ≡ take at bytes ++ block
    → Some block ≡ bytes_named (decode_pairs 0 (take 32 (take (length word - 2 * at) (drop (2 * at) word))))
    → bytes_named (decode_pairs 0 word) ≡ option_map (λ rest. take at bytes ++ rest) (bytes_named (decode_pairs 0 (drop (2 * at) word)))
    → bytes_named (decode_pairs 0 word) ≡ option_map (λ rest. take (at + 16) after ++ rest) (bytes_named (decode_pairs 0 (drop (2 * (at + 16)) word)))
block_step word bytes after block at fits written is so_far =
    let place : 2 * at + 32 ≡ 2 * (at + 16) = omega arith in
    so_far ∙ ap (option_map (λ rest. take at bytes ++ rest)) (block-next word at (Some block) fits is)
    ∙ two_fronts (take at bytes) block (bytes_named (decode_pairs 0 (drop 32 (drop (2 * at) word))))
    ∙ ap (λ (front : List ℕ). option_map (λ rest. front ++ rest) (bytes_named (decode_pairs 0 (drop 32 (drop (2 * at) word))))) (sym written)
    ∙ ap (λ (digits : List ℕ). option_map (λ rest. take (at + 16) after ++ rest) (bytes_named (decode_pairs 0 digits))) (drop-drop 32 (2 * at) word ∙ ap (λ k. drop k word) place)

pub reaches : (n : ℕ) (front block after : List ℕ) → length front + length block ≡ n → take n after ≡ front ++ block → n ≤ length after
reaches n front block after long is =
    let cut : length (take n after) ≡ n = ap length is ∙ length-append front block ∙ long in
    omega (arith, cut, length-take n after)
