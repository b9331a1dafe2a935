-- The digits of bytes, many at once.
use Rattle.std.proofs.Common.{◌≡◌, ℕ, zero, suc, ◌+◌, ◌/◌, ◌%◌, ◌<◌, List, [], ◌∷◌, ◌++◌, map, length, drop, slice_index, refl, sym, ◌∙◌, ap, ap₂, arith}
use Rattle.std.proofs.Math.ListN.{get_or-append}
use Rattle.std.proofs.lemmas.List.{drop_all, get_or-append-add, get_or-map, length-map}
use Rattle.hex.specs.Hex.{encode_lower, encode_with, lower_digits}
use Rattle.hex.proofs.Pairs.{encode_with-drop}

abbrev pub high : ℕ → ℕ
high b = slice_index lower_digits (b / 16)

abbrev pub low : ℕ → ℕ
low b = slice_index lower_digits (b % 16)

-- n elements from place k on, each followed by the one 16 places behind
abbrev pub woven : ℕ → ℕ → List ℕ → List ℕ
woven k zero xs = []
woven k (suc n) xs = slice_index xs k ∷ slice_index xs (16 + k) ∷ woven (suc k) n xs

woven-digits : (v : List ℕ) (k n : ℕ) → length v ≡ 16 → k + n ≡ 16 → woven k n (map high v ++ map low v) ≡ encode_lower (drop k v)
unfolding encode_with
woven-digits v k zero long all = ap encode_lower (sym (drop_all k v (omega (arith, long, all))))
woven-digits v k (suc n) long all =
    let within : k < length v = omega (arith, long, all) in
    let halves : length (map high v) ≡ 16 = length-map v high ∙ long in
    let first : slice_index (map high v ++ map low v) k ≡ high (slice_index v k) = get_or-append (map high v) (map low v) 0 k (omega (arith, halves, within, long)) ∙ get_or-map high v k 0 0 within in
    let second : slice_index (map high v ++ map low v) (16 + k) ≡ low (slice_index v k) = ap (λ m. slice_index (map high v ++ map low v) (m + k)) (sym halves) ∙ get_or-append-add (map high v) (map low v) k 0 ∙ get_or-map low v k 0 0 within in
    let one : suc k ≡ k + 1 = omega arith in
    let others = woven-digits v (suc k) n long (omega (arith, all)) ∙ ap (λ j. encode_lower (drop j v)) one in
    rw (first, second) (ap (λ (digits : List ℕ). high (slice_index v k) ∷ low (slice_index v k) ∷ digits) others ∙ sym (encode_with-drop lower_digits v k within))

-- the digits of 16 bytes
pub block-digits : (v highs lows : List ℕ) → length v ≡ 16 → highs ≡ map high v → lows ≡ map low v → woven 0 16 (highs ++ lows) ≡ encode_lower v
block-digits v highs lows long p q = ap₂ (λ (xs ys : List ℕ). woven 0 16 (xs ++ ys)) p q ∙ woven-digits v 0 16 long refl
