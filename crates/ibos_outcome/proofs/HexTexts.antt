-- The digits of bytes, a piece at a time.
use Rattle.std.proofs.Common.{◌≡◌, ℕ, ◌+◌, ◌-◌, List, [], ◌∷◌, ◌++◌, length, take, drop, refl, sym, ◌∙◌, ap, ap₂, subst, append_assoc, arith}
use Rattle.std.proofs.Math.Seq.{take-add}
use Rattle.std.proofs.lemmas.List.{append-nil, length-drop, take_all, take-append-drop}
use Rattle.hex.specs.Hex.{encode_lower, encode_with, lower_digits}
use Rattle.ibos_outcome.specs.Printed.{IsCutShort}
use Rattle.ibos_outcome.proofs.CutTexts.{IsCutShort-first, IsCutShort-second}

encode_with-append : (t xs ys : List ℕ) → encode_with t (xs ++ ys) ≡ encode_with t xs ++ encode_with t ys
unfolding encode_with
encode_with-append t [] ys = refl
encode_with-append t (b ∷ xs) ys = rw (encode_with-append t xs ys) refl

-- what is left of them behind a place, as a slice
slice-rest : (bytes : List ℕ) (at : ℕ) → take (length bytes - at) (drop at bytes) ≡ drop at bytes
slice-rest bytes at = take_all (length bytes - at) (drop at bytes) (omega (arith, length-drop at bytes))

pub encode_lower-rest : (bytes : List ℕ) (at : ℕ) → encode_lower (take at bytes) ++ encode_lower (take (length bytes - at) (drop at bytes)) ≡ encode_lower bytes
encode_lower-rest bytes at =
    ap (λ xs. encode_lower (take at bytes) ++ encode_lower xs) (slice-rest bytes at)
    ∙ sym (encode_with-append lower_digits (take at bytes) (drop at bytes))
    ∙ ap encode_lower (take-append-drop at bytes)

-- n more of them were written
pub written-more : (n : ℕ) (bytes : List ℕ) (at : ℕ) (old between new block : List ℕ) → between ≡ old ++ encode_lower (take at bytes)
    → block ≡ encode_lower (take n (take (length bytes - at) (drop at bytes))) → new ≡ between ++ block → new ≡ old ++ encode_lower (take (at + n) bytes)
written-more n bytes at old between new block so_far is written =
    written ∙ ap₂ (λ (xs ys : List ℕ). xs ++ ys) so_far (is ∙ ap (λ xs. encode_lower (take n xs)) (slice-rest bytes at))
    ∙ append_assoc old (encode_lower (take at bytes)) (encode_lower (take n (drop at bytes)))
    ∙ ap (λ (digits : List ℕ). old ++ digits) (sym (encode_with-append lower_digits (take at bytes) (take n (drop at bytes))) ∙ ap encode_lower (sym (take-add at n bytes)))

-- n more of them were cut short
pub IsCutShort-block : (n : ℕ) (bytes : List ℕ) (at : ℕ) (old between new block : List ℕ) → between ≡ old ++ encode_lower (take at bytes)
    → block ≡ encode_lower (take n (take (length bytes - at) (drop at bytes))) → IsCutShort between new block → IsCutShort old new (encode_lower bytes)
IsCutShort-block n bytes at old between new block so_far is cut =
    let rest : List ℕ = drop at bytes in
    let parts : block ++ encode_lower (drop n rest) ≡ encode_lower rest =
    ap (λ xs. xs ++ encode_lower (drop n rest)) (is ∙ ap (λ xs. encode_lower (take n xs)) (slice-rest bytes at))
    ∙ sym (encode_with-append lower_digits (take n rest) (drop n rest)) ∙ ap encode_lower (take-append-drop n rest) in
    let all : encode_lower (take at bytes) ++ encode_lower rest ≡ encode_lower bytes =
    sym (encode_with-append lower_digits (take at bytes) rest) ∙ ap encode_lower (take-append-drop at bytes) in
    subst (IsCutShort old new) all (IsCutShort-second old between new (encode_lower (take at bytes)) (encode_lower rest) so_far
    (subst (IsCutShort between new) parts (IsCutShort-first between new block (encode_lower (drop n rest)) cut)))

-- one block behind another
next-block : (k n : ℕ) (bytes : List ℕ) → encode_lower (take k bytes) ++ encode_lower (take n (drop k bytes)) ≡ encode_lower (take (k + n) bytes)
next-block k n bytes = sym (encode_with-append lower_digits (take k bytes) (take n (drop k bytes))) ∙ ap encode_lower (sym (take-add k n bytes))

regroup : (a b c d e f g h : List ℕ) → a ++ (b ++ (c ++ (d ++ (e ++ (f ++ (g ++ (h ++ []))))))) ≡ a ++ b ++ (c ++ d) ++ (e ++ f) ++ (g ++ h)
regroup a b c d e f g h = simp (append_assoc, append-nil)

-- the bytes from a place on, as they are lent
abbrev rest_at : ℕ → List ℕ → List ℕ
rest_at at bytes = take (length bytes - at) (drop at bytes)

-- four blocks, each in two halves
pub wide-digits : (bytes a b c d e f g h : List ℕ) → a ++ b ≡ encode_lower (take 16 bytes) → c ++ d ≡ encode_lower (take 16 (rest_at 16 bytes))
    → e ++ f ≡ encode_lower (take 16 (rest_at 32 bytes)) → g ++ h ≡ encode_lower (take 16 (rest_at 48 bytes))
    → a ++ (b ++ (c ++ (d ++ (e ++ (f ++ (g ++ (h ++ []))))))) ≡ encode_lower (take 64 bytes)
wide-digits bytes a b c d e f g h p q r s =
    let behind : (at : ℕ) (digits : List ℕ) → digits ≡ encode_lower (take 16 (rest_at at bytes)) → digits ≡ encode_lower (take 16 (drop at bytes)) = λ at digits is. is ∙ ap (λ xs. encode_lower (take 16 xs)) (slice-rest bytes at) in
    let two = ap₂ (λ (xs ys : List ℕ). xs ++ ys) p (behind 16 (c ++ d) q) ∙ next-block 16 16 bytes in
    let three = ap₂ (λ (xs ys : List ℕ). xs ++ ys) two (behind 32 (e ++ f) r) ∙ next-block 32 16 bytes in
    regroup a b c d e f g h ∙ ap₂ (λ (xs ys : List ℕ). xs ++ ys) three (behind 48 (g ++ h) s) ∙ next-block 48 16 bytes

pub encode_lower-none : encode_lower [] ≡ []
unfolding encode_with
encode_lower-none = refl
