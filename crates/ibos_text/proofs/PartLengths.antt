-- How long the first part of a text is, found in two steps.
use Rattle.std.proofs.Common.{◌≡◌, ℕ, ◌+◌, ◌-◌, ◌≤◌, List, [], ◌∷◌, ◌++◌, Bool, true, false, not, cond, refl, take, drop, length, arith, Some, None, sym, ◌∙◌, ap, subst}
use Rattle.std.specs.Prelude.{◌==◌}
use Rattle.std.proofs.lemmas.List.{length-drop, length-take, take_all, take-append-drop}
use Rattle.std.proofs.lemmas.List.Sums.{position_or_len_is, prefix_len-le-length}
use Rattle.memchr.specs.Find.{IsFirstByte, is_byte}
use Rattle.ibos_text.specs.Parts.{len_before}

behind : (t : Bool) (n len m r : ℕ) → cond (not t) (1 + n) 0 ≡ 1 + len → (n ≡ len → r ≡ len + m) → cond (not t) (1 + r) 0 ≡ 1 + len + m
behind true n len m r is rest = absurd (omega (arith, is))
behind false n len m r is rest = let e = rest (omega (arith, is)) in omega (arith, e)

-- the byte isn't in the front
not_in_front : (byte : ℕ) (front rest : List ℕ) → len_before byte front ≡ length front → len_before byte (front ++ rest) ≡ length front + len_before byte rest
not_in_front byte [] rest whole = omega arith
not_in_front byte (b ∷ front) rest whole =
    behind (b == byte) (len_before byte front) (length front) (len_before byte rest) (len_before byte (front ++ rest)) (whole ∙ omega arith) (not_in_front byte front rest) ∙ omega arith

len_behind_few : (byte : ℕ) (text : List ℕ) (few more : ℕ) → few ≤ length text → few ≤ len_before byte (take few text) → len_before byte (take few text) ≤ length (take few text) → len_before byte (drop few text) ≡ more → few + more ≡ len_before byte text
len_behind_few byte text few more fits past within is =
    let long : length (take few text) ≡ few = length-take few text ∙ omega (arith, fits) in
    let whole : len_before byte (take few text) ≡ length (take few text) = omega (arith, long, past, within) in
    let rest = not_in_front byte (take few text) (drop few text) whole in
    omega (arith, rest, long, is) ∙ ap (len_before byte) (take-append-drop few text)

no_pass : (t : Bool) → (t ≡ true → ⊥) → t ≡ false
no_pass true never = absurd (never refl)
no_pass false never = refl

-- what a search behind the few finds
pub found_behind : (byte : ℕ) (text : List ℕ) (few more : ℕ) → few ≤ length text → few ≤ len_before byte (take few text) → len_before byte (take few text) ≤ length (take few text) → IsFirstByte (is_byte byte) (take (length text - few) (drop few text)) (Some more) → few + more ≡ len_before byte text
found_behind byte text few more fits past within found =
    let all : take (length text - few) (drop few text) ≡ drop few text = take_all (length text - few) (drop few text) (omega (arith, length-drop few text)) in
    let here = subst (λ (bytes : List ℕ). IsFirstByte (is_byte byte) bytes (Some more)) all found in
    len_behind_few byte text few more fits past within
    (position_or_len_is (λ b. b == byte) (drop few text) more 0 (omega (arith, here.0.high)) (λ k below. no_pass _ (here.0.before k (omega arith) below)) (λ _. here.1))

pub none_behind : (byte : ℕ) (text : List ℕ) (few : ℕ) → few ≤ length text → few ≤ len_before byte (take few text) → len_before byte (take few text) ≤ length (take few text) → IsFirstByte (is_byte byte) (take (length text - few) (drop few text)) None → length text ≡ len_before byte text
none_behind byte text few fits past within found =
    let all : take (length text - few) (drop few text) ≡ drop few text = take_all (length text - few) (drop few text) (omega (arith, length-drop few text)) in
    let here = subst (λ (bytes : List ℕ). IsFirstByte (is_byte byte) bytes None) all found in
    let end : few + length (drop few text) ≡ length text = omega (arith, length-drop few text, fits) in
    sym end ∙ len_behind_few byte text few (length (drop few text)) fits past within
    (position_or_len_is (λ b. b == byte) (drop few text) (length (drop few text)) 0 (omega arith) (λ k below. no_pass _ (here k (omega arith) below)) (λ past_end. absurd (omega arith)))

-- a part is no longer than the text
pub len_before-le : (byte : ℕ) (text : List ℕ) → len_before byte text ≤ length text
len_before-le byte text = prefix_len-le-length (λ b. not (b == byte)) text
