-- The first of the lines of a text.
use Rattle.std.proofs.Common.{◌≡◌, ◌≢◌, ℕ, ◌+◌, ◌-◌, ◌≤◌, ◌<◌, List, [], ◌∷◌, Bool, true, false, refl, take, drop, length, arith, add-one, suc, inl, inr, length-drop, get_or, cond, Some, None, sym, ◌∙◌}
use Rattle.std.specs.Prelude.{if◌then◌else◌, ◌==◌, ◌⊎◌}
use Rattle.std.proofs.lemmas.List.{take_all}
use Rattle.std.proofs.lemmas.List.Sums.{position_or_len_is}
use Rattle.std.proofs.lemmas.List.Recursion.{is_position_or_len}
use Rattle.memchr.specs.Find.{IsFirstByte, is_byte}
use Rattle.ibos_text.specs.Lines.{pieces_of, lines_of, onto_first, without_return}

-- how many bytes stand before the first 0x0A
abbrev len_of_line : List ℕ → ℕ
len_of_line [] = 0
len_of_line (b ∷ bytes) = if b == 10 then 0 else len_of_line bytes + 1

counted : (t : Bool) (n : ℕ) → (if t then 0 else n + 1) ≡ cond t 0 (1 + n)
counted true n = refl
counted false n = omega arith

len_of_line-is : (bytes : List ℕ) (n : ℕ) → n ≤ length bytes → ((k : ℕ) → k < n → (get_or bytes k 0 == 10) ≡ false) → (n < length bytes → (get_or bytes n 0 == 10) ≡ true)
    → len_of_line bytes ≡ n
len_of_line-is bytes n within before at =
    is_position_or_len len_of_line (λ b. b == 10) refl (λ b rest. counted (b == 10) (len_of_line rest)) bytes
    ∙ position_or_len_is (λ b. b == 10) bytes n 0 within before at

no_pass : (t : Bool) → (t ≡ true → ⊥) → t ≡ false
no_pass true never = absurd (never refl)
no_pass false never = refl

-- what a search for the end finds
pub found_end : (bytes : List ℕ) (n : ℕ) → IsFirstByte (is_byte 10) bytes (Some n) → n ≡ len_of_line bytes
found_end bytes n found =
    sym (len_of_line-is bytes n (omega (arith, found.0.high)) (λ k below. no_pass _ (found.0.before k (omega arith) below)) (λ within. found.1))

pub found_no_end : (bytes : List ℕ) → IsFirstByte (is_byte 10) bytes None → length bytes ≤ len_of_line bytes
found_no_end bytes found =
    let whole = len_of_line-is bytes (length bytes) (omega arith) (λ k below. no_pass _ (found k (omega arith) below)) (λ past. absurd (omega arith)) in omega (arith, whole)

ended_cons : (t : Bool) (b n : ℕ) (bytes : List ℕ) → (if t then 0 else n + 1) < length (b ∷ bytes)
    → (n < length bytes → pieces_of bytes ≡ take n bytes ∷ pieces_of (drop (n + 1) bytes))
    → (if t then [] ∷ pieces_of bytes else onto_first b (pieces_of bytes)) ≡ take (if t then 0 else n + 1) (b ∷ bytes) ∷ pieces_of (drop ((if t then 0 else n + 1) + 1) (b ∷ bytes))
ended_cons true b n bytes shorter rest = refl
ended_cons false b n bytes shorter rest =
    let is : pieces_of bytes ≡ take n bytes ∷ pieces_of (drop (n + 1) bytes) = rest (omega arith) in
    rw (is, add-one n) (rw (add-one (suc n)) refl)

-- a piece that ends
pieces_of-ended : (bytes : List ℕ) → len_of_line bytes < length bytes
    → pieces_of bytes ≡ take (len_of_line bytes) bytes ∷ pieces_of (drop (len_of_line bytes + 1) bytes)
unfolding pieces_of
pieces_of-ended [] shorter = absurd (omega arith)
pieces_of-ended (b ∷ bytes) shorter = ended_cons (b == 10) b (len_of_line bytes) bytes shorter (pieces_of-ended bytes)

last_cons : (t : Bool) (b n : ℕ) (bytes : List ℕ) → length (b ∷ bytes) ≤ (if t then 0 else n + 1)
    → (length bytes ≤ n → (bytes ≡ []) ⊎ (pieces_of bytes ≡ bytes ∷ []))
    → (if t then [] ∷ pieces_of bytes else onto_first b (pieces_of bytes)) ≡ (b ∷ bytes) ∷ []
unfolding pieces_of
last_cons true b n bytes whole rest = absurd (omega arith)
last_cons false b n bytes whole rest = elim (rest (omega arith)) [ inl none ↦ rw none refl | inr is ↦ rw is refl ]

none_or_last : (bytes : List ℕ) → length bytes ≤ len_of_line bytes → (bytes ≡ []) ⊎ (pieces_of bytes ≡ bytes ∷ [])
unfolding pieces_of
none_or_last [] whole = inl refl
none_or_last (b ∷ bytes) whole = inr (last_cons (b == 10) b (len_of_line bytes) bytes whole (none_or_last bytes))

-- a last line without an end
pub lines_of-last : (bytes : List ℕ) → bytes ≢ [] → length bytes ≤ len_of_line bytes → lines_of bytes ≡ without_return bytes ∷ lines_of []
unfolding lines_of pieces_of
lines_of-last bytes some whole = elim (none_or_last bytes whole) [ inl none ↦ absurd (some none) | inr is ↦ rw is refl ]

-- a line that ends, as slices of the code say it
pub lines_of-ended : (bytes : List ℕ) (n : ℕ) → n ≡ len_of_line bytes → n < length bytes
    → lines_of bytes ≡ without_return (take n bytes) ∷ lines_of (take (length bytes - (n + 1)) (drop (n + 1) bytes))
unfolding lines_of
lines_of-ended bytes n is shorter =
    let all : take (length bytes - (n + 1)) (drop (n + 1) bytes) ≡ drop (n + 1) bytes = take_all _ _ (omega (arith, length-drop (n + 1) bytes)) in
    rw (all, is) (rw (pieces_of-ended bytes (omega arith)) refl)
