-- Parts and words, cut off the front.
use Rattle.std.proofs.Common.{◌≡◌, ℕ, ◌+◌, ◌-◌, ◌≤◌, ◌<◌, Bool, true, false, cond, not, List, [], ◌∷◌, refl, take, drop, length, filter, suc, arith, add-one, inl, inr, length-drop, length-take, zero, ◌∙◌}
use Rattle.std.specs.Prelude.{◌==◌, ◌||◌, nat_lt, ◌⊎◌, if◌then◌else◌}
use Rattle.std.specs.List.{position_or_len, onto_first}
use Rattle.std.proofs.lemmas.List.{take_all, drop_all}
use Rattle.std.proofs.lemmas.List.Splits.{slice_split_first}
use Rattle.std.proofs.lemmas.List.Sums.{prefix_len-le-length}
use Rattle.std.proofs.lemmas.Bool.Decides.{nat_tests}
use Rattle.ibos_text.specs.Parts.{parts_of}
use Rattle.ibos_text.specs.Words.{words_of, has_word, first_word, after_word, after_spaces}

none_cons : (t : Bool) (x : ℕ) (xs : List ℕ) (len : ℕ) (parts : List (List ℕ)) → suc (length xs) ≤ cond (not t) (1 + len) 0
    → (length xs ≤ len → parts ≡ xs ∷ []) → cond t ([] ∷ parts) (onto_first x parts) ≡ (x ∷ xs) ∷ []
none_cons true x xs len parts whole rest = absurd (omega arith)
none_cons false x xs len parts whole rest = rw (rest (omega arith)) refl

-- a text without that byte is one part
pub parts_of-whole : (byte : ℕ) (text : List ℕ) → length text ≤ position_or_len (λ b. b == byte) text → parts_of byte text ≡ text ∷ []
parts_of-whole byte [] whole = refl
parts_of-whole byte (x ∷ xs) whole = none_cons (x == byte) x xs (position_or_len (λ b. b == byte) xs) (parts_of byte xs) whole (parts_of-whole byte xs)

-- the part before the first such byte, as slices of the code say it
pub parts_of-cut : (byte : ℕ) (text : List ℕ) (n : ℕ) → n ≡ position_or_len (λ b. b == byte) text → n < length text
    → parts_of byte text ≡ take n text ∷ parts_of byte (take (length text - (n + 1)) (drop (n + 1) text))
parts_of-cut byte text n is shorter =
    let all : take (length text - (n + 1)) (drop (n + 1) text) ≡ drop (n + 1) text = take_all _ _ (omega (arith, length-drop (n + 1) text)) in
    rw (all, is) (slice_split_first (λ b. b == byte) text 0 (omega arith))

at_cons : (t : Bool) (x : ℕ) (xs : List ℕ) (len : ℕ) → cond (not t) (1 + len) 0 < suc (length xs)
    → (len < length xs → parts_of 32 (drop len xs) ≡ [] ∷ parts_of 32 (drop (len + 1) xs)) → x == 32 ≡ t
    → parts_of 32 (drop (cond (not t) (1 + len) 0) (x ∷ xs)) ≡ [] ∷ parts_of 32 (drop (cond (not t) (1 + len) 0 + 1) (x ∷ xs))
at_cons true x xs len shorter rest is = rw is refl
at_cons false x xs len shorter rest is =
    let e : 1 + len ≡ suc len = omega arith in
    let more = rest (omega arith) in
    rw (e, add-one (suc len)) (rw (add-one len) at more)

-- what begins at the first space begins with a part without bytes
parts_of-at : (text : List ℕ) → position_or_len (λ b. b == 32) text < length text
    → parts_of 32 (drop (position_or_len (λ b. b == 32) text) text) ≡ [] ∷ parts_of 32 (drop (position_or_len (λ b. b == 32) text + 1) text)
parts_of-at [] shorter = absurd (omega arith)
parts_of-at (x ∷ xs) shorter = at_cons (x == 32) x xs (position_or_len (λ b. b == 32) xs) shorter (parts_of-at xs) refl

-- a word that is not empty stays
kept : (word : List ℕ) (parts : List (List ℕ)) → 0 < length word
    → filter (λ w. nat_lt 0 (length w)) (word ∷ parts) ≡ word ∷ filter (λ w. nat_lt 0 (length w)) parts
kept [] parts some = absurd (omega arith)
kept (b ∷ word) parts some = grind (arith, nat_tests)

-- the first word of a line that begins with none
pub words_of-front : (line : List ℕ) (n : ℕ) → n ≡ position_or_len (λ b. b == 32) line → 0 < n → (n < length line) ⊎ (length line ≤ n)
    → words_of line ≡ take n line ∷ words_of (drop n line)
unfolding words_of
words_of-front line n is some (inl ends) =
    let cut = slice_split_first (λ b. b == 32) line 0 (omega arith) in
    let at_space = parts_of-at line (omega arith) in
    let long : 0 < length (take (position_or_len (λ b. b == 32) line) line) = omega (arith, length-take (position_or_len (λ b. b == 32) line) line) in
    rw is (rw (cut, at_space) (kept _ (parts_of 32 (drop (position_or_len (λ b. b == 32) line + 1) line)) long))
words_of-front line n is some (inr whole) =
    let one = parts_of-whole 32 line (omega arith) in
    rw (one, take_all n line whole, drop_all n line whole) (kept line [] (omega (arith, prefix_len-le-length (λ b. not (b == 32)) line)))

space_cons : (t : Bool) (b : ℕ) (line : List ℕ) → b == 32 ≡ t → words_of line ≡ words_of (after_spaces line)
    → words_of (b ∷ line) ≡ words_of (if t then after_spaces line else b ∷ line)
unfolding words_of
space_cons true b line is rest = rw is rest
space_cons false b line is rest = refl

-- spaces at the front are in no word
pub words_of-after_spaces : (line : List ℕ) → words_of line ≡ words_of (after_spaces line)
words_of-after_spaces [] = refl
words_of-after_spaces (b ∷ line) = space_cons (b == 32) b line refl (words_of-after_spaces line)

front_cons : (t : Bool) (b : ℕ) (line : List ℕ) → b == 32 ≡ t → (0 < length (after_spaces line) → 0 < position_or_len (λ b. b == 32) (after_spaces line))
    → 0 < length (if t then after_spaces line else b ∷ line) → 0 < position_or_len (λ b. b == 32) (if t then after_spaces line else b ∷ line)
front_cons true b line is rest some = rest some
front_cons false b line is rest some = rw is (omega arith)

-- what follows the spaces begins with a word
pub front_of-after_spaces : (line : List ℕ) → 0 < length (after_spaces line) → 0 < position_or_len (λ b. b == 32) (after_spaces line)
front_of-after_spaces [] some = some
front_of-after_spaces (b ∷ line) some = front_cons (b == 32) b line refl (front_of-after_spaces line) some

pub words_of-none : (text : List ℕ) → length text ≡ 0 → words_of text ≡ []
unfolding words_of
words_of-none [] none = refl
words_of-none (b ∷ text) none = absurd (omega arith)

word_cons : (t : Bool) (b : ℕ) (bytes : List ℕ) → has_word bytes ≡ nat_lt 0 (length (after_spaces bytes))
    → (not t || has_word bytes) ≡ nat_lt 0 (length (if t then after_spaces bytes else b ∷ bytes))
word_cons true b bytes rest = rest
word_cons false b bytes rest = grind (arith, nat_tests)

-- there is a word where something follows the spaces
pub has_word-after_spaces : (line : List ℕ) → has_word line ≡ nat_lt 0 (length (after_spaces line))
unfolding has_word
has_word-after_spaces [] = grind (arith, nat_tests)
has_word-after_spaces (b ∷ bytes) = word_cons (b == 32) b bytes (has_word-after_spaces bytes)

cut_none : (n : ℕ) (rest : List ℕ) → length rest ≡ 0 → (take n rest ≡ []) × (drop n rest ≡ [])
cut_none zero [] none = (refl, refl)
cut_none (suc n) [] none = (refl, refl)
cut_none n (b ∷ rest) none = absurd (omega arith)

-- a line of spaces has no word
pub no_word : (line : List ℕ) → length (after_spaces line) ≡ 0 → (has_word line ≡ false) × (first_word line ≡ []) × (after_word line ≡ [])
unfolding first_word after_word
no_word line none = (has_word-after_spaces line ∙ grind (arith, nat_tests), (cut_none _ _ none).0, (cut_none _ _ none).1)
