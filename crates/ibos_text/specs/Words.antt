-- The words of a line: the longest runs of bytes other than the space.
use Rattle.std.specs.Prelude.{ℕ, List, [], ◌∷◌, Bool, not, ◌==◌, nat_lt, length, take, drop, filter}
use Rattle.std.specs.Prelude.{bytes_eq, if◌then◌else◌}
use Rattle.std.specs.List.{list_any, slice_split}
use Rattle.ibos_text.specs.Parts.{len_before}

-- what follows the spaces at the front
abbrev pub after_spaces : List ℕ → List ℕ
after_spaces [] = []
after_spaces (b ∷ bytes) = if b == 32 then after_spaces bytes else b ∷ bytes

-- the parts of a line between its spaces, but for those without bytes
unfoldable pub words_of : List ℕ → List (List ℕ)
words_of line = filter (λ word. nat_lt 0 (length word)) (slice_split (λ b. b == 32) line)

-- whether there is a word: a byte other than the space
unfoldable pub has_word : List ℕ → Bool
has_word line = list_any (λ b. not (b == 32)) line

-- the first word, empty where there is none
unfoldable pub first_word : List ℕ → List ℕ
first_word line = take (len_before 32 (after_spaces line)) (after_spaces line)

-- the rest of a line after its first word
unfoldable pub after_word : List ℕ → List ℕ
after_word line = drop (len_before 32 (after_spaces line)) (after_spaces line)

abbrev pub is_word : List ℕ → List ℕ → Bool
is_word text word = bytes_eq word text
