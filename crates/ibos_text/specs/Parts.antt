-- A text cut at the bytes of one value.
use Rattle.std.specs.Prelude.{ℕ, List, [], ◌==◌, Option, None, Some}
use Rattle.std.specs.List.{position_or_len, slice_split}

-- how many bytes stand before the first byte of that value, or before the end
abbrev pub len_before : ℕ → List ℕ → ℕ
len_before byte text = position_or_len (λ b. b == byte) text

-- the parts between the bytes of that value
abbrev pub parts_of : ℕ → List ℕ → List (List ℕ)
parts_of byte text = slice_split (λ b. b == byte) text

-- the parts of a text, if there is one
abbrev pub parts_left : ℕ → Option (List ℕ) → List (List ℕ)
parts_left byte None = []
parts_left byte (Some text) = parts_of byte text
