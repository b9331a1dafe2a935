-- The lines of a text.
use Rattle.std.specs.Prelude.{ℕ, ◌-◌, List, [], ◌∷◌, ◌==◌, length, take, map, slice_index}
use Rattle.std.specs.Prelude.{if◌then◌else◌}

-- a byte before the first of the pieces
abbrev pub onto_first : ℕ → List (List ℕ) → List (List ℕ)
onto_first b [] = (b ∷ []) ∷ []
onto_first b (piece ∷ pieces) = (b ∷ piece) ∷ pieces

-- a text cut at each 0x0A, which belongs to no piece; a rest without bytes is no piece
unfoldable pub pieces_of : List ℕ → List (List ℕ)
pieces_of [] = []
pieces_of (b ∷ bytes) = if b == 10 then [] ∷ pieces_of bytes else onto_first b (pieces_of bytes)

-- without one 0x0D at the end
abbrev pub without_return : List ℕ → List ℕ
without_return piece =
    if slice_index piece (length piece - 1) == 13 then take (length piece - 1) piece else piece

-- the lines of a text: each ends at a 0x0A or with the text, and loses one 0x0D just before its end
unfoldable pub lines_of : List ℕ → List (List ℕ)
lines_of text = map without_return (pieces_of text)
