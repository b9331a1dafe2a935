-- The text of a run: the lines of each entry, numbered from 1, and a last line.
use Rattle.std.specs.Prelude.{ℕ, ◌+◌, List, [], ◌∷◌, ◌++◌, length, codes, decimal}
use Rattle.ibos_outcome.specs.Printed.{outcome_text}
use Rattle.ibos_model.specs.Journal.{Journal}

-- the lines of the entries
abbrev pub text_of : Journal → List ℕ
text_of [] = []
text_of (e ∷ J) = text_of J ++ outcome_text (length J + 1) e.outcome

-- the last line of a run whose inputs were read to their end
unfoldable pub end_line : ℕ → List ℕ
end_line acts = codes "end " ++ decimal acts ++ codes "\n"
