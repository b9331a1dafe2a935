-- Whether a line is the last.
use Rattle.std.proofs.Common.{◌≡◌, ℕ, ◌<◌, List, [], ◌∷◌, Bool, true, false, refl, ◌∙◌, length, map, arith}
use Rattle.std.proofs.lemmas.Bool.Decides.{nat_tests}
use Rattle.std.specs.Prelude.{if◌then◌else◌, ◌==◌}
use Rattle.ibos_text.specs.Lines.{lines_of, pieces_of, onto_first, without_return}
use Rattle.ibos_run.specs.Readings.{is_last}

not_last : (t : Bool) (b : ℕ) (pieces : List (List ℕ)) → is_last (map without_return (if t then [] ∷ pieces else onto_first b pieces)) ≡ false
not_last true b pieces = refl
not_last false b [] = refl
not_last false b (piece ∷ pieces) = refl

-- no line follows exactly where no byte does
pub is_last-lines_of : (text : List ℕ) → is_last (lines_of text) ≡ (length text == 0)
unfolding lines_of pieces_of
is_last-lines_of [] = refl
is_last-lines_of (b ∷ text) = not_last (b == 10) b (pieces_of text) ∙ none (length (b ∷ text)) (omega arith)
  where
    none : (n : ℕ) → 0 < n → false ≡ (n == 0)
    none n some = grind (arith, nat_tests)
