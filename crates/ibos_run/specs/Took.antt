-- What a sink took of a text.
use Rattle.std.specs.Prelude.{◌≡◌, ℕ, List, ◌++◌, Option}
use Rattle.ibos_kinds.specs.Outside.{taken_after}

-- From `first` to `now` a front of the whole was taken, and `rest` is what stands behind it.
pub record Took (first now : Option (List ℕ)) (rest whole : List ℕ) : Type 0 where
  pub front : List ℕ
  pub taken : now ≡ taken_after first front
  pub is : front ++ rest ≡ whole

-- A front of the whole was taken, and what is gathered goes on from there.
abbrev pub TookFront : Option (List ℕ) → Option (List ℕ) → List ℕ → List ℕ → Type 0
TookFront first now gathered whole = (rest : List ℕ) × Took first now (gathered ++ rest) whole
