-- The screen: three rows of chrome over the content of the instance that is shown.
use Rattle.std.specs.Prelude.{ℕ, ◌+◌, ◌-◌, ◌*◌, List, take, drop, replicate, Bool, nat_lt}
use Rattle.std.specs.Prelude.{slice_index, Option, Some, None, Result, Ok, Err, option_and_then}
use Rattle.std.specs.Prelude.{unwrap_or, is_some, if◌then◌else◌}
use Rattle.std.specs.List.{slice_index_or}
use Rattle.ibos_kinds.specs.declared.names.Instance.{Instance}
use Rattle.ibos_kinds.specs.declared.rule.Rule.{Rule}
use Rattle.ibos_kinds.specs.Screens.{columns, chrome_rows, space}

-- the contents of the instances that were added and not ended, each under its instance's place; the
-- instance that is shown; and the pixels of rows 0 to 2, row by row
pub record ScreenState : Type 0 where
  pub contents : List (Option (List ℕ))
  pub shown : Option Instance
  pub chrome : List ℕ

-- the place of an instance: tabs and ordinals are bytes
abbrev pub place_of : Instance → ℕ
place_of who = 256 * who.ord + who.tab

unfoldable pub content_in : List (Option (List ℕ)) → Instance → Option (List ℕ)
content_in contents who = if nat_lt who.tab 256 then slice_index_or contents (place_of who) None
    else None

-- the content of an instance, its rows one after the other
abbrev pub content_of : ScreenState → Instance → Option (List ℕ)
content_of f who = content_in f.contents who

-- the instance was added and not ended
abbrev pub is_open : ScreenState → Instance → Bool
is_open f who = is_some (content_of f who)

-- row r, column c of a content, or a space without one
abbrev pub pixel_in : Option (List ℕ) → ℕ → ℕ → ℕ
pixel_in None r c = space
pixel_in (Some pixels) r c = slice_index pixels (columns * r + c)

abbrev pub content_at : ScreenState → Instance → ℕ → ℕ → ℕ
content_at f who r c = pixel_in (content_of f who) r c

-- the content of the instance that is shown, if one is
abbrev pub shown_content : ScreenState → Option (List ℕ)
shown_content f = option_and_then (content_of f) f.shown

-- one of the rows that pixels make up
abbrev pub line_of : List ℕ → ℕ → List ℕ
line_of pixels r = take columns (drop (columns * r) pixels)

-- row r of 0 to 2
abbrev pub chrome_at : ScreenState → ℕ → List ℕ
chrome_at f r = line_of f.chrome r

-- row r of 0 to 24, column c of the screen: the chrome's rows, and then those of the content shown
unfoldable pub seen_at : ScreenState → ℕ → ℕ → ℕ
seen_at f r c = if nat_lt r chrome_rows then slice_index (chrome_at f r) c
    else pixel_in (shown_content f) (r - chrome_rows) c

-- the answer of a call that breaks a rule, or none
abbrev pub answer_of : Option Rule → Result Unit Rule
answer_of None = Ok tt
answer_of (Some rule) = Err rule

-- what rows 3 to 24 hold
abbrev pub body_of : List (Option (List ℕ)) → Option Instance → List ℕ
body_of contents shown = unwrap_or (option_and_then (content_in contents) shown)
    (replicate 1760 space)

-- the pixels of rows 0 to 2, and of rows 3 to 24
pub record Seen : Type 0 where
  pub chrome : List ℕ
  pub body : List ℕ
