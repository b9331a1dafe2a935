-- The screen of 25 rows of 80 cells: three rows that the chrome writes, and the content of the
-- active instance.
use Rattle.std.specs.Prelude.{ℕ, ◌+◌, ◌-◌, List, [], ◌∷◌, ◌++◌, zero, suc, Bool, ◌==◌, ◌&&◌, nat_lt}
use Rattle.std.specs.Prelude.{length, map, take, drop, slice_index, codes, decimal, Option, Some}
use Rattle.std.specs.Prelude.{None, if◌then◌else◌}
use Rattle.ibos_kinds.specs.declared.names.Instance.{Instance}
use Rattle.ibos_kinds.specs.declared.act.Act.{Act}
use Rattle.ibos_kinds.specs.declared.act.Act.TheVariants.{Draw}
use Rattle.ibos_kinds.specs.Screens.{columns, chrome_rows, space, is_pixel, cell_after, padded}
use Rattle.ibos_origin.specs.Hosts.{HostTable}
use Rattle.ibos_model.specs.Journal.{Journal, is_accepted, same}
use Rattle.ibos_model.specs.Focus.{Focus, focus_of}
use Rattle.ibos_model.specs.Tabs.{Tabs, tabs, active_in, active_of}

-- a byte as the chrome shows it: `?` for one that is not printable
abbrev pub chrome_byte : ℕ → ℕ
chrome_byte b = if is_pixel b then b else 63

abbrev pub place_text : Bool → List ℕ
place_text at_entry_line = if at_entry_line then codes " entry" else codes " page"

-- row 0, the state: which instance is active, and what gets the keys
unfoldable pub state_text : Option Instance → Bool → List ℕ
state_text None at_entry_line = codes "no tab"
state_text (Some who) at_entry_line = codes "tab " ++ decimal who.tab ++ codes "."
    ++ decimal who.ord ++ place_text at_entry_line

-- row 1, the address bar: the URL, cut where it is too long, which a `>` in the last cell says
unfoldable pub bar_text : List ℕ → List ℕ
bar_text url = map chrome_byte (if nat_lt columns (length url) then take 79 url ++ codes ">"
    else url)

abbrev pub bar_of : Tabs → Option Instance → List ℕ
bar_of t None = []
bar_of t (Some who) = bar_text (t.url who)

-- row 2, the entry line: the end of what is typed, with a `<` in the first cell where there is more
unfoldable pub entry_line_text : List ℕ → List ℕ
entry_line_text entry = map chrome_byte (if nat_lt columns (length entry) then codes "<"
    ++ drop (length entry - 79) entry else entry)

-- the texts of rows 0 to 2
abbrev pub chrome_in : Tabs → Focus → ℕ → List ℕ
chrome_in t f zero = state_text (active_in t f) f.at_entry_line
chrome_in t f (suc zero) = bar_of t (active_in t f)
chrome_in t f (suc (suc r)) = entry_line_text f.entry_line

abbrev pub chrome_of : HostTable → Journal → ℕ → List ℕ
chrome_of H J r = chrome_in (tabs H J) (focus_of J) r

-- a cell of an instance's content, by a draw or as it was
abbrev pub cell_by : Instance → ℕ → ℕ → Bool → Act → ℕ → ℕ
cell_by p r c ok (Draw who row col height width pixels) old = if ok && same who p
    then cell_after row col height width pixels r c old else old
cell_by p r c ok other old = old

-- a cell of an instance's content: that of its last accepted draw which has the cell, or a space
unfoldable pub cell_of : Journal → Instance → ℕ → ℕ → ℕ
cell_of [] p r c = space
cell_of (e ∷ J) p r c = cell_by p r c (is_accepted e) e.act (cell_of J p r c)

abbrev pub content_cell : Journal → Option Instance → ℕ → ℕ → ℕ
content_cell J None r c = space
content_cell J (Some who) r c = cell_of J who r c

-- the screen after a journal, by row and column
unfoldable pub screen : HostTable → Journal → ℕ → ℕ → ℕ
screen H J r c =
    if nat_lt r chrome_rows then slice_index (padded (chrome_of H J r)) c
    else content_cell J (active_of H J) (r - chrome_rows) c

-- the cells of a row
abbrev pub cells_from : ℕ → ℕ → (ℕ → ℕ) → List ℕ
cells_from c zero f = []
cells_from c (suc n) f = f c ∷ cells_from (c + 1) n f

abbrev pub trimmed_onto : ℕ → List ℕ → List ℕ
trimmed_onto b [] = if b == space then [] else b ∷ []
trimmed_onto b (c ∷ bytes) = b ∷ c ∷ bytes

-- a row without the spaces at its end
abbrev pub trimmed : List ℕ → List ℕ
trimmed [] = []
trimmed (b ∷ bytes) = trimmed_onto b (trimmed bytes)

-- what the user sees of a row
unfoldable pub seen_row : (ℕ → ℕ → ℕ) → ℕ → List ℕ
seen_row cells r = trimmed (cells_from 0 columns (cells r))
