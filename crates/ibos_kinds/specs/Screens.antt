-- The screen's cells, 25 rows of 80: three rows are the chrome's, and 22 the content of a page.
-- What a draw makes of a content.
use Rattle.std.specs.Prelude.{ℕ, ◌+◌, ◌-◌, ◌*◌, List, ◌++◌, replicate, Bool, ◌==◌, ◌&&◌, not}
use Rattle.std.specs.Prelude.{nat_lt, nat_le, length, slice_index, Option, Some, None}
use Rattle.std.specs.Prelude.{if◌then◌else◌}
use Rattle.std.specs.List.{list_all}
use Rattle.ibos_kinds.specs.declared.rule.Rule.{Rule}
use Rattle.ibos_kinds.specs.declared.rule.Rule.TheVariants.{P3, P4}

-- a row of the screen has so many cells
abbrev pub columns : ℕ
columns = 80

-- the chrome has the first rows, and a page's content those behind
abbrev pub chrome_rows : ℕ
chrome_rows = 3

abbrev pub content_rows : ℕ
content_rows = 22

-- a cell of the screen
abbrev pub is_on_screen : ℕ → ℕ → Bool
is_on_screen row col = nat_lt row (chrome_rows + content_rows) && nat_lt col columns

-- a cell holds a printable byte; an empty one a space
abbrev pub is_pixel : ℕ → Bool
is_pixel b = nat_le 0x20 b && nat_le b 0x7e

abbrev pub space : ℕ
space = 0x20

-- a text as a row of the screen
abbrev pub padded : List ℕ → List ℕ
padded text = text ++ replicate (columns - length text) space

-- the region has cells, all of the content, and a pixel for each
unfoldable pub is_region : ℕ → ℕ → ℕ → ℕ → List ℕ → Bool
is_region row col height width pixels =
    nat_lt 0 height && nat_lt 0 width
    && nat_le (row + height) content_rows && nat_le (col + width) columns
    && length pixels == height * width

-- the first rule that a draw breaks: P3 is for the region, P4 for a pixel
unfoldable pub draw_breaks : ℕ → ℕ → ℕ → ℕ → List ℕ → Option Rule
draw_breaks row col height width pixels =
    if not (is_region row col height width pixels) then Some P3
    else if not (list_all is_pixel pixels) then Some P4
    else None

-- the region of a draw has the cell
unfoldable pub covers : ℕ → ℕ → ℕ → ℕ → ℕ → ℕ → Bool
covers row col height width r c = nat_le row r && nat_lt r (row + height) && nat_le col c
    && nat_lt c (col + width)

-- the pixel of a draw at a cell of its region: its rows come one after the other
unfoldable pub pixel_at : ℕ → ℕ → ℕ → List ℕ → ℕ → ℕ → ℕ
pixel_at row col width pixels r c = slice_index pixels ((r - row) * width + (c - col))

-- a cell after a draw, where it was `old` before
abbrev pub cell_after : ℕ → ℕ → ℕ → ℕ → List ℕ → ℕ → ℕ → ℕ → ℕ
cell_after row col height width pixels r c old =
    if covers row col height width r c then pixel_at row col width pixels r c else old
