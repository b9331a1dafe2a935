-- The entry line, and where keys and clicks go.
use Rattle.std.specs.Prelude.{ℕ, ◌-◌, List, Bool, ◌==◌, not, nat_lt, Option, Some, None, Result, Ok}
use Rattle.std.specs.Prelude.{Err, is_some, if◌then◌else◌}
use Rattle.ibos_kinds.specs.declared.names.Key.{Key}
use Rattle.ibos_kinds.specs.declared.names.Key.TheVariants.{Enter}
use Rattle.ibos_kinds.specs.declared.rule.Rule.{Rule}
use Rattle.ibos_kinds.specs.declared.rule.Rule.TheVariants.{U10, U12}
use Rattle.ibos_kinds.specs.Keyboard.{key_byte, key_breaks, typed}
use Rattle.ibos_kinds.specs.Screens.{chrome_rows, is_on_screen}
use Rattle.ibos_focus.specs.declared.focus.Spot.{Spot}
use Rattle.ibos_focus.specs.declared.focus.Spot.TheVariants.{Entry, Content}
use Rattle.ibos_focus.specs.declared.focus.KeyDone.{KeyDone}
use Rattle.ibos_focus.specs.declared.focus.KeyDone.TheVariants.{ToPage, Edited, Enter as Entered}
use Rattle.ibos_focus.specs.declared.focus.ClickDone.{ClickDone}
use Rattle.ibos_focus.specs.declared.focus.ClickDone.TheVariants.{Chrome, Entry as OnEntry}
use Rattle.ibos_focus.specs.declared.focus.ClickDone.TheVariants.{Content as OnContent}

-- the bytes of the entry line, and whether keys go there or to the content
pub record Focused : Type 0 where
  pub entry_line : List ℕ
  pub spot : Spot

-- an edit, unless it breaks a rule
abbrev pub edited : Option Rule → Result KeyDone Rule
edited None = Ok Edited
edited (Some rule) = Err rule

-- a key at the entry line; an Enter asks for an active tab
abbrev pub entry_key : List ℕ → Key → Bool → Result KeyDone Rule
entry_key entry Enter active = if active then Ok Entered else Err U10
entry_key entry key active = edited (key_breaks entry key)

-- a key at the content goes to the page, whichever it is
abbrev pub key_at : Spot → List ℕ → Key → Bool → Result KeyDone Rule
key_at Content entry key active = Ok (ToPage (key_byte key))
key_at Entry entry key active = entry_key entry key active

-- the answer to a key
abbrev pub key_of : Focused → Key → Bool → Result KeyDone Rule
key_of f key active = key_at f.spot f.entry_line key active

-- the entry line after a key; a refused one leaves it
abbrev pub entry_after : Spot → List ℕ → Key → List ℕ
entry_after Content entry key = entry
entry_after Entry entry key = if is_some (key_breaks entry key) then entry else typed entry key

abbrev pub after_key : Focused → Key → Focused
after_key f key = record f { entry_line = entry_after f.spot f.entry_line key }

-- the chrome's last row is the entry line's
abbrev pub entry_row : ℕ
entry_row = 2

-- the answer to a click; the rows of the content ask for an active tab, and are told as the content
-- counts them
abbrev pub click_of : (row col : ℕ) → Bool → Result ClickDone Rule
click_of row col active =
    if not (is_on_screen row col) then Err U12
    else if nat_lt row entry_row then Ok Chrome
    else if row == entry_row then Ok OnEntry
    else if active then Ok (OnContent (row - chrome_rows) col)
    else Err U10

-- where the keys go after a click that had this answer
abbrev pub spot_after : Spot → Result ClickDone Rule → Spot
spot_after spot (Ok Chrome) = spot
spot_after spot (Ok OnEntry) = Entry
spot_after spot (Ok (OnContent row col)) = Content
spot_after spot (Err rule) = spot

abbrev pub after_click : Focused → (row col : ℕ) → Bool → Focused
after_click f row col active = record f { spot = spot_after f.spot (click_of row col active) }
