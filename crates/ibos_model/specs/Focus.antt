-- Which tab is active, where keys go, and what stands in the entry line.
use Rattle.std.specs.Prelude.{ℕ, List, [], ◌∷◌, Bool, true, false, ◌&&◌, Option, Some, None, ◌==◌}
use Rattle.std.specs.Prelude.{nat_lt, if◌then◌else◌}
use Rattle.ibos_kinds.specs.declared.names.Instance.{Instance}
use Rattle.ibos_kinds.specs.declared.names.Key.{Key}
use Rattle.ibos_kinds.specs.declared.names.Key.TheVariants.{Enter}
use Rattle.ibos_kinds.specs.declared.act.Act.{Act}
use Rattle.ibos_kinds.specs.declared.act.Act.TheVariants.{Start, Switch, Close, Press, Click}
use Rattle.ibos_kinds.specs.Keyboard.{typed}
use Rattle.ibos_model.specs.Journal.{Journal, is_accepted, same}

-- what the user made of it
pub record Focus : Type 0 where
  -- the active tab
  pub tab : Option ℕ
  -- keys go to the entry line, and else to the active instance
  pub at_entry_line : Bool
  pub entry_line : List ℕ

abbrev pub no_focus : Focus
no_focus = record { tab = None; at_entry_line = true; entry_line = [] }

-- closing the active tab leaves none active
abbrev pub without : ℕ → Option ℕ → Option ℕ
without tab None = None
without tab (Some active) = if active == tab then None else Some active

abbrev pub active_by : Bool → Act → Option ℕ → Option ℕ
active_by ok (Start tab url) old = if ok then Some tab else old
active_by ok (Switch tab) old = if ok then Some tab else old
active_by ok (Close tab) old = if ok then without tab old else old
active_by ok other old = old

abbrev pub is_tab : ℕ → Option ℕ → Bool
is_tab tab None = false
is_tab tab (Some active) = active == tab

-- a click on rows 0 and 1 changes nothing, one on row 2 goes to the entry line, and one on the rows
-- behind to the content
abbrev pub clicked : ℕ → Bool → Bool
clicked row old = if nat_lt row 2 then old else row == 2

-- opening and switching go to the content, and so does Enter; closing the active tab goes to the
-- entry line
abbrev pub at_entry_line_by : Option ℕ → Bool → Act → Bool → Bool
at_entry_line_by active ok (Start tab url) old = if ok then false else old
at_entry_line_by active ok (Switch tab) old = if ok then false else old
at_entry_line_by active ok (Close tab) old = if ok && is_tab tab active then true else old
at_entry_line_by active ok (Press Enter) old = if ok then false else old
at_entry_line_by active ok (Click row col) old = if ok then clicked row old else old
at_entry_line_by active ok other old = old

-- an accepted Enter empties the entry line
abbrev pub entered : Key → List ℕ → List ℕ
entered Enter entry = []
entered key entry = typed entry key

abbrev pub entry_line_by : Bool → Bool → Act → List ℕ → List ℕ
entry_line_by at_entry_line ok (Press key) old = if ok && at_entry_line then entered key old
    else old
entry_line_by at_entry_line ok other old = old

abbrev pub focus_by : Bool → Act → Focus → Focus
focus_by ok act f = record {
  tab = active_by ok act f.tab;
  at_entry_line = at_entry_line_by f.tab ok act f.at_entry_line;
  entry_line = entry_line_by f.at_entry_line ok act f.entry_line;
}

-- the focus after a journal
unfoldable pub focus_of : Journal → Focus
focus_of [] = no_focus
focus_of (e ∷ J) = focus_by (is_accepted e) e.act (focus_of J)

-- the tab that was opened or switched to last, unless it was closed
abbrev pub active_tab : Journal → Option ℕ
active_tab J = (focus_of J).tab

abbrev pub is_active : Instance → Option Instance → Bool
is_active p None = false
is_active p (Some who) = same who p
