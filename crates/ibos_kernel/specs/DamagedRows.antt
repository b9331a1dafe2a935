-- The rows of the chrome that an act may change.
use Rattle.std.specs.Prelude.{ℕ, zero, suc, Bool, true, false, ◌==◌, nat_lt}
use Rattle.ibos_kinds.specs.declared.act.Act.{Act}
use Rattle.ibos_kinds.specs.declared.act.Act.TheVariants.{Start, Switch, Close, Press, Click, Go}
use Rattle.ibos_kinds.specs.declared.names.Key.{Key}
use Rattle.ibos_kinds.specs.declared.names.Key.TheVariants.{Enter}
use Rattle.ibos_page.specs.Tabs.{TabTable}
use Rattle.ibos_focus.specs.Focused.{Focused}
use Rattle.ibos_focus.specs.declared.focus.Spot.{Spot}
use Rattle.ibos_focus.specs.declared.focus.Spot.TheVariants.{Entry, Content}
use Rattle.ibos_model.specs.Focus.{is_tab}
use Rattle.ibos_kernel.specs.declared.damage.Damage.{Damage}

abbrev pub no_damage : Damage
no_damage = record { state = false; bar = false; entry = false }

-- another instance is the active one, or it shows another URL; what is typed stays
abbrev pub tab_damage : Bool → Damage
tab_damage is_active = record { state = is_active; bar = is_active; entry = false }

-- a key for the page changes no row; one at the entry line changes what stands there, and an Enter
-- the active instance and its focus too
abbrev pub key_damage : Spot → Key → Damage
key_damage Content key = no_damage
key_damage Entry Enter = record { state = true; bar = true; entry = true }
key_damage Entry key = record { state = false; bar = false; entry = true }

-- a click that moves the focus
abbrev pub moves : Spot → ℕ → Bool
moves Entry row = nat_lt 2 row
moves Content row = row == 2

abbrev pub click_damage : Spot → ℕ → Damage
click_damage spot row = record { state = moves spot row; bar = false; entry = false }

-- the rows whose texts an act may change, if it is accepted
abbrev pub damage_of : TabTable → Focused → Act → Damage
damage_of t f (Start tab url) = tab_damage true
damage_of t f (Switch tab) = tab_damage true
damage_of t f (Close tab) = tab_damage (is_tab tab t.active)
damage_of t f (Go who url) = tab_damage (is_tab who.tab t.active)
damage_of t f (Press key) = key_damage f.spot key
damage_of t f (Click row col) = click_damage f.spot row
damage_of t f other = no_damage

-- row r of 0 to 2 is one of them
abbrev pub is_damaged : Damage → ℕ → Bool
is_damaged d zero = d.state
is_damaged d (suc zero) = d.bar
is_damaged d (suc (suc r)) = d.entry
