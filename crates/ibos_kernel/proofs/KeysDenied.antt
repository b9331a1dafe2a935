-- A key that is refused is denied.
use Rattle.std.proofs.Common.{◌≡◌, ℕ, List, Option, Some, None, Ok, Err, Result, sym, ap}
use Rattle.std.specs.Prelude.{is_some, if◌then◌else◌}
use Rattle.ibos_kinds.specs.declared.names.Instance.{Instance}
use Rattle.ibos_kinds.specs.declared.names.Key.{Key}
use Rattle.ibos_kinds.specs.declared.names.Key.TheVariants.{Byte, Enter, Back}
use Rattle.ibos_kinds.specs.declared.rule.Rule.{Rule}
use Rattle.ibos_kinds.specs.declared.rule.Rule.TheVariants.{U10}
use Rattle.ibos_kinds.specs.Keyboard.{key_breaks}
use Rattle.ibos_origin.specs.Hosts.{HostTable}
use Rattle.ibos_origin.specs.Pages.{Page, allowed}
use Rattle.ibos_page.specs.Tabs.{TabTable, active_in}
use Rattle.ibos_focus.specs.declared.focus.Spot.{Spot}
use Rattle.ibos_focus.specs.declared.focus.Spot.TheVariants.{Entry, Content}
use Rattle.ibos_focus.specs.declared.focus.KeyDone.{KeyDone}
use Rattle.ibos_focus.specs.declared.focus.KeyDone.TheVariants.{Enter as Entered}
use Rattle.ibos_focus.specs.Focused.{key_at, edited}
use Rattle.ibos_model.specs.Outcomes.{answer, denied, page_key_outcome}
use Rattle.ibos_kernel.specs.Tables.{entry_key_at, enter_at, is_entry}

abbrev rule_of : Rule → Result KeyDone Rule → Rule
rule_of other (Ok done) = other
rule_of other (Err rule) = rule

edit_denied : (broken : Option Rule) (rule : Rule) → edited broken ≡ Err rule → denied rule ≡ answer broken
edit_denied None rule h = absurd (cc h)
edit_denied (Some other) rule h = ap denied (sym (ap (rule_of other) h))

enter_denied : (t : TabTable) (active : Option Instance) (r : Result Page Rule) (rule : Rule) → (if is_some active then Ok Entered else Err U10) ≡ Err rule → denied rule ≡ enter_at t active r
enter_denied t None r rule h = ap denied (sym (ap (rule_of U10) h))
enter_denied t (Some who) r rule h = absurd (cc h)

pub key_denied : (H : HostTable) (t : TabTable) (spot : Spot) (entry : List ℕ) (key : Key) (rule : Rule) → key_at spot entry key (is_some (active_in t)) ≡ Err rule
    → denied rule ≡ (if is_entry spot then entry_key_at H t entry key else page_key_outcome (active_in t) key)
key_denied H t Content entry key rule h = absurd (cc h)
key_denied H t Entry entry (Byte byte) rule h = edit_denied (key_breaks entry (Byte byte)) rule h
key_denied H t Entry entry Back rule h = edit_denied (key_breaks entry Back) rule h
key_denied H t Entry entry Enter rule h = enter_denied t (active_in t) (allowed H entry) rule h
