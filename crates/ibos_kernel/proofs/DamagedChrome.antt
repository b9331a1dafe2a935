-- The rows that are not damaged keep their texts.
use Rattle.std.proofs.Common.{◌≡◌, ◌≢◌, ℕ, zero, suc, ◌<◌, Bool, true, false, List, Option, Some, None, Result, Ok, Err, refl, sym, ◌∙◌, ap, subst, arith}
use Rattle.std.specs.Prelude.{◌==◌, ◌&&◌, if◌then◌else◌}
use Rattle.std.proofs.lemmas.Bool.Decides.{nat_tests}
use Rattle.std.proofs.lemmas.List.{get_or-set_other}
use Rattle.ibos_kinds.specs.declared.act.Act.{Act}
use Rattle.ibos_kinds.specs.declared.act.Act.TheVariants.{Start, Switch, Close, Press, Click, Go}
use Rattle.ibos_kinds.specs.declared.names.Key.{Key}
use Rattle.ibos_kinds.specs.declared.names.Key.TheVariants.{Byte, Enter, Back}
use Rattle.ibos_kinds.specs.declared.outcome.Outcome.{Outcome}
use Rattle.ibos_kinds.specs.declared.names.Instance.{Instance}
use Rattle.ibos_kinds.specs.declared.rule.Rule.{Rule}
use Rattle.ibos_kinds.specs.Screens.{padded}
use Rattle.ibos_origin.specs.Pages.{Page, allowed}
use Rattle.ibos_page.specs.Seats.{Seat}
use Rattle.ibos_page.specs.Tabs.{TabTable, seat_at, live_in, active_in, empty_seat, closed, with_seat, without}
use Rattle.ibos_focus.specs.Focused.{Focused}
use Rattle.ibos_focus.specs.declared.focus.Spot.{Spot}
use Rattle.ibos_focus.specs.declared.focus.Spot.TheVariants.{Entry, Content}
use Rattle.ibos_frame.specs.ScreenStates.{chrome_at, line_of}
use Rattle.ibos_model.specs.Journal.{is_ok}
use Rattle.ibos_model.specs.Focus.{is_tab, at_entry_line_by, clicked, entry_line_by}
use Rattle.ibos_model.specs.Screen.{state_text, bar_text, entry_line_text}
use Rattle.ibos_kernel.specs.declared.damage.Damage.{Damage}
use Rattle.ibos_kernel.specs.DamagedRows.{damage_of, is_damaged, key_damage, moves}
use Rattle.ibos_kernel.specs.Tables.{Parts, IsComposed, Makes, bar_at, chrome_by, focus_after, is_entry, spot_of, tabs_after, url_with, with_gone, with_pressed}

-- the active instance and its URL are the same
record TabSame (t u : TabTable) : Type 0 where
  active : active_in u ≡ active_in t
  bar : bar_at u (active_in u) ≡ bar_at t (active_in t)

stays : (t : TabTable) → TabSame t t
stays t = record { active = refl; bar = refl }

bar_live : (t u : TabTable) (a : ℕ) → seat_at u a ≡ seat_at t a → bar_at u (live_in a (seat_at t a)) ≡ bar_at t (live_in a (seat_at t a))
bar_live t u a same = by_page (seat_at t a).page (seat_at t a).count
  where
    by_page : (page : Option Page) (count : ℕ) → bar_at u (live_in a (record { count = count; page = page })) ≡ bar_at t (live_in a (record { count = count; page = page }))
    by_page None count = refl
    by_page (Some page) count = ap (λ (s : Seat). bar_text (url_with s.page)) same

same_seat : (t u : TabTable) → u.active ≡ t.active → ((a : ℕ) → t.active ≡ Some a → seat_at u a ≡ seat_at t a) → TabSame t u
same_seat t u is same = by_active t.active refl
  where
    by_active : (active : Option ℕ) → t.active ≡ active → TabSame t u
    by_active None none = record { active = rw (is, none) refl; bar = rw (is, none) refl }
    by_active (Some a) here =
        let seat : seat_at u a ≡ seat_at t a = same a here in
        record { active = rw (is, here, seat) refl; bar = rw (is, here, seat) (bar_live t u a seat) }

differs : (tab a : ℕ) (active : Option ℕ) → is_tab tab active ≡ false → active ≡ Some a → a ≢ tab
differs tab a None other here = absurd (cc here)
differs tab a (Some b) other here =
    let no : (b == tab) ≡ false = other in
    let one : b ≡ a = ap (λ o. is_some_or a o) here in
    λ e. grind (arith, nat_tests, no, one, e)
  where
    is_some_or : ℕ → Option ℕ → ℕ
    is_some_or other None = other
    is_some_or other (Some x) = x

other_seat : (t : TabTable) (tab : ℕ) (seat : Seat) → is_tab tab t.active ≡ false → TabSame t (with_seat t tab seat)
other_seat t tab seat other = same_seat t (with_seat t tab seat) refl (λ a here. get_or-set_other t.seats tab a seat empty_seat (differs tab a t.active other here))

without_other : (tab : ℕ) (active : Option ℕ) → is_tab tab active ≡ false → without tab active ≡ active
without_other tab None other = refl
without_other tab (Some a) other = rw other refl

other_closed : (t : TabTable) (tab : ℕ) → is_tab tab t.active ≡ false → TabSame t (record (with_seat t tab (closed (seat_at t tab))) { active = without tab t.active })
other_closed t tab other = same_seat t _ (without_other tab t.active other) (λ a here. get_or-set_other t.seats tab a (closed (seat_at t tab)) empty_seat (differs tab a t.active other here))

if_same : (t u : TabTable) (ok : Bool) → TabSame t u → TabSame t (if ok then u else t)
if_same t u true same = same
if_same t u false same = stays t

gone_same : (t : TabTable) (who : Instance) (r : Result Page Rule) → is_tab who.tab t.active ≡ false → TabSame t (with_gone t who r)
gone_same t who (Ok page) other = other_seat t who.tab _ other
gone_same t who (Err rule) other = stays t

not_both : {A : Type 0} (ok : Bool) (x y : A) → (if ok && false then x else y) ≡ y
not_both true x y = refl
not_both false x y = refl

pressed_same : (old : Parts) (ok : Bool) (key : Key) (spot : Spot) → old.focus.spot ≡ spot → (key_damage spot key).bar ≡ false → TabSame old.tabs (with_pressed old.hosts old.tabs old.focus ok key)
pressed_same old ok (Byte byte) spot is none = stays old.tabs
pressed_same old ok Back spot is none = stays old.tabs
pressed_same old ok Enter Entry is none = absurd (cc none)
pressed_same old ok Enter Content is none =
    let P : TabTable → Type 0 = TabSame old.tabs in
    rw is (subst P (sym (not_both ok _ old.tabs)) (stays old.tabs))

tabs_same : (old : Parts) (ok : Bool) (act : Act) → (damage_of old.tabs old.focus act).bar ≡ false → TabSame old.tabs (tabs_after old ok act)
tabs_same old ok (Start tab url) none = absurd (cc none)
tabs_same old ok (Switch tab) none = absurd (cc none)
tabs_same old ok (Close tab) none = if_same old.tabs _ ok (other_closed old.tabs tab none)
tabs_same old ok (Go who url) none = if_same old.tabs _ ok (gone_same old.tabs who (allowed old.hosts url) none)
tabs_same old ok (Press key) none = pressed_same old ok key old.focus.spot refl none
tabs_same old ok other none = stays old.tabs

-- ---- the focus is where it was

entry_of_spot : (b : Bool) → is_entry (spot_of b) ≡ b
entry_of_spot true = refl
entry_of_spot false = refl

if_ok : (ok : Bool) (x y : Bool) → x ≡ y → (if ok then x else y) ≡ y
if_ok true x y same = same
if_ok false x y same = refl

press_stays : (active : Option ℕ) (ok : Bool) (key : Key) (spot : Spot) → (key_damage spot key).state ≡ false → at_entry_line_by active ok (Press key) (is_entry spot) ≡ is_entry spot
press_stays active ok (Byte byte) spot none = refl
press_stays active ok Back spot none = refl
press_stays active ok Enter Entry none = absurd (cc none)
press_stays active ok Enter Content none = if_ok ok false false refl

click_stays : (row : ℕ) (spot : Spot) → moves spot row ≡ false → clicked row (is_entry spot) ≡ is_entry spot
click_stays row Entry none = grind (arith, nat_tests, none)
click_stays row Content none = grind (arith, nat_tests, none)

keys_stay : (old : Parts) (ok : Bool) (act : Act) → (damage_of old.tabs old.focus act).state ≡ false → at_entry_line_by old.tabs.active ok act (is_entry old.focus.spot) ≡ is_entry old.focus.spot
keys_stay old ok (Start tab url) none = absurd (cc none)
keys_stay old ok (Switch tab) none = absurd (cc none)
keys_stay old ok (Close tab) none = rw none (not_both ok true (is_entry old.focus.spot))
keys_stay old ok (Press key) none = press_stays old.tabs.active ok key old.focus.spot none
keys_stay old ok (Click row col) none = if_ok ok _ _ (click_stays row old.focus.spot none)
keys_stay old ok other none = refl

-- ---- what is typed stands

press_types : (ok : Bool) (key : Key) (spot : Spot) (entry : List ℕ) → (key_damage spot key).entry ≡ false → entry_line_by (is_entry spot) ok (Press key) entry ≡ entry
press_types ok (Byte byte) Entry entry none = absurd (cc none)
press_types ok Back Entry entry none = absurd (cc none)
press_types ok Enter Entry entry none = absurd (cc none)
press_types ok key Content entry none = not_both ok _ entry

entry_same : (old : Parts) (ok : Bool) (act : Act) → (damage_of old.tabs old.focus act).entry ≡ false → (focus_after old ok act).entry_line ≡ old.focus.entry_line
entry_same old ok (Press key) none = press_types ok key old.focus.spot old.focus.entry_line none
entry_same old ok other none = refl

-- ---- the rows

bar_too : (t : TabTable) (f : Focused) (act : Act) → (damage_of t f act).state ≡ false → (damage_of t f act).bar ≡ false
bar_too t f (Close tab) none = none
bar_too t f (Go who url) none = none
bar_too t f (Press key) none = key_bar f.spot key none
  where
    key_bar : (spot : Spot) (k : Key) → (key_damage spot k).state ≡ false → (key_damage spot k).bar ≡ false
    key_bar Content k h = refl
    key_bar Entry Enter h = absurd (cc h)
    key_bar Entry (Byte byte) h = refl
    key_bar Entry Back h = refl
bar_too t f (Start tab url) none = absurd (cc none)
bar_too t f (Switch tab) none = absurd (cc none)
bar_too t f other none = refl

row_same : (old : Parts) (ok : Bool) (act : Act) (r : ℕ) → is_damaged (damage_of old.tabs old.focus act) r ≡ false → chrome_by (tabs_after old ok act) (focus_after old ok act) r ≡ chrome_by old.tabs old.focus r
row_same old ok act zero none =
    let tabs = tabs_same old ok act (bar_too old.tabs old.focus act none) in
    let spot = entry_of_spot (at_entry_line_by old.tabs.active ok act (is_entry old.focus.spot)) ∙ keys_stay old ok act none in
    ap (λ who. state_text who (is_entry (focus_after old ok act).spot)) tabs.active ∙ ap (state_text (active_in old.tabs)) spot
row_same old ok act (suc zero) none = (tabs_same old ok act none).bar
row_same old ok act (suc (suc r)) none = ap entry_line_text (entry_same old ok act none)

-- a row that is not damaged has the text that belongs there after the act
pub rest_kept : (old new : Parts) (act : Act) (outcome : Outcome) (d : Damage) → d ≡ damage_of old.tabs old.focus act → IsComposed old.tabs old.screen old.focus → Makes old act outcome new
    → (r : ℕ) → r < 3 → is_damaged d r ≡ false → chrome_at new.screen r ≡ padded (chrome_by new.tabs new.focus r)
rest_kept old new act outcome d is composed makes r low none =
    let ok = is_ok outcome.head in
    let same : chrome_by (tabs_after old ok act) (focus_after old ok act) r ≡ chrome_by old.tabs old.focus r = row_same old ok act r (sym (ap (λ (e : Damage). is_damaged e r) is) ∙ none) in
    ap (λ pixels. line_of pixels r) makes.chrome_is ∙ composed.chrome r low ∙ ap padded (sym same)
    ∙ ap (λ (t : TabTable). padded (chrome_by t (focus_after old ok act) r)) (sym makes.tabs_are) ∙ ap (λ (f : Focused). padded (chrome_by new.tabs f r)) (sym makes.focus_is)

-- where all rows are damaged none stays
pub all_damaged : (r : ℕ) → is_damaged (record { state = true; bar = true; entry = true }) r ≡ false → ⊥
all_damaged zero none = cc
all_damaged (suc zero) none = cc
all_damaged (suc (suc r)) none = cc
