-- The screen's parts after an act show what the journal's views say after it.
use Rattle.std.proofs.Common.{◌≡◌, ℕ, ◌+◌, ◌-◌, ◌<◌, ◌≤◌, Bool, true, false, List, ◌∷◌, length, Option, Some, None, Ok, Err, Result, refl, sym, ◌∙◌, ap, subst, arith}
use Rattle.std.specs.Prelude.{bytes_eq, nat_lt, is_some, ◌&&◌, ◌==◌, if◌then◌else◌}
use Rattle.std.proofs.lemmas.Bool.Decides.{nat_tests}
use Rattle.std.proofs.Math.ListN.{get_or-eq_default}
use Rattle.ibos_kinds.specs.declared.names.Instance.{Instance}
use Rattle.ibos_kinds.specs.declared.names.Key.TheVariants.{Enter}
use Rattle.ibos_kinds.specs.declared.rule.Rule.{Rule}
use Rattle.ibos_kinds.specs.declared.rule.Rule.TheVariants.{U3}
use Rattle.ibos_kinds.specs.declared.act.Act.{Act}
use Rattle.ibos_kinds.specs.declared.act.Act.TheVariants.{Start, Switch, Close, Press, Go, Draw}
use Rattle.ibos_kinds.specs.declared.outcome.Outcome.{Outcome}
use Rattle.ibos_kinds.specs.Limits.{Fits}
use Rattle.ibos_nic.specs.declared.log.LogEntry.{LogEntry}
use Rattle.ibos_kinds.specs.Screens.{space, cell_after as drawn_cell}
use Rattle.ibos_origin.specs.Pages.{Page, allowed}
use Rattle.ibos_page.specs.Seats.{Seat}
use Rattle.ibos_page.specs.Tabs.{TabTable, seat_at, live_at, live_in, active_in, is_live_in, admission, empty_seat, opened, moved, closed, with_seat}
use Rattle.ibos_frame.specs.ScreenStates.{content_at}
use Rattle.ibos_model.specs.Journal.{Journal, is_ok, same}
use Rattle.ibos_model.specs.Focus.{focus_of, at_entry_line_by}
use Rattle.ibos_model.specs.Screen.{cell_of, cell_by}
use Rattle.ibos_model.specs.Outcomes.{denied, start_outcome}
use Rattle.ibos_kernel.specs.Tables.{Parts, IsTied, is_entry, is_live, spot_of, origin_at, let_in, with_started, with_gone, with_entered, tabs_after, Serves}
use Rattle.ibos_kernel.specs.Standing.{PartsStand, Displays, entry}
use Rattle.ibos_kernel.proofs.TabsStanding.{seat-with, page_there}
use Rattle.ibos_kernel.proofs.Outcomes.{outcome_seen, lives_if, active_lives}

pub start_page : (live : Option Instance) (next : Instance) (r : Result Page Rule) → is_ok (start_outcome live next r).head ≡ true → (page : Page) × (r ≡ Ok page)
start_page (Some who) next r ok = absurd (cc ok)
start_page None next (Ok page) ok = (page, refl)
start_page None next (Err rule) ok = absurd (denied_either (nat_lt next.ord 32) ok)
  where
    denied_either : (room : Bool) → is_ok (if room then denied rule else denied U3).head ≡ true → ⊥
    denied_either true h = cc
    denied_either false h = cc

pub let_in_ok : (rule : Option Rule) (row : Outcome) → is_ok (let_in rule row).head ≡ true → (rule ≡ None) × (is_ok row.head ≡ true)
let_in_ok None row ok = (refl, ok)
let_in_ok (Some rule) row ok = absurd (cc ok)

-- a tab with a live instance is one of the 64
pub active_within : (t : TabTable) (who : Instance) → length t.seats ≡ 64 → live_at t who.tab ≡ Some who → who.tab < 64
active_within t who room lives = by_test (nat_lt who.tab 64) refl
  where
    not_live : live_in who.tab empty_seat ≡ Some who → who.tab < 64
    not_live h = cc

    by_test : (within : Bool) → nat_lt who.tab 64 ≡ within → who.tab < 64
    by_test true within = grind (arith, nat_tests)
    by_test false past =
        let out : length t.seats ≤ who.tab = grind (arith, nat_tests, room) in
        not_live (rw (get_or-eq_default t.seats empty_seat out) at lives)

-- ---- tabs have no fewer instances, and one that lives and did not live before is new

record GrowsSeat (old new : Seat) : Type 0 where
  count : old.count ≤ new.count
  fresh : (q : Instance) → is_live_in q new ≡ true → is_live_in q old ≡ false → old.count ≤ q.ord

pub record Grows (old new : TabTable) : Type 0 where
  pub count : (tab : ℕ) → (seat_at old tab).count ≤ (seat_at new tab).count
  pub fresh : (q : Instance) → is_live new q ≡ true → is_live old q ≡ false → (seat_at old q.tab).count ≤ q.ord

stays : (t : TabTable) → Grows t t
stays t = record { count = λ tab. omega arith; fresh = λ q now before. absurd (both (is_live t q) now before) }
  where
    both : (b : Bool) → b ≡ true → b ≡ false → ⊥
    both true h i = cc
    both false h i = cc

opened_grows : (page : Page) (seat : Seat) → GrowsSeat seat (opened page seat)
opened_grows page seat = record { count = omega arith; fresh = λ q now before. grind (arith, nat_tests, now) }

closed_grows : (seat : Seat) → GrowsSeat seat (closed seat)
closed_grows seat = record { count = omega arith; fresh = λ q now before. cc }

moved_grows : (page : Page) (seat : Seat) → is_some seat.page ≡ true → GrowsSeat seat (moved page seat)
moved_grows page seat there = record { count = omega arith; fresh = λ q now before. grind (arith, nat_tests, now, before, there) }

seat_grows : (t : TabTable) (tab : ℕ) (seat : Seat) → length t.seats ≡ 64 → tab < 64 → GrowsSeat (seat_at t tab) seat → Grows t (with_seat t tab seat)
seat_grows t tab seat room within grows = record {
  count = λ other. rw (seat-with t tab other seat room within) (count_by other (other == tab) refl);
  fresh = λ q. rw (seat-with t tab q.tab seat room within) (fresh_by q (q.tab == tab) refl);
}
  where
    count_by : (other : ℕ) (here : Bool) → (other == tab) ≡ here → (seat_at t other).count ≤ (if here then seat else seat_at t other).count
    count_by other true is = let e : other ≡ tab = grind (arith, nat_tests) in rw e grows.count
    count_by other false is = omega arith

    fresh_by : (q : Instance) (here : Bool) → (q.tab == tab) ≡ here → is_live_in q (if here then seat else seat_at t q.tab) ≡ true → is_live t q ≡ false → (seat_at t q.tab).count ≤ q.ord
    fresh_by q true is = let e : q.tab ≡ tab = grind (arith, nat_tests) in rw e (grows.fresh q)
    fresh_by q false is = (stays t).fresh q

started_grows : (t : TabTable) (tab : ℕ) (r : Result Page Rule) → length t.seats ≡ 64 → tab < 64 → Grows t (with_started t tab r)
started_grows t tab (Err rule) room within = stays t
started_grows t tab (Ok page) room within =
    let grows = seat_grows t tab (opened page (seat_at t tab)) room within (opened_grows page (seat_at t tab)) in
    record { count = grows.count; fresh = grows.fresh }

gone_grows : (t : TabTable) (who : Instance) (r : Result Page Rule) → length t.seats ≡ 64 → live_at t who.tab ≡ Some who → Grows t (with_gone t who r)
gone_grows t who (Err rule) room lives = stays t
gone_grows t who (Ok page) room lives = seat_grows t who.tab _ room (active_within t who room lives) (by_origin (bytes_eq page.origin (origin_at t who)))
  where
    by_origin : (one : Bool) → GrowsSeat (seat_at t who.tab) (if one then moved page (seat_at t who.tab) else opened page (seat_at t who.tab))
    by_origin true = moved_grows page (seat_at t who.tab) (page_there who.tab ((seat_at t who.tab).count - 1) (seat_at t who.tab).page who lives)
    by_origin false = opened_grows page (seat_at t who.tab)

if_grows : (t u : TabTable) (ok : Bool) → (ok ≡ true → Grows t u) → Grows t (if ok then u else t)
if_grows t u true grows = grows refl
if_grows t u false grows = stays t

ok_of : (outcome row : Outcome) → outcome ≡ row → is_ok outcome.head ≡ true → is_ok row.head ≡ true
ok_of outcome row is accepted = ap (λ (o : Outcome). is_ok o.head) (sym is) ∙ accepted

entered_grows : (t : TabTable) (active : Option Instance) (r : Result Page Rule) → length t.seats ≡ 64 → ((who : Instance) → active ≡ Some who → live_at t who.tab ≡ Some who) → Grows t (with_entered t active r)
entered_grows t None r room lives = stays t
entered_grows t (Some who) r room lives = gone_grows t who r room (lives who refl)

pub tabs_grow : (t : Parts) (act : Act) (outcome : Outcome) → length t.tabs.seats ≡ 64 → Fits act → outcome ≡ outcome_seen t act → Grows t.tabs (tabs_after t (is_ok outcome.head) act)
tabs_grow t (Start tab url) outcome room fits is = if_grows t.tabs _ _ (λ ok. started_grows t.tabs tab (allowed t.hosts url) room fits)
tabs_grow t (Switch tab) outcome room fits is = if_grows t.tabs _ _ (λ ok. record { count = (stays t.tabs).count; fresh = (stays t.tabs).fresh })
tabs_grow t (Close tab) outcome room fits is = if_grows t.tabs _ _ (λ ok.
    let grows = seat_grows t.tabs tab (closed (seat_at t.tabs tab)) room fits (closed_grows (seat_at t.tabs tab)) in
    record { count = grows.count; fresh = grows.fresh })
tabs_grow t (Press Enter) outcome room fits is = if_grows t.tabs _ _ (λ ok. entered_grows t.tabs (active_in t.tabs) (allowed t.hosts t.focus.entry_line) room (active_lives t.tabs))
tabs_grow t (Go who url) outcome room fits is = if_grows t.tabs _ _ (λ ok.
    gone_grows t.tabs who (allowed t.hosts url) room (lives_if t.tabs who (let_in_ok (admission t.tabs who) _ (ok_of outcome _ is ok)).0))
tabs_grow t other outcome room fits is = stays t.tabs

-- ---- the views

entry_of_spot : (b : Bool) → is_entry (spot_of b) ≡ b
entry_of_spot true = refl
entry_of_spot false = refl

-- an instance that never started drew nothing
undrawn : (t : Parts) (act : Act) (outcome : Outcome) (q : Instance) (r c : ℕ) → IsTied t.tabs t.screen t.focus → outcome ≡ outcome_seen t act → (seat_at t.tabs q.tab).count ≤ q.ord
    → cell_by q r c (is_ok outcome.head) act space ≡ space
undrawn t (Draw who row col height width pixels) outcome q r c tied is past = by_ok (is_ok outcome.head) refl (same who q) refl
  where
    drew : is_ok outcome.head ≡ true → same who q ≡ true → ⊥
    drew ok one =
        let lives = lives_if t.tabs who (let_in_ok (admission t.tabs who) _ (ok_of outcome _ is ok)).0 in
        let newest : who.ord + 1 ≡ (seat_at t.tabs who.tab).count = tied.beside.newest who.tab who lives in
        let e : who ≡ q = grind (arith, nat_tests, one) in
        let P : Instance → Type 0 = λ p. p.ord + 1 ≡ (seat_at t.tabs p.tab).count in
        let there : q.ord + 1 ≡ (seat_at t.tabs q.tab).count = subst P e newest in
        omega (arith, there, past)

    by_ok : (ok : Bool) → is_ok outcome.head ≡ ok → (one : Bool) → same who q ≡ one → (if ok && one then drawn_cell row col height width pixels r c space else space) ≡ space
    by_ok true accepted true one = absurd (drew accepted one)
    by_ok true accepted false one = refl
    by_ok false denied one is_one = refl
undrawn t other outcome q r c tied is past = refl

pub step_displays : (J : Journal) (old new : Parts) (act : Act) (outcome : Outcome) (log : List LogEntry) → PartsStand J old → Fits act → Serves old act outcome new → outcome ≡ outcome_seen old act
    → Displays (entry act outcome log ∷ J) new
unfolding focus_of cell_of
step_displays J old new act outcome log stands fits serves outcome_is = record {
  spot = rw (stands.active, stands.displays.spot, serves.focus_is) (sym (entry_of_spot (at_entry_line_by old.tabs.active (is_ok outcome.head) act (is_entry old.focus.spot))));
  entry_line = rw (stands.displays.spot, stands.displays.entry_line, serves.focus_is) refl;
  cells = λ q r c low left live. serves.cells_are q r c low left live ∙ ap (cell_by q r c (is_ok outcome.head) act) (before q r c low left live (is_live old.tabs q) refl);
  blank = λ q r c past. rw (old_displays.blank q r c (started_before q past)) (undrawn old act outcome q r c old_displays.tied outcome_is (started_before q past));
  tied = serves.tied;
}
  where
    old_displays : Displays J old
    old_displays = stands.displays

    grows : Grows old.tabs new.tabs
    grows = let P : TabTable → Type 0 = Grows old.tabs in subst P (sym serves.tabs_are) (tabs_grow old act outcome old_displays.tied.beside.room fits outcome_is)

    started_before : (q : Instance) → (seat_at new.tabs q.tab).count ≤ q.ord → (seat_at old.tabs q.tab).count ≤ q.ord
    started_before q past = let more = grows.count q.tab in omega (arith, more, past)

    before : (q : Instance) (r c : ℕ) → r < 22 → c < 80 → is_live new.tabs q ≡ true → (lived : Bool) → is_live old.tabs q ≡ lived
        → (if lived then content_at old.screen q r c else space) ≡ cell_of J q r c
    before q r c low left now true was = old_displays.cells q r c low left was
    before q r c low left now false was = sym (old_displays.blank q r c (grows.fresh q now was))
