-- What an act makes of the tables stands for the journal with its entry.
use Rattle.std.proofs.Common.{◌≡◌, ◌≢◌, ℕ, ◌<◌, Bool, true, false, List, [], ◌∷◌, length, Option, Some, None, Ok, Err, Result, refl, sym, ◌∙◌, ap, subst, arith}
use Rattle.std.specs.Prelude.{bytes_eq, ◌-◌, ◌&&◌, ◌==◌, option_map, if◌then◌else◌}
use Rattle.std.proofs.lemmas.Bool.Decides.{nat_tests}
use Rattle.ibos_kinds.specs.Cookies.{cookie_in, set_breaks, put}
use Rattle.ibos_kinds.specs.declared.names.Instance.{Instance}
use Rattle.ibos_kinds.specs.declared.rule.Rule.{Rule}
use Rattle.ibos_kinds.specs.declared.act.Act.{Act}
use Rattle.ibos_kinds.specs.declared.act.Act.TheVariants.{Start, Switch, Close, Press, Go, CookieSet}
use Rattle.ibos_kinds.specs.declared.names.Key.{Key}
use Rattle.ibos_kinds.specs.declared.names.Key.TheVariants.{Enter}
use Rattle.ibos_focus.specs.declared.focus.Spot.TheVariants.{Entry}
use Rattle.ibos_kinds.specs.declared.outcome.Outcome.{Outcome}
use Rattle.ibos_kinds.specs.Limits.{Fits}
use Rattle.ibos_nic.specs.declared.log.LogEntry.{LogEntry}
use Rattle.ibos_origin.specs.Hosts.{HostTable}
use Rattle.ibos_origin.specs.Pages.{Page, allowed}
use Rattle.ibos_page.specs.Seats.{Seat}
use Rattle.ibos_page.specs.Tabs.{TabTable, seat_at, live_at, active_in, next_at, is_live_in, admission, empty_seat, opened, moved, closed, with_seat, live_in}
use Rattle.ibos_cookie.specs.Jars.{OriginJar, jar_of}
use Rattle.ibos_model.specs.Journal.{Journal, is_ok}
use Rattle.ibos_model.specs.Tabs.{Tabs, Opens, Moves, Ends, changed, tabs, next_in, origin_of}
use Rattle.ibos_model.specs.Focus.{active_tab, focus_of}
use Rattle.ibos_model.specs.Screen.{cell_of}
use Rattle.ibos_model.specs.Jars.{jar, sets_of, with_set}
use Rattle.ibos_model.specs.Outcomes.{accepted, answer, start_outcome, switch_outcome, close_outcome, go_outcome, out}
use Rattle.ibos_model.specs.Runs.{IsRun}
use Rattle.ibos_kernel.specs.Tables.{Parts, IsBeside, IsComposed, is_entry, origin_at, let_in, with_started, with_gone, with_entered, tabs_after, jar_after, Serves}
use Rattle.ibos_net.specs.NetStanding.{is_net}
use Rattle.ibos_kernel.specs.Standing.{TabsStand, PartsStand, entry}
use Rattle.ibos_kernel.proofs.LogsGrow.{written_fits}
use Rattle.ibos_kernel.proofs.TabsStanding.{none_stand, opens_stand, ends_stand, moves_stand}
use Rattle.std.proofs.lemmas.Slice.Eq.{bytes_eq-Decides}
use Rattle.std.proofs.lemmas.List.{set-set}
use Rattle.ibos_page.specs.Tabs.{without}
use Rattle.ibos_model.specs.Focus.{without as spec_without}
use Rattle.ibos_model.specs.Tabs.{changed_by, opening, leave, entering, end, if_ok}
use Rattle.ibos_model.specs.Outcomes.{page_key_outcome}
use Rattle.ibos_model.specs.Laws.{AreSetsPut, AreUnbornQuiet}
use Rattle.ibos_model.specs.Stored.{objects_of, requests_of}
use Rattle.ibos_store.specs.Stores.{OriginObjects, objects_in, requests_of as requests_kept}
use Rattle.ibos_kernel.proofs.TabsStanding.{seat-with}
use Rattle.ibos_kernel.proofs.Outcomes.{outcome_seen, outcome-seen, outcome_stands, lives_if, enter_seen, active_same, active_lives}
use Rattle.ibos_kernel.proofs.ScreenStands.{step_displays, active_within, start_page, let_in_ok}
use Rattle.ibos_kernel.proofs.StoredStand.{objects_stand, requests_stand}

-- a kernel that has made no act
pub new_holds : (parts : Parts) (table : TabTable) → parts.tabs ≡ table → length table.seats ≡ 64 → ((tab : ℕ) → seat_at table tab ≡ empty_seat) → table.active ≡ None → parts.jars ≡ []
    → parts.store.origins ≡ [] → ((q : Instance) → requests_kept parts.store q ≡ None) → parts.focus ≡ record { entry_line = []; spot = Entry } → IsBeside parts.tabs parts.screen → IsComposed parts.tabs parts.screen parts.focus → PartsStand [] parts
unfolding tabs focus_of sets_of jar cell_of objects_of
new_holds parts table is room empty none no_jars no_objects no_requests focus beside composed = record {
  run = tt;
  tabs = none_stand parts.tabs (rw is room) (rw is empty);
  active = rw is (sym none);
  jars = λ o. ap (λ (js : List OriginJar). jar_of js o) no_jars;
  objects = λ o. ap (λ (entries : List OriginObjects). objects_in entries o) no_objects;
  requests = λ q. no_requests q ∙ sym (unasked q (is_live_in q (seat_at parts.tabs q.tab)) refl);
  displays = record {
    spot = rw focus refl;
    entry_line = rw focus refl;
    cells = λ q r c low left live. absurd (none_lives q (rw (is, empty q.tab) at live));
    blank = λ q r c past. refl;
    tied = record { beside = beside; composed = composed; entry_line = λ h. rw focus refl };
  };
}
  where
    none_lives : (q : Instance) → is_live_in q empty_seat ≡ true → ⊥
    none_lives q h = cc

    unasked : (q : Instance) (lives : Bool) → is_live_in q (seat_at parts.tabs q.tab) ≡ lives → (if lives then Some (requests_of [] q) else None) ≡ None
    unasked q true live = absurd (none_lives q (rw (is, empty q.tab) at live))
    unasked q false dead = refl

-- which tab is active shows in no other view
with_active : (T : Tabs) (t : TabTable) (active : Option ℕ) → TabsStand T t → TabsStand T (record t { active = active })
with_active T t active shows = record {
  room = shows.room;
  count = shows.count;
  live = shows.live;
  newest = shows.newest;
  life = shows.life;
  fresh = shows.fresh;
  origin = shows.origin;
  url = shows.url;
}

-- ---- what is known where an act is accepted

start_free : (live : Option Instance) (next : Instance) (r : Result Page Rule) → is_ok (start_outcome live next r).head ≡ true → live ≡ None
start_free (Some who) next r ok = cc
start_free None next r ok = refl

switch_lives : (live : Option Instance) → is_ok (switch_outcome live).head ≡ true → live ≢ None
switch_lives (Some who) ok none = cc
switch_lives None ok none = cc

close_lives : (live : Option Instance) → is_ok (close_outcome live).head ≡ true → (who : Instance) × (live ≡ Some who)
close_lives (Some who) ok = (who, refl)
close_lives None ok = absurd (cc ok)

go_page : (who : Instance) (origin : List ℕ) (next : Instance) (r : Result Page Rule) → is_ok (go_outcome who origin next r).head ≡ true → (page : Page) × (r ≡ Ok page)
go_page who origin next (Ok page) ok = (page, refl)
go_page who origin next (Err rule) ok = absurd (cc ok)

pub no_page : (seat : Seat) (tab : ℕ) → live_in tab seat ≡ None → seat.page ≡ None
no_page seat tab none = by_page seat.page seat.count none
  where
    by_page : (page : Option Page) (count : ℕ) → option_map {U = Instance} (λ (x : Page). record { tab = tab; ord = count - 1 }) page ≡ None → page ≡ None
    by_page None count h = refl
    by_page (Some page) count h = cc

-- an instance ends, and the tab's next one opens
leaves_stand : (T : Tabs) (t : TabTable) (who : Instance) (page : Page) → TabsStand T t → who.tab < 64 → live_at t who.tab ≡ Some who
    → TabsStand (changed (changed T (Ends who)) (Opens (next_in T who.tab) page)) (with_seat t who.tab (opened page (seat_at t who.tab)))
leaves_stand T t who page shows within lives =
    let ended = ends_stand T t who.tab who shows within lives in
    let seat : seat_at (with_seat t who.tab (closed (seat_at t who.tab))) who.tab ≡ closed (seat_at t who.tab) = seat-with t who.tab who.tab (closed (seat_at t who.tab)) shows.room within ∙ here in
    let both = opens_stand (changed T (Ends who)) (with_seat t who.tab (closed (seat_at t who.tab))) who.tab page ended within (ap (λ (s : Seat). s.page) seat) in
    let P : TabTable → Type 0 = TabsStand (changed (changed T (Ends who)) (Opens (next_in T who.tab) page)) in
    subst P (ap (λ (s : Seat). with_seat (with_seat t who.tab (closed (seat_at t who.tab))) who.tab (opened page s)) seat
    ∙ ap (λ seats. record { seats = seats; active = t.active }) (set-set t.seats who.tab (closed (seat_at t who.tab)) (opened page (seat_at t who.tab)))) both
  where
    here : (if who.tab == who.tab then closed (seat_at t who.tab) else seat_at t who.tab) ≡ closed (seat_at t who.tab)
    here = grind (arith, nat_tests)

-- ---- the tabs after each act

start_stands : (T : Tabs) (t : TabTable) (tab : ℕ) (r : Result Page Rule) (ok : Bool) → TabsStand T t → tab < 64 → (ok ≡ true → is_ok (start_outcome (live_at t tab) (next_at t tab) r).head ≡ true)
    → TabsStand (changed_by T (if_ok ok (opening T tab r))) (if ok then with_started t tab r else t)
start_stands T t tab r false shows within row = shows
start_stands T t tab r true shows within row =
    let free : (seat_at t tab).page ≡ None = no_page (seat_at t tab) tab (start_free (live_at t tab) (next_at t tab) r (row refl)) in
    let page = start_page (live_at t tab) (next_at t tab) r (row refl) in
    rw page.1 (with_active _ (with_seat t tab (opened page.0 (seat_at t tab))) (Some tab) (opens_stand T t tab page.0 shows within free))

close_stands : (T : Tabs) (t : TabTable) (tab : ℕ) (ok : Bool) → TabsStand T t → tab < 64 → (ok ≡ true → is_ok (close_outcome (live_at t tab)).head ≡ true)
    → TabsStand (changed_by T (if_ok ok (end (T.live tab)))) (if ok then record (with_seat t tab (closed (seat_at t tab))) { active = without tab t.active } else t)
close_stands T t tab false shows within row = shows
close_stands T t tab true shows within row =
    let live = close_lives (live_at t tab) (row refl) in
    rw (shows.live tab, live.1) (with_active _ (with_seat t tab (closed (seat_at t tab))) (without tab t.active) (ends_stand T t tab live.0 shows within live.1))

-- an instance that lives goes to a page
left_stands : (T : Tabs) (t : TabTable) (who : Instance) (r : Result Page Rule) → TabsStand T t → who.tab < 64 → live_at t who.tab ≡ Some who
    → is_ok (go_outcome who (origin_at t who) (next_at t who.tab) r).head ≡ true
    → TabsStand (changed_by T (leave T who r)) (with_gone t who r)
left_stands T t who r shows within lives ok =
    let page = go_page who (origin_at t who) (next_at t who.tab) r ok in
    rw (page.1, shows.origin who lives) (by_origin page.0 lives (bytes_eq page.0.origin (origin_at t who)) refl)
  where
    by_origin : (page : Page) → live_at t who.tab ≡ Some who → (same : Bool) → bytes_eq page.origin (origin_at t who) ≡ same
        → TabsStand (changed_by T (if same then Moves who page.url ∷ [] else Ends who ∷ Opens (next_in T who.tab) page ∷ [])) (with_seat t who.tab (if same then moved page (seat_at t who.tab) else opened page (seat_at t who.tab)))
    by_origin page lives true same = moves_stand T t who page shows within lives ((bytes_eq-Decides page.origin (origin_at t who)).0 same)
    by_origin page lives false differ = leaves_stand T t who page shows within lives

go_stands : (T : Tabs) (t : TabTable) (who : Instance) (r : Result Page Rule) (ok : Bool) → TabsStand T t → who.tab < 64
    → (ok ≡ true → is_ok (let_in (admission t who) (go_outcome who (origin_at t who) (next_at t who.tab) r)).head ≡ true)
    → TabsStand (changed_by T (if_ok ok (leave T who r))) (if ok then with_gone t who r else t)
go_stands T t who r false shows within row = shows
go_stands T t who r true shows within row =
    let admitted = let_in_ok (admission t who) (go_outcome who (origin_at t who) (next_at t who.tab) r) (row refl) in
    left_stands T t who r shows within (lives_if t who admitted.0) admitted.1

-- the active instance goes to the page of the entry line
entered_stands : (T : Tabs) (t : TabTable) (active : Option Instance) (r : Result Page Rule) (ok at_entry_line : Bool) (key : Key) → TabsStand T t
    → ((who : Instance) → active ≡ Some who → (live_at t who.tab ≡ Some who) × (who.tab < 64))
    → (ok ≡ true → is_ok (if at_entry_line then enter_seen t active r else page_key_outcome active key).head ≡ true)
    → TabsStand (changed_by T (if_ok (ok && at_entry_line) (entering T active r))) (if ok && at_entry_line then with_entered t active r else t)
entered_stands T t active r false at_entry_line key shows lives row = shows
entered_stands T t active r true false key shows lives row = shows
entered_stands T t None r true true key shows lives row = shows
entered_stands T t (Some who) r true true key shows lives row =
    let here = lives who refl in
    left_stands T t who r shows here.1 here.0 (row refl)

ok_of : (outcome row : Outcome) → outcome ≡ row → (ok : Bool) → is_ok outcome.head ≡ ok → ok ≡ true → is_ok row.head ≡ true
ok_of outcome row is ok head accepted = ap (λ (o : Outcome). is_ok o.head) (sym is) ∙ head ∙ accepted

tabs_stand : (J : Journal) (t : Parts) (act : Act) (outcome : Outcome) (log : List LogEntry) → PartsStand J t → Fits act → outcome ≡ outcome_seen t act
    → TabsStand (tabs t.hosts (entry act outcome log ∷ J)) (tabs_after t (is_ok outcome.head) act)
unfolding tabs
tabs_stand J t (Start tab url) outcome log stands fits is = start_stands (tabs t.hosts J) t.tabs tab (allowed t.hosts url) (is_ok outcome.head) stands.tabs fits (ok_of outcome _ is (is_ok outcome.head) refl)
tabs_stand J t (Switch tab) outcome log stands fits is = switched (is_ok outcome.head)
  where
    switched : (ok : Bool) → TabsStand (tabs t.hosts J) (if ok then record t.tabs { active = Some tab } else t.tabs)
    switched true = with_active _ t.tabs (Some tab) stands.tabs
    switched false = stands.tabs
tabs_stand J t (Close tab) outcome log stands fits is = close_stands (tabs t.hosts J) t.tabs tab (is_ok outcome.head) stands.tabs fits (ok_of outcome _ is (is_ok outcome.head) refl)
tabs_stand J t (Press Enter) outcome log stands fits is = rw (stands.displays.spot, stands.displays.entry_line, active_same J t stands)
    (entered_stands (tabs t.hosts J) t.tabs (active_in t.tabs) (allowed t.hosts t.focus.entry_line) (is_ok outcome.head) (is_entry t.focus.spot) Enter stands.tabs
    (λ who is. (active_lives t.tabs who is, active_within t.tabs who stands.displays.tied.beside.room (active_lives t.tabs who is)))
    (ok_of outcome _ is (is_ok outcome.head) refl))
tabs_stand J t (Go who url) outcome log stands fits is = go_stands (tabs t.hosts J) t.tabs who (allowed t.hosts url) (is_ok outcome.head) stands.tabs fits.0 (ok_of outcome _ is (is_ok outcome.head) refl)
tabs_stand J t other outcome log stands fits is = stands.tabs

without_same : (tab : ℕ) (active : Option ℕ) → spec_without tab active ≡ without tab active
without_same tab None = refl
without_same tab (Some active) = refl

active_stands : (J : Journal) (t : Parts) (act : Act) (outcome : Outcome) (log : List LogEntry) → PartsStand J t → outcome ≡ outcome_seen t act
    → active_tab (entry act outcome log ∷ J) ≡ (tabs_after t (is_ok outcome.head) act).active
unfolding focus_of
active_stands J t (Start tab url) outcome log stands is = started (is_ok outcome.head) (ok_of outcome _ is (is_ok outcome.head) refl)
  where
    started : (ok : Bool) → (ok ≡ true → is_ok (start_outcome (live_at t.tabs tab) (next_at t.tabs tab) (allowed t.hosts url)).head ≡ true)
        → (if ok then Some tab else active_tab J) ≡ (if ok then with_started t.tabs tab (allowed t.hosts url) else t.tabs).active
    started false row = stands.active
    started true row = let page = start_page (live_at t.tabs tab) (next_at t.tabs tab) (allowed t.hosts url) (row refl) in rw page.1 refl
active_stands J t (Switch tab) outcome log stands is = switched (is_ok outcome.head)
  where
    switched : (ok : Bool) → (if ok then Some tab else active_tab J) ≡ (if ok then record t.tabs { active = Some tab } else t.tabs).active
    switched true = refl
    switched false = stands.active
active_stands J t (Close tab) outcome log stands is = ended (is_ok outcome.head)
  where
    ended : (ok : Bool) → (if ok then spec_without tab (active_tab J) else active_tab J) ≡ (if ok then record (with_seat t.tabs tab (closed (seat_at t.tabs tab))) { active = without tab t.tabs.active } else t.tabs).active
    ended true = ap (spec_without tab) stands.active ∙ without_same tab t.tabs.active
    ended false = stands.active
active_stands J t (Press Enter) outcome log stands is = entered (is_ok outcome.head && is_entry t.focus.spot) (active_in t.tabs) (allowed t.hosts t.focus.entry_line)
  where
    entered : (ok : Bool) (active : Option Instance) (r : Result Page Rule) → active_tab J ≡ (if ok then with_entered t.tabs active r else t.tabs).active
    entered false active r = stands.active
    entered true None r = stands.active
    entered true (Some who) (Ok page) = stands.active
    entered true (Some who) (Err rule) = stands.active
active_stands J t (Go who url) outcome log stands is = gone (is_ok outcome.head) (allowed t.hosts url)
  where
    gone : (ok : Bool) (r : Result Page Rule) → active_tab J ≡ (if ok then with_gone t.tabs who r else t.tabs).active
    gone true (Ok page) = stands.active
    gone true (Err rule) = stands.active
    gone false r = stands.active
active_stands J t other outcome log stands is = stands.active

-- the jar of an origin after an act
jars_stand : AreSetsPut → (J : Journal) (t : Parts) (act : Act) (outcome : Outcome) (log : List LogEntry) → PartsStand J t → outcome ≡ outcome_seen t act → (o : List ℕ)
    → jar_after t (is_ok outcome.head) act o ≡ jar (sets_of t.hosts (entry act outcome log ∷ J) o)
unfolding sets_of
jars_stand law J t (CookieSet side who text) outcome log stands is o = set (is_ok outcome.head) (ok_of outcome _ is (is_ok outcome.head) refl)
  where
    one_set : (same : Bool) → (if same then put (cookie_in text) (jar_of t.jars o) else jar_of t.jars o) ≡ jar (with_set same text (sets_of t.hosts J o))
    one_set true = ap (put (cookie_in text)) (stands.jars o) ∙ sym (law (cookie_in text) (sets_of t.hosts J o))
    one_set false = stands.jars o

    set : (ok : Bool) → (ok ≡ true → is_ok (let_in (admission t.tabs who) (answer (set_breaks text (jar_of t.jars (origin_at t.tabs who))))).head ≡ true)
        → (if ok && bytes_eq (origin_at t.tabs who) o then put (cookie_in text) (jar_of t.jars o) else jar_of t.jars o) ≡ jar (with_set (ok && bytes_eq (origin_of t.hosts J who) o) text (sets_of t.hosts J o))
    set false row = stands.jars o
    set true row =
        let admitted = let_in_ok (admission t.tabs who) _ (row refl) in
        rw (stands.tabs.origin who (lives_if t.tabs who admitted.0)) (one_set (bytes_eq (origin_at t.tabs who) o))
jars_stand law J t other outcome log stands is o = stands.jars o

-- an act that the parts serve
pub step_holds : AreSetsPut → AreUnbornQuiet → (J : Journal) (old new : Parts) (act : Act) (outcome : Outcome) (log : List LogEntry) → is_net act ≡ false → PartsStand J old → Fits act → Serves old act outcome new → PartsStand (entry act outcome log ∷ J) new
step_holds law quiet J old new act outcome log page stands fits serves =
    let outcome_is : outcome ≡ outcome_seen old act = serves.outcome_is ∙ outcome-seen J old act stands in
    let H : HostTable = old.hosts in
    let P : HostTable → Type 0 = λ T. IsRun T (entry act outcome log ∷ J) in
    let Q : TabTable → Type 0 = TabsStand (tabs H (entry act outcome log ∷ J)) in
    let S : HostTable → Type 0 = λ T. TabsStand (tabs T (entry act outcome log ∷ J)) new.tabs in
    record {
      run = subst P (sym serves.hosts_are) (record { outcome = outcome_is ∙ outcome_stands J old act stands page; written = written_fits outcome log }, stands.run);
      tabs = subst S (sym serves.hosts_are) (subst Q (sym serves.tabs_are) (tabs_stand J old act outcome log stands fits outcome_is));
      active = active_stands J old act outcome log stands outcome_is ∙ ap (λ (table : TabTable). table.active) (sym serves.tabs_are);
      jars = λ o. serves.jars_are o ∙ jars_stand law J old act outcome log stands outcome_is o ∙ ap (λ (T : HostTable). jar (sets_of T (entry act outcome log ∷ J) o)) (sym serves.hosts_are);
      objects = λ o. serves.objects_are o ∙ objects_stand J old act outcome log stands outcome_is o ∙ ap (λ (T : HostTable). objects_of T (entry act outcome log ∷ J) o) (sym serves.hosts_are);
      requests = requests_stand quiet J old new act outcome log stands fits serves outcome_is;
      displays = step_displays J old new act outcome log stands fits serves outcome_is;
    }

-- the outcome is the journal's
pub step_told : (J : Journal) (old new : Parts) (act : Act) (outcome : Outcome) → is_net act ≡ false → PartsStand J old → Serves old act outcome new → outcome ≡ out old.hosts J act
step_told J old new act outcome page stands serves = serves.outcome_is ∙ outcome-seen J old act stands ∙ outcome_stands J old act stands page
