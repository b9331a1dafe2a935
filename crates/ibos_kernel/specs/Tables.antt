-- The kernel's tables, and what each act makes of them.
use Rattle.std.specs.Prelude.{◌≡◌, ℕ, ◌+◌, ◌<◌, zero, length, suc, List, [], ◌∷◌, Bool, true, false}
use Rattle.std.specs.Prelude.{◌&&◌, is_some, bytes_eq, Option, Some, None, Result, Ok, Err}
use Rattle.std.specs.Prelude.{if◌then◌else◌}
use Rattle.ibos_kinds.specs.declared.cookies.Cookie.{Cookie}
use Rattle.ibos_kinds.specs.Cookies.{cookie_in, jar_text, put, set_breaks}
use Rattle.ibos_kinds.specs.declared.names.Instance.{Instance}
use Rattle.ibos_kinds.specs.declared.rule.Rule.{Rule}
use Rattle.ibos_kinds.specs.declared.act.Act.{Act}
use Rattle.ibos_kinds.specs.declared.act.Act.TheVariants.{Start, Switch, Close, Press, Click, Look}
use Rattle.ibos_kinds.specs.declared.act.Act.TheVariants.{Go, Draw, CookieSet, CookieGet}
use Rattle.ibos_kinds.specs.declared.act.Act.TheVariants.{Unbind, Done, RegWrite, RxPost}
use Rattle.ibos_kinds.specs.declared.act.Act.TheVariants.{Fill, TxPost, Put, Ask, StoreAnswer}
use Rattle.ibos_kinds.specs.declared.act.Act.TheVariants.{StoreNone, StoreLose}
use Rattle.ibos_kinds.specs.declared.outcome.Outcome.{Outcome}
use Rattle.ibos_kinds.specs.declared.outcome.Item.TheVariants.{Opened, Moved as ItemMoved, Ended}
use Rattle.ibos_kinds.specs.declared.outcome.Item.TheVariants.{Cookies}
use Rattle.ibos_kinds.specs.declared.rule.Rule.TheVariants.{U2, U10}
use Rattle.ibos_kinds.specs.declared.names.Key.{Key}
use Rattle.ibos_kinds.specs.declared.names.Key.TheVariants.{Enter}
use Rattle.ibos_kinds.specs.Keyboard.{key_breaks}
use Rattle.ibos_kinds.specs.Screens.{space, padded}
use Rattle.ibos_page.specs.declared.tabs.Moved.{Moved}
use Rattle.ibos_page.specs.declared.tabs.Moved.TheVariants.{Same, New}
use Rattle.ibos_net.specs.NetStanding.{NetState}
use Rattle.ibos_origin.specs.Hosts.{HostTable}
use Rattle.ibos_origin.specs.Pages.{Page, allowed}
use Rattle.ibos_page.specs.Seats.{Seat}
use Rattle.ibos_page.specs.Tabs.{TabTable, seat_at, live_at, active_in, is_live_in, start_in, go_in}
use Rattle.ibos_page.specs.Tabs.{opened, moved, closed, with_seat, without, origin_with}
use Rattle.ibos_route.specs.Parties.{admission_of}
use Rattle.ibos_frame.specs.ScreenStates.{ScreenState, content_of, content_at, is_open, chrome_at}
use Rattle.ibos_frame.specs.ScreenStates.{seen_at}
use Rattle.ibos_focus.specs.Focused.{Focused}
use Rattle.ibos_focus.specs.declared.focus.Spot.{Spot}
use Rattle.ibos_focus.specs.declared.focus.Spot.TheVariants.{Entry, Content}
use Rattle.ibos_cookie.specs.Jars.{OriginJar, jar_of}
use Rattle.ibos_kinds.specs.Objects.{KeyObject}
use Rattle.ibos_kinds.specs.Requests.{Requests}
use Rattle.ibos_store.specs.Stores.{StoreState, objects_of, requests_of}
use Rattle.ibos_model.specs.Journal.{is_ok}
use Rattle.ibos_model.specs.Focus.{at_entry_line_by, entry_line_by}
use Rattle.ibos_model.specs.Screen.{cell_by, state_text, bar_text, entry_line_text, seen_row}
use Rattle.ibos_model.specs.Outcomes.{accepted, denied, answer, open_outcome, close_outcome}
use Rattle.ibos_model.specs.Outcomes.{page_key_outcome, click_outcome, look_outcome, draw_outcome}
use Rattle.ibos_model.specs.Stored.{is_about}
use Rattle.ibos_kernel.specs.Storage as storage
use Rattle.ibos_kernel.specs.Storage.{asked_by, kept_by, storage_outcome}

-- what acts read and change
pub record Parts : Type 0 where
  pub hosts : HostTable
  pub tabs : TabTable
  pub jars : List OriginJar
  pub store : StoreState
  pub screen : ScreenState
  pub focus : Focused

pub record Tables : Type 0 where
  pub hosts : HostTable
  pub tabs : TabTable
  pub jars : List OriginJar
  pub store : StoreState
  pub screen : ScreenState
  pub focus : Focused
  pub net : NetState
  -- how many acts there have been
  pub acts : ℕ
  -- the kernel never ran out of memory
  pub usable : Bool

abbrev pub parts_of : Tables → Parts
parts_of t = record {
  hosts = t.hosts;
  tabs = t.tabs;
  jars = t.jars;
  store = t.store;
  screen = t.screen;
  focus = t.focus;
}

-- how many instances have started
abbrev pub started : List Seat → ℕ
started [] = 0
started (seat ∷ seats) = seat.count + started seats

-- ---- the screen beside the tabs

abbrev pub is_live : TabTable → Instance → Bool
is_live t who = is_live_in who (seat_at t who.tab)

abbrev pub is_entry : Spot → Bool
is_entry Entry = true
is_entry Content = false

abbrev pub spot_of : Bool → Spot
spot_of at_entry_line = if at_entry_line then Entry else Content

abbrev pub url_with : Option Page → List ℕ
url_with None = []
url_with (Some page) = page.url

abbrev pub bar_at : TabTable → Option Instance → List ℕ
bar_at t None = []
bar_at t (Some who) = bar_text (url_with (seat_at t who.tab).page)

-- the texts of rows 0 to 2
abbrev pub chrome_by : TabTable → Focused → ℕ → List ℕ
chrome_by t f zero = state_text (active_in t) (is_entry f.spot)
chrome_by t f (suc zero) = bar_at t (active_in t)
chrome_by t f (suc (suc r)) = entry_line_text f.entry_line

-- the instances that live have a content
abbrev pub IsOpenWhereLive : TabTable → ScreenState → Type 0
IsOpenWhereLive t screen = (q : Instance) → is_open screen q ≡ is_live t q

-- the screen shows the chrome's texts, and the content of the active instance
pub record IsComposed (t : TabTable) (screen : ScreenState) (focus : Focused) : Type 0 where
  pub shown : screen.shown ≡ active_in t
  pub chrome : (r : ℕ) → r < 3 → chrome_at screen r ≡ padded (chrome_by t focus r)

-- the contents beside the 64 tabs, whose live instances are the newest
pub record IsBeside (t : TabTable) (screen : ScreenState) : Type 0 where
  pub room : length t.seats ≡ 64
  pub newest : (tab : ℕ) (who : Instance) → live_at t tab ≡ Some who
      → who.ord + 1 ≡ (seat_at t tab).count
  pub lives : IsOpenWhereLive t screen

-- what the parts of the screen have to do with the tabs
pub record IsTied (t : TabTable) (screen : ScreenState) (focus : Focused) : Type 0 where
  pub beside : IsBeside t screen
  pub composed : IsComposed t screen focus
  pub entry_line : t.active ≡ None → focus.spot ≡ Entry

-- contents go with their instances: those that started have an empty one, and those that stayed
-- keep theirs
pub record ContentsFollow (old new : TabTable) (before after : ScreenState) : Type 0 where
  pub lives : IsOpenWhereLive new after
  pub kept : (q : Instance) → is_live old q ≡ true → is_live new q ≡ true
      → content_of after q ≡ content_of before q
  pub blank : (q : Instance) (r c : ℕ) → r < 22 → c < 80 → is_live old q ≡ false
      → is_live new q ≡ true → content_at after q r c ≡ space

-- the origin of an instance that lives
abbrev pub origin_at : TabTable → Instance → List ℕ
origin_at t who = origin_with (seat_at t who.tab).page

-- an act of an instance is denied unless it lives
abbrev pub let_in : Option Rule → Outcome → Outcome
let_in None row = row
let_in (Some rule) row = denied rule

abbrev pub get_at : List OriginJar → List ℕ → Instance → Outcome
get_at jars origin who = accepted (Cookies who (jar_text (jar_of jars origin)) ∷ [])

-- a page opens as the instance that would start
abbrev pub started_by : Result Instance Rule → Result Page Rule → Outcome
started_by (Ok who) r = open_outcome who r
started_by (Err rule) r = denied rule

-- an instance goes to a page
abbrev pub gone_by : Instance → Page → Result Moved Rule → Outcome
gone_by who page (Ok Same) = accepted (ItemMoved who page.url ∷ [])
gone_by who page (Ok (New next)) = accepted (Ended who ∷ Opened next page.url ∷ [])
gone_by who page (Err rule) = denied rule

abbrev pub go_at : TabTable → Instance → Result Page Rule → Outcome
go_at t who (Ok page) = gone_by who page (go_in who (origin_at t who) page)
go_at t who (Err rule) = denied rule

-- Enter at the entry line
abbrev pub enter_at : TabTable → Option Instance → Result Page Rule → Outcome
enter_at t None r = denied U10
enter_at t (Some who) r = go_at t who r

abbrev pub entry_key_at : HostTable → TabTable → List ℕ → Key → Outcome
entry_key_at H t entry Enter = enter_at t (active_in t) (allowed H entry)
entry_key_at H t entry key = answer (key_breaks entry key)

abbrev pub press_at : HostTable → TabTable → Focused → Key → Outcome
press_at H t f key = if is_entry f.spot then entry_key_at H t f.entry_line key
    else page_key_outcome (active_in t) key

-- the outcome of an act of the pages' half by the tables, where its actor may act
abbrev pub admitted_outcome : Parts → Act → Outcome
admitted_outcome t (Start tab url) = started_by (start_in t.tabs tab) (allowed t.hosts url)
admitted_outcome t (Switch tab) = if is_some (seat_at t.tabs tab).page then accepted []
    else denied U2
admitted_outcome t (Close tab) = close_outcome (live_at t.tabs tab)
admitted_outcome t (Press key) = press_at t.hosts t.tabs t.focus key
admitted_outcome t (Click r c) = click_outcome (active_in t.tabs) r c
admitted_outcome t Look = look_outcome (seen_row (seen_at t.screen))
admitted_outcome t (Draw who r c height width pixels) = draw_outcome r c height width pixels
admitted_outcome t (Go who url) = go_at t.tabs who (allowed t.hosts url)
admitted_outcome t (CookieSet side who text) = answer
    (set_breaks text (jar_of t.jars (origin_at t.tabs who)))
admitted_outcome t (CookieGet side who) = get_at t.jars (origin_at t.tabs who) who
admitted_outcome t other = storage_outcome (origin_at t.tabs) t.store other

-- the same, where it may act or not
abbrev pub outcome_by : Parts → Act → Outcome
outcome_by t act = let_in (admission_of t.tabs act) (admitted_outcome t act)

-- the tabs after an accepted start, and after an accepted move
abbrev pub with_started : TabTable → ℕ → Result Page Rule → TabTable
with_started t tab (Ok page) = record (with_seat t tab (opened page (seat_at t tab)))
    { active = Some tab }
with_started t tab (Err rule) = t

abbrev pub with_gone : TabTable → Instance → Result Page Rule → TabTable
with_gone t who (Ok page) = with_seat t who.tab (if bytes_eq page.origin (origin_at t who)
    then moved page (seat_at t who.tab) else opened page (seat_at t who.tab))
with_gone t who (Err rule) = t

-- the active instance goes to a page
abbrev pub with_entered : TabTable → Option Instance → Result Page Rule → TabTable
with_entered t None r = t
with_entered t (Some who) r = with_gone t who r

abbrev pub with_pressed : HostTable → TabTable → Focused → Bool → Key → TabTable
with_pressed H t f ok Enter = if ok && is_entry f.spot
    then with_entered t (active_in t) (allowed H f.entry_line) else t
with_pressed H t f ok key = t

-- the tabs after an act, if it is accepted
abbrev pub tabs_after : Parts → Bool → Act → TabTable
tabs_after t ok (Start tab url) = if ok then with_started t.tabs tab (allowed t.hosts url)
    else t.tabs
tabs_after t ok (Switch tab) = if ok then record t.tabs { active = Some tab } else t.tabs
tabs_after t ok (Close tab) = if ok
    then record (with_seat t.tabs tab (closed (seat_at t.tabs tab)))
    { active = without tab t.tabs.active } else t.tabs
tabs_after t ok (Press key) = with_pressed t.hosts t.tabs t.focus ok key
tabs_after t ok (Go who url) = if ok then with_gone t.tabs who (allowed t.hosts url) else t.tabs
tabs_after t ok other = t.tabs

-- the jar of an origin after an act, if it is accepted
abbrev pub jar_after : Parts → Bool → Act → List ℕ → List Cookie
jar_after t ok (CookieSet side who text) o = if ok && bytes_eq (origin_at t.tabs who) o
    then put (cookie_in text) (jar_of t.jars o) else jar_of t.jars o
jar_after t ok other o = jar_of t.jars o

-- the objects of an origin after an act, if it is accepted
abbrev pub objects_after : Parts → Bool → Act → List ℕ → List KeyObject
objects_after t ok act o = storage.objects_after (origin_at t.tabs) t.store ok act o

-- the requests of an instance after an act, if it is accepted, where it lives then or not
abbrev pub requests_after : Parts → Bool → Act → Bool → Instance → Option Requests
requests_after t ok act lives q =
    kept_by (is_live t.tabs q) lives (asked_by (is_about q act) ok act (requests_of t.store q))

-- where keys go and what is typed after an act, if it is accepted
abbrev pub focus_by : Option ℕ → Focused → Bool → Act → Focused
focus_by active f ok act = record {
  entry_line = entry_line_by (is_entry f.spot) ok act f.entry_line;
  spot = spot_of (at_entry_line_by active ok act (is_entry f.spot));
}

abbrev pub focus_after : Parts → Bool → Act → Focused
focus_after t ok act = focus_by t.tabs.active t.focus ok act

-- a cell of an instance that lives after an act, if that is accepted: one that started has spaces
abbrev pub cell_after : Parts → Bool → Act → Instance → ℕ → ℕ → ℕ
cell_after t ok act q r c = cell_by q r c ok act (if is_live t.tabs q then content_at t.screen q r c
    else space)

-- the act is one that is made without taking memory
abbrev pub takes_none : Act → Bool
takes_none (Switch tab) = true
takes_none (Draw who r c height width pixels) = true
takes_none (Unbind who flow) = true
takes_none (Done who) = true
takes_none (RegWrite offset value) = true
takes_none (RxPost slot handle) = true
takes_none (Fill who buffer place bytes) = true
takes_none (TxPost slot send) = true
takes_none (StoreLose origin key version) = true
takes_none other = false

-- the act is one of cookies or of stored objects: it starts and ends no instance, and nothing of it
-- is seen
abbrev pub is_quiet : Act → Bool
is_quiet (CookieSet side who text) = true
is_quiet (CookieGet side who) = true
is_quiet (Put who key bytes) = true
is_quiet (Ask who key) = true
is_quiet (StoreAnswer who request origin key version) = true
is_quiet (StoreNone who request) = true
is_quiet (StoreLose origin key version) = true
is_quiet other = false

-- an act's outcome and the parts after it, before requests follow their instances and the chrome is
-- written again
pub record Makes (old : Parts) (act : Act) (outcome : Outcome) (new : Parts) : Type 0 where
  pub outcome_is : outcome ≡ outcome_by old act
  pub hosts_are : new.hosts ≡ old.hosts
  pub tabs_are : new.tabs ≡ tabs_after old (is_ok outcome.head) act
  pub jars_are : (o : List ℕ) → jar_of new.jars o ≡ jar_after old (is_ok outcome.head) act o
  pub objects_are : (o : List ℕ) → objects_of new.store o
      ≡ objects_after old (is_ok outcome.head) act o
  pub focus_is : new.focus ≡ focus_after old (is_ok outcome.head) act
  pub lives : IsOpenWhereLive new.tabs new.screen
  pub cells_are : (q : Instance) (r c : ℕ) → r < 22 → c < 80 → is_live new.tabs q ≡ true
      → content_at new.screen q r c ≡ cell_after old (is_ok outcome.head) act q r c
  pub chrome_is : new.screen.chrome ≡ old.screen.chrome
  pub denied : is_ok outcome.head ≡ false → new ≡ old

-- the same, with both
pub record Serves (old : Parts) (act : Act) (outcome : Outcome) (new : Parts) : Type 0 where
  pub outcome_is : outcome ≡ outcome_by old act
  pub hosts_are : new.hosts ≡ old.hosts
  pub tabs_are : new.tabs ≡ tabs_after old (is_ok outcome.head) act
  pub jars_are : (o : List ℕ) → jar_of new.jars o ≡ jar_after old (is_ok outcome.head) act o
  pub objects_are : (o : List ℕ) → objects_of new.store o
      ≡ objects_after old (is_ok outcome.head) act o
  pub requests_are : (q : Instance) → requests_of new.store q
      ≡ requests_after old (is_ok outcome.head) act (is_live new.tabs q) q
  pub focus_is : new.focus ≡ focus_after old (is_ok outcome.head) act
  pub cells_are : (q : Instance) (r c : ℕ) → r < 22 → c < 80 → is_live new.tabs q ≡ true
      → content_at new.screen q r c ≡ cell_after old (is_ok outcome.head) act q r c
  pub tied : IsTied new.tabs new.screen new.focus
  pub denied : is_ok outcome.head ≡ false → new ≡ old
