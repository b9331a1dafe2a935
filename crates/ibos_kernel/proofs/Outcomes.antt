-- The outcome of an act by the tables is that by the journal which they stand for.
use Rattle.std.proofs.Common.{◌≡◌, ℕ, ◌+◌, ◌<◌, Bool, true, false, List, [], ◌∷◌, Option, Some, None, Ok, Err, Result, refl, sym, ◌∙◌, ap, subst, arith}
use Rattle.std.specs.Prelude.{bytes_eq, nat_lt, is_some, ◌-◌, ◌==◌, option_map, option_and_then, if◌then◌else◌}
use Rattle.std.proofs.lemmas.Bool.Decides.{nat_tests}
use Rattle.ibos_kinds.specs.declared.cookies.Cookie.{Cookie}
use Rattle.ibos_kinds.specs.Cookies.{set_breaks, jar_text}
use Rattle.ibos_kinds.specs.declared.names.Instance.{Instance}
use Rattle.ibos_kinds.specs.declared.rule.Rule.{Rule}
use Rattle.ibos_kinds.specs.declared.rule.Rule.TheVariants.{U1, U2, U3, U10, P1, P2}
use Rattle.ibos_kinds.specs.declared.act.Act.{Act}
use Rattle.ibos_kinds.specs.declared.act.Act.TheVariants.{Start, Switch, Close, Press, Click, Look, Go, Draw, CookieSet, CookieGet, Put, Ask, StoreAnswer, StoreNone, StoreLose}
use Rattle.ibos_kinds.specs.declared.names.Key.{Key}
use Rattle.ibos_kinds.specs.declared.names.Key.TheVariants.{Byte, Enter, Back}
use Rattle.ibos_kinds.specs.Keyboard.{key_breaks}
use Rattle.ibos_focus.specs.Focused.{Focused}
use Rattle.ibos_kinds.specs.declared.outcome.Item.TheVariants.{Opened, Moved as ItemMoved, Ended, Cookies}
use Rattle.ibos_page.specs.declared.tabs.Moved.TheVariants.{Same, New}
use Rattle.ibos_kinds.specs.declared.outcome.Outcome.{Outcome}
use Rattle.ibos_origin.specs.Hosts.{HostTable}
use Rattle.ibos_origin.specs.Pages.{Page, allowed}
use Rattle.ibos_page.specs.Tabs.{TabTable, seat_at, live_at, active_in, next_at, go_in, is_live_in, admission, admission_in}
use Rattle.ibos_cookie.specs.Jars.{jar_of}
use Rattle.ibos_kinds.specs.Labels.{lose_answer, none_answer}
use Rattle.ibos_kinds.specs.Objects.{KeyObject, newest_in}
use Rattle.ibos_store.specs.Stores.{objects_of as objects_kept}
use Rattle.ibos_model.specs.Stored.{objects_of, requests_of}
use Rattle.ibos_kernel.specs.Storage.{own_requests}
use Rattle.ibos_model.specs.Journal.{Journal}
use Rattle.ibos_model.specs.Tabs.{Tabs, Unborn, Alive, Gone, tabs, next_in, origin_of, life_in, active_of}
use Rattle.ibos_model.specs.Jars.{sets_of}
use Rattle.ibos_frame.specs.ScreenStates.{seen_at}
use Rattle.ibos_model.specs.Screen.{screen, seen_row}
use Rattle.ibos_model.specs.Outcomes.{accepted, denied, admitted, answer, open_outcome, start_outcome, switch_outcome, close_outcome, page_key_outcome, enter_outcome, click_outcome, look_outcome, draw_outcome, go_outcome, set_outcome, get_outcome, ask_outcome, none_outcome, object_outcome, put_outcome, unless_denied, out}
use Rattle.ibos_kernel.specs.Tables.{Parts, is_live, origin_at, started_by, gone_by, go_at, enter_at, is_entry, let_in, get_at, outcome_by}
use Rattle.ibos_kernel.specs.Standing.{TabsStand, PartsStand}
use Rattle.ibos_net.specs.NetStanding.{is_net}
use Rattle.ibos_kernel.proofs.TabsStanding.{page_there, tab_of}
use Rattle.ibos_kernel.proofs.StoredKeys.{key_stands, label_stands, own_asked}
use Rattle.ibos_kernel.proofs.ScreenSeen.{seen_same, looks_same}

-- ---- the outcome by the tables is that by the journal

-- an instance is admitted exactly while it lives
pub let_in_by : (T : Tabs) (t : TabTable) (who : Instance) (row : Outcome) → TabsStand T t → admitted (life_in T who) row ≡ let_in (admission t who) row
let_in_by T t who row shows = ap (λ life. admitted life row) (shows.life who) ∙ by_tests (is_live_in who (seat_at t who.tab)) (nat_lt who.ord (seat_at t who.tab).count)
  where
    by_tests : (live past : Bool) → admitted (if live then Alive else if past then Gone else Unborn) row ≡ let_in (if live then None else if past then Some P2 else Some P1) row
    by_tests true past = refl
    by_tests false true = refl
    by_tests false false = refl

lives_by : (who : Instance) (page : Option Page) (count : ℕ) → admission_in who (record { count = count; page = page }) ≡ None → option_map (λ (x : Page). record { tab = who.tab; ord = count - 1 }) page ≡ Some who
lives_by who None count free = by_past (nat_lt who.ord count) free
  where
    by_past : (past : Bool) → (if past then Some P2 else Some P1) ≡ None → option_map {T = Page} (λ (x : Page). record { tab = who.tab; ord = count - 1 }) None ≡ Some who
    by_past true h = cc
    by_past false h = cc
lives_by who (Some page) count free = by_test (who.ord + 1 == count) refl free
  where
    by_past : (past : Bool) → (if past then Some P2 else Some P1) ≡ None → ⊥
    by_past true h = cc
    by_past false h = cc

    by_test : (newest : Bool) → (who.ord + 1 == count) ≡ newest → (if newest then None else if nat_lt who.ord count then Some P2 else Some P1) ≡ None
        → Some (record { tab = who.tab; ord = count - 1 }) ≡ Some who
    by_test true is h = let e : count - 1 ≡ who.ord = grind (arith, nat_tests) in ap (λ n. Some (record { tab = who.tab; ord = n })) e
    by_test false is h = absurd (by_past (nat_lt who.ord count) h)

-- who is admitted lives in its tab
pub lives_if : (t : TabTable) (who : Instance) → admission t who ≡ None → live_at t who.tab ≡ Some who
lives_if t who free = lives_by who (seat_at t who.tab).page (seat_at t who.tab).count free

-- two outcomes that are one where the instance is admitted
let_in_same : (t : TabTable) (who : Instance) (row other : Outcome) → (live_at t who.tab ≡ Some who → row ≡ other) → let_in (admission t who) row ≡ let_in (admission t who) other
let_in_same t who row other same = by_rule (admission t who) refl
  where
    by_rule : (rule : Option Rule) → admission t who ≡ rule → let_in rule row ≡ let_in rule other
    by_rule None is = same (lives_if t who is)
    by_rule (Some rule) is = refl

-- who lives is admitted, and seen to live
free_if : (t : TabTable) (who : Instance) → is_live t who ≡ true → admission t who ≡ None
free_if t who live = rw live refl

live_if : (T : Tabs) (t : TabTable) (who : Instance) → TabsStand T t → live_at t who.tab ≡ Some who → is_live t who ≡ true
live_if T t who shows lives =
    let there = page_there who.tab ((seat_at t who.tab).count - 1) (seat_at t who.tab).page who lives in
    let newest : who.ord + 1 ≡ (seat_at t who.tab).count = shows.newest who.tab who lives in
    grind (arith, nat_tests, there, newest)

-- ---- the active instance

-- the active instance lives
pub active_lives : (t : TabTable) (who : Instance) → active_in t ≡ Some who → live_at t who.tab ≡ Some who
active_lives t who is = by_tab t.active is
  where
    by_tab : (tab : Option ℕ) → option_and_then (live_at t) tab ≡ Some who → live_at t who.tab ≡ Some who
    by_tab None h = cc
    by_tab (Some tab) h =
        let e : who.tab ≡ tab = tab_of tab ((seat_at t tab).count - 1) (seat_at t tab).page who h in
        let P : ℕ → Type 0 = λ n. live_at t n ≡ Some who in
        subst P (sym e) h

-- it is the journal's
pub active_same : (J : Journal) (t : Parts) → PartsStand J t → active_of t.hosts J ≡ active_in t.tabs
active_same J t stands = rw stands.active (by_tab t.tabs.active)
  where
    by_tab : (tab : Option ℕ) → option_and_then (tabs t.hosts J).live tab ≡ option_and_then (live_at t.tabs) tab
    by_tab None = refl
    by_tab (Some tab) = stands.tabs.live tab

-- Enter at the entry line, in the words of the journal's outcomes
abbrev pub enter_seen : TabTable → Option Instance → Result Page Rule → Outcome
enter_seen t None r = denied U10
enter_seen t (Some who) r = go_outcome who (origin_at t who) (next_at t who.tab) r

abbrev pub entry_key_seen : HostTable → TabTable → List ℕ → Key → Outcome
entry_key_seen H t entry Enter = enter_seen t (active_in t) (allowed H entry)
entry_key_seen H t entry key = answer (key_breaks entry key)

abbrev pub press_seen : HostTable → TabTable → Focused → Key → Outcome
press_seen H t f key = if is_entry f.spot then entry_key_seen H t f.entry_line key else page_key_outcome (active_in t) key

-- the outcome by the tables, in the words of the journal's outcomes
abbrev pub outcome_seen : Parts → Act → Outcome
outcome_seen t (Start tab url) = start_outcome (live_at t.tabs tab) (next_at t.tabs tab) (allowed t.hosts url)
outcome_seen t (Switch tab) = switch_outcome (live_at t.tabs tab)
outcome_seen t (Close tab) = close_outcome (live_at t.tabs tab)
outcome_seen t (Press key) = press_seen t.hosts t.tabs t.focus key
outcome_seen t (Click r c) = click_outcome (active_in t.tabs) r c
outcome_seen t Look = look_outcome (seen_row (seen_at t.screen))
outcome_seen t (Draw who r c height width pixels) = let_in (admission t.tabs who) (draw_outcome r c height width pixels)
outcome_seen t (Go who url) = let_in (admission t.tabs who) (go_outcome who (origin_at t.tabs who) (next_at t.tabs who.tab) (allowed t.hosts url))
outcome_seen t (CookieSet side who text) = let_in (admission t.tabs who) (answer (set_breaks text (jar_of t.jars (origin_at t.tabs who))))
outcome_seen t (CookieGet side who) = let_in (admission t.tabs who) (get_at t.jars (origin_at t.tabs who) who)
outcome_seen t other = outcome_by t other

start_seen : (page : Option Page) (tab count : ℕ) (r : Result Page Rule)
    → started_by (if is_some page then Err U1 else if nat_lt count 32 then Ok (record { tab = tab; ord = count }) else Err U3) r
    ≡ start_outcome (option_map (λ (x : Page). record { tab = tab; ord = count - 1 }) page) (record { tab = tab; ord = count }) r
start_seen (Some page) tab count r = refl
start_seen None tab count r = by_room (nat_lt count 32)
  where
    by_room : (room : Bool) → started_by (if room then Ok (record { tab = tab; ord = count }) else Err U3) r ≡ (if room then open_outcome (record { tab = tab; ord = count }) r else denied U3)
    by_room true = refl
    by_room false = refl

switch_seen : (page : Option Page) (tab count : ℕ) → (if is_some page then accepted [] else denied U2) ≡ switch_outcome (option_map (λ (x : Page). record { tab = tab; ord = count - 1 }) page)
switch_seen (Some page) tab count = refl
switch_seen None tab count = refl

go_seen : (who next : Instance) (origin : List ℕ) (page : Page) → next ≡ record { tab = who.tab; ord = who.ord + 1 } → gone_by who page (go_in who origin page) ≡ go_outcome who origin next (Ok page)
go_seen who next origin page is = rw is (by_tests (bytes_eq page.origin origin) (nat_lt who.ord 31))
  where
    by_tests : (same room : Bool) → gone_by who page (if same then Ok Same else if room then Ok (New (record { tab = who.tab; ord = who.ord + 1 })) else Err U3)
        ≡ (if same then accepted (ItemMoved who page.url ∷ []) else if room then accepted (Ended who ∷ Opened (record { tab = who.tab; ord = who.ord + 1 }) page.url ∷ []) else denied U3)
    by_tests true room = refl
    by_tests false true = refl
    by_tests false false = refl

go_at_seen : (T : Tabs) (t : TabTable) (who : Instance) (r : Result Page Rule) → TabsStand T t → live_at t who.tab ≡ Some who → go_at t who r ≡ go_outcome who (origin_at t who) (next_at t who.tab) r
go_at_seen T t who (Err rule) shows lives = refl
go_at_seen T t who (Ok page) shows lives =
    go_seen who (next_at t who.tab) (origin_at t who) page (ap (λ n. record { tab = who.tab; ord = n }) (sym (shows.newest who.tab who lives)))

enter_at_seen : (T : Tabs) (t : TabTable) (r : Result Page Rule) → TabsStand T t → (active : Option Instance) → active_in t ≡ active → enter_at t active r ≡ enter_seen t active r
enter_at_seen T t r shows None is = refl
enter_at_seen T t r shows (Some who) is = go_at_seen T t who r shows (active_lives t who is)

pub outcome-seen : (J : Journal) (t : Parts) (act : Act) → PartsStand J t → outcome_by t act ≡ outcome_seen t act
outcome-seen J t (Start tab url) stands = start_seen (seat_at t.tabs tab).page tab (seat_at t.tabs tab).count (allowed t.hosts url)
outcome-seen J t (Switch tab) stands = switch_seen (seat_at t.tabs tab).page tab (seat_at t.tabs tab).count
outcome-seen J t (Close tab) stands = refl
outcome-seen J t (Press (Byte byte)) stands = refl
outcome-seen J t (Press Back) stands = refl
outcome-seen J t (Press Enter) stands = ap (λ (row : Outcome). if is_entry t.focus.spot then row else page_key_outcome (active_in t.tabs) Enter)
    (enter_at_seen (tabs t.hosts J) t.tabs (allowed t.hosts t.focus.entry_line) stands.tabs (active_in t.tabs) refl)
outcome-seen J t (Go who url) stands = let_in_same t.tabs who (go_at t.tabs who (allowed t.hosts url)) (go_outcome who (origin_at t.tabs who) (next_at t.tabs who.tab) (allowed t.hosts url)) (go_at_seen (tabs t.hosts J) t.tabs who (allowed t.hosts url) stands.tabs)
outcome-seen J t other stands = refl

-- what is seen is the journal's screen
pub seen_screen : (J : Journal) (t : Parts) → PartsStand J t → (r c : ℕ) → r < 25 → c < 80 → seen_at t.screen r c ≡ screen t.hosts J r c
seen_screen J t stands = seen_same J t stands.displays stands.tabs (active_same J t stands) (λ who. active_lives t.tabs who)

-- Enter by the journal
enter_stands : (T : Tabs) (t : TabTable) (r : Result Page Rule) → TabsStand T t → (active : Option Instance) → active_in t ≡ active → enter_seen t active r ≡ enter_outcome T active r
enter_stands T t r shows None is = refl
enter_stands T t r shows (Some who) is = rw (shows.origin who (active_lives t who is), shows.count who.tab) refl

press_stands : (J : Journal) (t : Parts) (key : Key) → PartsStand J t → press_seen t.hosts t.tabs t.focus key ≡ out t.hosts J (Press key)
press_stands J t (Byte byte) stands = rw (active_same J t stands, stands.displays.spot, stands.displays.entry_line) refl
press_stands J t Back stands = rw (active_same J t stands, stands.displays.spot) refl
press_stands J t Enter stands = rw (active_same J t stands, stands.displays.spot, stands.displays.entry_line)
    (ap (λ (row : Outcome). if is_entry t.focus.spot then row else page_key_outcome (active_in t.tabs) Enter)
    (enter_stands (tabs t.hosts J) t.tabs (allowed t.hosts t.focus.entry_line) stands.tabs (active_in t.tabs) refl))

pub outcome_stands : (J : Journal) (t : Parts) (act : Act) → PartsStand J t → is_net act ≡ false → outcome_seen t act ≡ out t.hosts J act
outcome_stands J t (Start tab url) stands page = rw (stands.tabs.live tab, stands.tabs.count tab) refl
outcome_stands J t (Switch tab) stands page = rw (stands.tabs.live tab) refl
outcome_stands J t (Close tab) stands page = rw (stands.tabs.live tab) refl
outcome_stands J t (Press key) stands page = press_stands J t key stands
outcome_stands J t (Click r c) stands page = rw (active_same J t stands) refl
outcome_stands J t Look stands page = looks_same (seen_at t.screen) (screen t.hosts J) (seen_screen J t stands)
outcome_stands J t (Draw who r c height width pixels) stands page = sym (let_in_by (tabs t.hosts J) t.tabs who (draw_outcome r c height width pixels) stands.tabs)
outcome_stands J t (Go who url) stands page =
    let_in_same t.tabs who (go_outcome who (origin_at t.tabs who) (next_at t.tabs who.tab) (allowed t.hosts url)) (go_outcome who (origin_of t.hosts J who) (next_in (tabs t.hosts J) who.tab) (allowed t.hosts url))
    (λ lives. rw (stands.tabs.origin who lives, stands.tabs.count who.tab) refl)
    ∙ sym (let_in_by (tabs t.hosts J) t.tabs who (go_outcome who (origin_of t.hosts J who) (next_in (tabs t.hosts J) who.tab) (allowed t.hosts url)) stands.tabs)
outcome_stands J t (CookieSet side who text) stands page =
    let_in_same t.tabs who (answer (set_breaks text (jar_of t.jars (origin_at t.tabs who)))) (set_outcome text (sets_of t.hosts J (origin_of t.hosts J who)))
    (λ lives. rw (stands.tabs.origin who lives) (ap (λ cookies. answer (set_breaks text cookies)) (stands.jars (origin_at t.tabs who))))
    ∙ sym (let_in_by (tabs t.hosts J) t.tabs who (set_outcome text (sets_of t.hosts J (origin_of t.hosts J who))) stands.tabs)
outcome_stands J t (CookieGet side who) stands page =
    let_in_same t.tabs who (get_at t.jars (origin_at t.tabs who) who) (get_outcome who (sets_of t.hosts J (origin_of t.hosts J who)))
    (λ lives. rw (stands.tabs.origin who lives) (ap (λ (cookies : List Cookie). accepted (Cookies who (jar_text cookies) ∷ [])) (stands.jars (origin_at t.tabs who))))
    ∙ sym (let_in_by (tabs t.hosts J) t.tabs who (get_outcome who (sets_of t.hosts J (origin_of t.hosts J who))) stands.tabs)
outcome_stands J t (Put who key bytes) stands page =
    let row = put_outcome who (origin_of t.hosts J who) key bytes (objects_of t.hosts J (origin_of t.hosts J who)) in
    let_in_same t.tabs who (put_outcome who (origin_at t.tabs who) key bytes (objects_kept t.store (origin_at t.tabs who))) row
    (λ lives. rw (stands.tabs.origin who lives) (ap (put_outcome who (origin_at t.tabs who) key bytes) (stands.objects (origin_at t.tabs who))))
    ∙ sym (let_in_by (tabs t.hosts J) t.tabs who row stands.tabs)
outcome_stands J t (Ask who key) stands page =
    let row = ask_outcome who (origin_of t.hosts J who) key (requests_of J who) in
    let_in_same t.tabs who (ask_outcome who (origin_at t.tabs who) key (own_requests t.store who)) row
    (λ lives. rw (stands.tabs.origin who lives) (ap (ask_outcome who (origin_at t.tabs who) key) (own_asked J t who stands (live_if (tabs t.hosts J) t.tabs who stands.tabs lives))))
    ∙ sym (let_in_by (tabs t.hosts J) t.tabs who row stands.tabs)
outcome_stands J t (StoreAnswer who request origin key version) stands page =
    ap (object_outcome who request version) (label_stands J t who request origin key version stands (λ live. stands.tabs.origin who (lives_if t.tabs who (free_if t.tabs who live))))
outcome_stands J t (StoreNone who request) stands page = ap (λ found. none_outcome who request (none_answer found)) (key_stands J t who request stands)
outcome_stands J t (StoreLose origin key version) stands page = ap (λ (objects : List KeyObject). unless_denied (lose_answer version (newest_in objects key))) (stands.objects origin)
outcome_stands J t other stands page = absurd (cc page)
