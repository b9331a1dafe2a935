-- Requests go with their instances.
use Rattle.std.proofs.Common.{◌≡◌, ◌≢◌, ℕ, ◌+◌, ◌-◌, ◌<◌, Bool, true, false, List, [], length, Option, Some, None, Ok, Err, Result, IfSome, refl, sym, ◌∙◌, ap, subst, arith}
use Rattle.std.specs.Prelude.{bytes_eq, is_some, nat_lt, ◌&&◌, ◌==◌, if◌then◌else◌}
use Rattle.std.proofs.lemmas.Bool.Decides.{nat_tests}
use Rattle.ibos_kinds.specs.declared.names.Instance.{Instance}
use Rattle.ibos_kinds.specs.declared.names.Key.TheVariants.{Byte, Enter, Back}
use Rattle.ibos_kinds.specs.declared.act.Act.{Act}
use Rattle.ibos_kinds.specs.declared.act.Act.TheVariants.{Start, Switch, Close, Press, Click, Look, Go, Draw, CookieSet, CookieGet, Put, Ask, StoreAnswer, StoreNone, StoreLose}
use Rattle.ibos_kinds.specs.declared.outcome.Item.{Item}
use Rattle.ibos_kinds.specs.declared.outcome.Outcome.{Outcome}
use Rattle.ibos_kinds.specs.declared.rule.Rule.{Rule}
use Rattle.ibos_kinds.specs.declared.rule.Rule.TheVariants.{U2, U3}
use Rattle.ibos_kinds.specs.Cookies.{set_breaks}
use Rattle.ibos_kinds.specs.Keyboard.{key_breaks}
use Rattle.ibos_kinds.specs.Limits.{Fits}
use Rattle.ibos_kinds.specs.Requests.{Requests, no_requests}
use Rattle.ibos_kinds.specs.Screens.{draw_breaks}
use Rattle.ibos_origin.specs.Pages.{Page, allowed}
use Rattle.ibos_page.specs.declared.tabs.Moved.TheVariants.{Same, New}
use Rattle.ibos_page.specs.Tabs.{TabTable, seat_at, live_at, active_in, admission, start_in, is_live_in, next_at, opened, moved, closed, with_seat, without}
use Rattle.ibos_cookie.specs.Jars.{jar_of}
use Rattle.ibos_store.specs.Stores.{StoreState, requests_of}
use Rattle.ibos_model.specs.Journal.{is_ok, same}
use Rattle.ibos_model.specs.Outcomes.{accepted, answer, close_outcome, denied, page_key_outcome}
use Rattle.ibos_model.specs.Stored.{is_about}
use Rattle.ibos_net.specs.NetStanding.{is_net}
use Rattle.ibos_kernel.specs.Halves.{ended_in, opened_in}
use Rattle.ibos_kernel.specs.Storage.{IsAskedWhereLive, asked_by, followed, is_one, kept_by}
use Rattle.ibos_kernel.specs.Tables.{Parts, IsBeside, Makes, enter_at, go_at, gone_by, is_entry, is_live, let_in, origin_at, outcome_by, started_by, tabs_after, with_entered, with_gone, with_started}
use Rattle.ibos_kernel.proofs.ContentsFollow.{after, live_opened, live_replaced, next_not_live, started_free, started_who}
use Rattle.ibos_kernel.proofs.Outcomes.{active_lives, lives_if}
use Rattle.ibos_kernel.proofs.ScreenStands.{active_within}
use Rattle.ibos_kernel.proofs.TabsStanding.{page_there, seat-with, tab_of}
use Rattle.ibos_kernel.proofs.Turns.{IsQuiet, and_true, quiet_answer, quiet_click, quiet_if, quiet_key, quiet_let_in, quiet_storage}

-- ---- which instances live after an act, by its items

abbrev lives_by : Option Instance → Option Instance → Instance → Bool → Bool
lives_by ended opened q lived = if is_one opened q then true else if is_one ended q then false else lived

pub record TurnsOver (old new : TabTable) (items : List Item) : Type 0 where
  pub ends : IfSome (ended_in items) (λ who. is_live old who ≡ true)
  pub begins : IfSome (opened_in items) (λ who. is_live old who ≡ false)
  pub lives : (q : Instance) → is_live new q ≡ lives_by (ended_in items) (opened_in items) q (is_live old q)

still : (t : TabTable) (o : Outcome) → IsQuiet o.items → TurnsOver t t o.items
still t o quiet = record {
  ends = rw quiet.0 tt;
  begins = rw quiet.1 tt;
  lives = λ q. rw (quiet.0, quiet.1) refl;
}

live_if : (t : TabTable) (who : Instance) → ((tab : ℕ) (q : Instance) → live_at t tab ≡ Some q → q.ord + 1 ≡ (seat_at t tab).count) → live_at t who.tab ≡ Some who → is_live t who ≡ true
live_if t who newest lives =
    let there = page_there who.tab ((seat_at t who.tab).count - 1) (seat_at t who.tab).page who lives in
    let last : who.ord + 1 ≡ (seat_at t who.tab).count = newest who.tab who lives in
    grind (arith, nat_tests, there, last)

-- an instance starts
start_over : (t : TabTable) (tab : ℕ) (r : Result Page Rule) → length t.seats ≡ 64 → tab < 64 → (may : Result Instance Rule) → start_in t tab ≡ may
    → let row = started_by may r in TurnsOver t (if is_ok row.head then with_started t tab r else t) row.items
start_over t tab r room within (Err rule) is = still t (denied rule) (refl, refl, refl)
start_over t tab (Err rule) room within (Ok who) is = still t (denied rule) (refl, refl, refl)
start_over t tab (Ok page) room within (Ok who) is =
    let free = started_free t tab who is in
    let next : next_at t tab ≡ who = started_who t tab who is in
    record {
      ends = tt;
      begins = ap (is_live t) (sym next) ∙ next_not_live t tab free;
      lives = λ q. live_opened t tab page q room within free ∙ ap (λ (p : Instance). if same p q then true else is_live t q) next;
    }

live_closed : (t : TabTable) (who q : Instance) → length t.seats ≡ 64 → who.tab < 64 → is_some (seat_at t who.tab).page ≡ true → who.ord + 1 ≡ (seat_at t who.tab).count
    → is_live (with_seat t who.tab (closed (seat_at t who.tab))) q ≡ (if same who q then false else is_live t q)
live_closed t who q room within there newest = rw (seat-with t who.tab q.tab (closed (seat_at t who.tab)) room within) (by_tab (q.tab == who.tab) refl)
  where
    by_tab : (here : Bool) → (q.tab == who.tab) ≡ here → is_live_in q (if here then closed (seat_at t who.tab) else seat_at t q.tab) ≡ (if same who q then false else is_live t q)
    by_tab true here = let e : q.tab ≡ who.tab = grind (arith, nat_tests) in rw e (grind (arith, nat_tests, there, here, newest))
    by_tab false here = grind (arith, nat_tests, here)

-- a tab is closed
close_over : (t : TabTable) (tab : ℕ) → length t.seats ≡ 64 → tab < 64 → ((n : ℕ) (q : Instance) → live_at t n ≡ Some q → q.ord + 1 ≡ (seat_at t n).count) → (live : Option Instance) → live_at t tab ≡ live
    → let row = close_outcome live in TurnsOver t (if is_ok row.head then record (with_seat t tab (closed (seat_at t tab))) { active = without tab t.active } else t) row.items
close_over t tab room within newest None is = still t (close_outcome None) (refl, refl, refl)
close_over t tab room within newest (Some who) is =
    let here : tab ≡ who.tab = sym (tab_of tab ((seat_at t tab).count - 1) (seat_at t tab).page who is) in
    let L : ℕ → Type 0 = λ n. live_at t n ≡ Some who in
    let W : ℕ → Type 0 = λ n. n < 64 in
    let lives : live_at t who.tab ≡ Some who = subst L here is in
    let there = page_there who.tab ((seat_at t who.tab).count - 1) (seat_at t who.tab).page who lives in
    let P : ℕ → Type 0 = λ n. (q : Instance) → is_live (with_seat t n (closed (seat_at t n))) q ≡ (if same who q then false else is_live t q) in
    let law : (q : Instance) → is_live (with_seat t tab (closed (seat_at t tab))) q ≡ (if same who q then false else is_live t q)
    = subst P (sym here) (λ q. live_closed t who q room (subst W here within) there (newest who.tab who lives)) in
    record { ends = live_if t who newest lives; begins = tt; lives = law }

live_moved : (t : TabTable) (who : Instance) (page : Page) (q : Instance) → length t.seats ≡ 64 → who.tab < 64 → is_some (seat_at t who.tab).page ≡ true
    → is_live (with_seat t who.tab (moved page (seat_at t who.tab))) q ≡ is_live t q
live_moved t who page q room within there = rw (seat-with t who.tab q.tab (moved page (seat_at t who.tab)) room within) (by_tab (q.tab == who.tab) refl)
  where
    by_tab : (here : Bool) → (q.tab == who.tab) ≡ here → is_live_in q (if here then moved page (seat_at t who.tab) else seat_at t q.tab) ≡ is_live t q
    by_tab true here = let e : q.tab ≡ who.tab = grind (arith, nat_tests) in rw e (grind (arith, nat_tests, there))
    by_tab false here = refl

next_is_not : (t : TabTable) (who : Instance) → who.ord + 1 ≡ (seat_at t who.tab).count → is_live t (after who) ≡ false
next_is_not t who newest = grind (arith, nat_tests, newest)

-- an instance that lives goes to a page
go_over : (t : TabTable) (who : Instance) (r : Result Page Rule) → length t.seats ≡ 64 → ((n : ℕ) (q : Instance) → live_at t n ≡ Some q → q.ord + 1 ≡ (seat_at t n).count) → live_at t who.tab ≡ Some who
    → let row = go_at t who r in TurnsOver t (if is_ok row.head then with_gone t who r else t) row.items
go_over t who (Err rule) room newest lives = still t (denied rule) (refl, refl, refl)
go_over t who (Ok page) room newest lives = by_tests (bytes_eq page.origin (origin_at t who)) (nat_lt who.ord 31)
  where
    within : who.tab < 64
    within = active_within t who room lives

    there : is_some (seat_at t who.tab).page ≡ true
    there = page_there who.tab ((seat_at t who.tab).count - 1) (seat_at t who.tab).page who lives

    by_tests : (one low : Bool) → let row = gone_by who page (if one then Ok Same else if low then Ok (New (record { tab = who.tab; ord = who.ord + 1 })) else Err U3) in
        TurnsOver t (if is_ok row.head then with_seat t who.tab (if one then moved page (seat_at t who.tab) else opened page (seat_at t who.tab)) else t) row.items
    by_tests true low = record { ends = tt; begins = tt; lives = λ q. live_moved t who page q room within there }
    by_tests false true = record {
      ends = live_if t who newest lives;
      begins = next_is_not t who (newest who.tab who lives);
      lives = λ q. live_replaced t who page q room within there (newest who.tab who lives);
    }
    by_tests false false = still t (denied U3) (refl, refl, refl)

admitted_over : (t : TabTable) (who : Instance) (r : Result Page Rule) → length t.seats ≡ 64 → ((n : ℕ) (q : Instance) → live_at t n ≡ Some q → q.ord + 1 ≡ (seat_at t n).count)
    → (rule : Option Rule) → admission t who ≡ rule → let row = let_in rule (go_at t who r) in TurnsOver t (if is_ok row.head then with_gone t who r else t) row.items
admitted_over t who r room newest None free = go_over t who r room newest (lives_if t who free)
admitted_over t who r room newest (Some rule) free = still t (denied rule) (refl, refl, refl)

-- Enter
enter_over : (t : TabTable) (r : Result Page Rule) → length t.seats ≡ 64 → ((n : ℕ) (q : Instance) → live_at t n ≡ Some q → q.ord + 1 ≡ (seat_at t n).count)
    → (at_entry_line : Bool) (active : Option Instance) → active_in t ≡ active
    → let row = if at_entry_line then enter_at t active r else page_key_outcome active Enter in TurnsOver t (if is_ok row.head && at_entry_line then with_entered t active r else t) row.items
enter_over t r room newest true None is = still t (enter_at t None r) (refl, refl, refl)
enter_over t r room newest true (Some who) is = rw (and_true (is_ok (go_at t who r).head)) (go_over t who r room newest (active_lives t who is))
enter_over t r room newest false None is = still t (page_key_outcome None Enter) (refl, refl, refl)
enter_over t r room newest false (Some who) is = still t (page_key_outcome (Some who) Enter) (refl, refl, refl)

switch_over : (t : TabTable) (tab : ℕ) (some : Bool) → let row = if some then accepted [] else denied U2 in TurnsOver t (if is_ok row.head then record t { active = Some tab } else t) row.items
switch_over t tab true = record { ends = tt; begins = tt; lives = λ q. refl }
switch_over t tab false = record { ends = tt; begins = tt; lives = λ q. refl }

act_over : (t : Parts) (act : Act) → is_net act ≡ false → IsBeside t.tabs t.screen → Fits act → let row = outcome_by t act in TurnsOver t.tabs (tabs_after t (is_ok row.head) act) row.items
act_over t (Start tab url) page beside fits = start_over t.tabs tab (allowed t.hosts url) beside.room fits (start_in t.tabs tab) refl
act_over t (Switch tab) page beside fits = switch_over t.tabs tab (is_some (seat_at t.tabs tab).page)
act_over t (Close tab) page beside fits = close_over t.tabs tab beside.room fits beside.newest (live_at t.tabs tab) refl
act_over t (Press (Byte byte)) page beside fits = still t.tabs (outcome_by t (Press (Byte byte)))
    (quiet_if (is_entry t.focus.spot) (answer (key_breaks t.focus.entry_line (Byte byte))) _ (quiet_answer (key_breaks t.focus.entry_line (Byte byte))) (quiet_key (active_in t.tabs) (Byte byte)))
act_over t (Press Back) page beside fits = still t.tabs (outcome_by t (Press Back))
    (quiet_if (is_entry t.focus.spot) (answer (key_breaks t.focus.entry_line Back)) _ (quiet_answer (key_breaks t.focus.entry_line Back)) (quiet_key (active_in t.tabs) Back))
act_over t (Press Enter) page beside fits = enter_over t.tabs (allowed t.hosts t.focus.entry_line) beside.room beside.newest (is_entry t.focus.spot) (active_in t.tabs) refl
act_over t (Click r c) page beside fits = still t.tabs (outcome_by t (Click r c)) (quiet_click (active_in t.tabs) r c)
act_over t Look page beside fits = still t.tabs (outcome_by t Look) (refl, refl, refl)
act_over t (Draw who r c height width pixels) page beside fits = still t.tabs (outcome_by t (Draw who r c height width pixels)) (quiet_let_in (admission t.tabs who) _ (quiet_answer (draw_breaks r c height width pixels)))
act_over t (Go who url) page beside fits = admitted_over t.tabs who (allowed t.hosts url) beside.room beside.newest (admission t.tabs who) refl
act_over t (CookieSet side who text) page beside fits = still t.tabs (outcome_by t (CookieSet side who text)) (quiet_let_in (admission t.tabs who) _ (quiet_answer (set_breaks text (jar_of t.jars (origin_at t.tabs who)))))
act_over t (CookieGet side who) page beside fits = still t.tabs (outcome_by t (CookieGet side who)) (quiet_let_in (admission t.tabs who) _ (refl, refl, refl))
act_over t (Put who key bytes) page beside fits = still t.tabs (outcome_by t (Put who key bytes)) (quiet_let_in (admission t.tabs who) _ (quiet_storage (origin_at t.tabs) t.store (Put who key bytes)))
act_over t (Ask who key) page beside fits = still t.tabs (outcome_by t (Ask who key)) (quiet_let_in (admission t.tabs who) _ (quiet_storage (origin_at t.tabs) t.store (Ask who key)))
act_over t (StoreAnswer who request origin key version) page beside fits = still t.tabs (outcome_by t (StoreAnswer who request origin key version)) (quiet_storage (origin_at t.tabs) t.store (StoreAnswer who request origin key version))
act_over t (StoreNone who request) page beside fits = still t.tabs (outcome_by t (StoreNone who request)) (quiet_storage (origin_at t.tabs) t.store (StoreNone who request))
act_over t (StoreLose origin key version) page beside fits = still t.tabs (outcome_by t (StoreLose origin key version)) (quiet_storage (origin_at t.tabs) t.store (StoreLose origin key version))
act_over t other page beside fits = absurd (cc page)

pub turns_over : (t made : Parts) (act : Act) (outcome : Outcome) → is_net act ≡ false → IsBeside t.tabs t.screen → Fits act → Makes t act outcome made → TurnsOver t.tabs made.tabs outcome.items
turns_over t made act outcome page beside fits makes =
    let P : Outcome → Type 0 = λ o. TurnsOver t.tabs (tabs_after t (is_ok o.head) act) o.items in
    let Q : TabTable → Type 0 = λ new. TurnsOver t.tabs new outcome.items in
    subst Q (sym makes.tabs_are) (subst P (sym makes.outcome_is) (act_over t act page beside fits))

-- ---- requests that are kept

-- an act leaves whose requests are kept
asked_some : (about ok : Bool) (act : Act) (old : Option Requests) → is_some (asked_by about ok act old) ≡ is_some old
asked_some about ok (Ask who key) None = refl
asked_some about ok (Ask who key) (Some requests) = refl
asked_some about ok (StoreAnswer who request origin key version) None = refl
asked_some about ok (StoreAnswer who request origin key version) (Some requests) = refl
asked_some about ok (StoreNone who request) None = refl
asked_some about ok (StoreNone who request) (Some requests) = refl
asked_some about ok other old = refl

abbrev pub AreAsked : StoreState → StoreState → Bool → Act → Type 0
AreAsked old new ok act = (q : Instance) → requests_of new q ≡ asked_by (is_about q act) ok act (requests_of old q)

some_where : (t : TabTable) (old new : StoreState) (ok : Bool) (act : Act) → IsAskedWhereLive t old → AreAsked old new ok act → (q : Instance) → is_some (requests_of new q) ≡ is_live t q
some_where t old new ok act asked are q = ap is_some (are q) ∙ asked_some (is_about q act) ok act (requests_of old q) ∙ asked q

not_none : (o : Option Requests) → is_some o ≡ true → o ≢ None
not_none (Some requests) h = λ e. cc
not_none None h = absurd (cc h)

is_none : (o : Option Requests) → is_some o ≡ false → o ≡ None
is_none (Some requests) h = absurd (cc h)
is_none None h = refl

if_some : (P Q : Instance → Type 0) (o : Option Instance) → ((x : Instance) → P x → Q x) → IfSome o P → IfSome o Q
if_some P Q None law p = tt
if_some P Q (Some x) law p = law x p

pub ends_if : (t new : TabTable) (items : List Item) (old made : StoreState) (ok : Bool) (act : Act) (ended : Option Instance) → ended ≡ ended_in items → IsAskedWhereLive t old → AreAsked old made ok act
    → TurnsOver t new items → IfSome ended (λ who. requests_of made who ≢ None)
ends_if t new items old made ok act ended is asked are turn = rw is (if_some (λ who. is_live t who ≡ true) (λ who. requests_of made who ≢ None) (ended_in items)
    (λ who lives. not_none (requests_of made who) (some_where t old made ok act asked are who ∙ lives)) turn.ends)

pub begins_if : (t new : TabTable) (items : List Item) (old made : StoreState) (ok : Bool) (act : Act) (opened : Option Instance) → opened ≡ opened_in items → IsAskedWhereLive t old → AreAsked old made ok act
    → TurnsOver t new items → IfSome opened (λ who. requests_of made who ≡ None)
begins_if t new items old made ok act opened is asked are turn = rw is (if_some (λ who. is_live t who ≡ false) (λ who. requests_of made who ≡ None) (opened_in items)
    (λ who dead. is_none (requests_of made who) (some_where t old made ok act asked are who ∙ dead)) turn.begins)

-- one that starts didn't live
opened_dead : (t : TabTable) (opened : Option Instance) (q : Instance) → IfSome opened (λ who. is_live t who ≡ false) → is_one opened q ≡ true → is_live t q ≡ false
opened_dead t None q dead one = absurd (cc one)
opened_dead t (Some who) q dead one =
    let here : who ≡ q = grind (arith, nat_tests) in
    ap (is_live t) (sym here) ∙ dead

kept_tests : (opened ended lived : Bool) (kept : Option Requests) → (opened ≡ true → lived ≡ false) → is_some kept ≡ lived
    → (if opened then Some no_requests else if ended then None else kept) ≡ kept_by lived (if opened then true else if ended then false else lived) kept
kept_tests true ended true kept dead some = absurd (cc (dead refl))
kept_tests true ended false kept dead some = refl
kept_tests false true lived kept dead some = refl
kept_tests false false true kept dead some = refl
kept_tests false false false kept dead some = is_none kept some

pub requests_follow : (t new : TabTable) (items : List Item) (old made : StoreState) (ok : Bool) (act : Act) (ended opened : Option Instance) → ended ≡ ended_in items → opened ≡ opened_in items
    → IsAskedWhereLive t old → AreAsked old made ok act → TurnsOver t new items → (q : Instance)
    → followed ended opened q (requests_of made q) ≡ kept_by (is_live t q) (is_live new q) (asked_by (is_about q act) ok act (requests_of old q))
requests_follow t new items old made ok act ended opened ended_is opened_is asked are turn q = rw (ended_is, opened_is, turn.lives q)
    (kept_tests (is_one (opened_in items) q) (is_one (ended_in items) q) (is_live t q) (requests_of made q) (λ one. opened_dead t (opened_in items) q turn.begins one) (some_where t old made ok act asked are q)
    ∙ ap (kept_by (is_live t q) (lives_by (ended_in items) (opened_in items) q (is_live t q))) (are q))
