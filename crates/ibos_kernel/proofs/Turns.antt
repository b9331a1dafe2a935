-- Which instance an act of the pages' half ends, and which one it starts.
use Rattle.std.proofs.Common.{◌≡◌, ℕ, ◌-◌, ◌<◌, Bool, true, false, List, [], ◌∷◌, Option, Some, None, Result, Ok, Err, refl, sym, ◌∙◌, ap, subst, arith}
use Rattle.std.specs.Prelude.{bytes_eq, nat_lt, slice_set, ◌&&◌, not, if◌then◌else◌}
use Rattle.std.proofs.lemmas.Bool.Decides.{nat_tests}
use Rattle.ibos_kinds.specs.declared.names.Instance.{Instance}
use Rattle.ibos_kinds.specs.declared.names.Key.{Key}
use Rattle.ibos_kinds.specs.declared.names.Key.TheVariants.{Byte, Enter, Back}
use Rattle.ibos_kinds.specs.declared.act.Act.{Act}
use Rattle.ibos_kinds.specs.declared.act.Act.TheVariants.{Start, Switch, Close, Press, Click, Look, Go, Draw, CookieSet, CookieGet, Put, Ask, StoreAnswer, StoreNone, StoreLose}
use Rattle.ibos_kinds.specs.declared.outcome.Item.{Item}
use Rattle.ibos_kinds.specs.declared.outcome.Item.TheVariants.{Opened, Moved as ItemMoved, Ended}
use Rattle.ibos_kinds.specs.declared.outcome.Outcome.{Outcome}
use Rattle.ibos_kinds.specs.declared.rule.Rule.{Rule}
use Rattle.ibos_kinds.specs.declared.rule.Rule.TheVariants.{U3, U12}
use Rattle.ibos_kinds.specs.Keyboard.{key_breaks}
use Rattle.ibos_kinds.specs.Limits.{Fits}
use Rattle.ibos_kinds.specs.Cookies.{set_breaks}
use Rattle.ibos_kinds.specs.Labels.{ask_answer, label_answer, lose_answer, none_answer, put_answer}
use Rattle.ibos_kinds.specs.Screens.{chrome_rows, draw_breaks, is_on_screen}
use Rattle.ibos_origin.specs.Hosts.{HostTable}
use Rattle.ibos_origin.specs.Pages.{Page, allowed}
use Rattle.ibos_page.specs.Seats.{Seat}
use Rattle.ibos_page.specs.Tabs.{TabTable, seat_at, live_at, active_in, next_at, admission, opened, moved, closed, with_seat, without}
use Rattle.ibos_cookie.specs.Jars.{jar_of}
use Rattle.ibos_store.specs.Stores.{StoreState, key_of, object_at, objects_of}
use Rattle.ibos_model.specs.Focus.{focus_of}
use Rattle.ibos_model.specs.Journal.{Journal, Nothing, is_ok, kind_in}
use Rattle.ibos_model.specs.Tabs.{Change, Opens, Moves, Ends, Tabs, changes, entering, if_ok, leave, end, next_in, opening, tabs}
use Rattle.ibos_model.specs.Outcomes.{accepted, answer, click_outcome, close_outcome, content_click_outcome, denied, go_outcome, none_outcome, object_outcome, open_outcome, page_key_outcome, request_outcome, start_outcome, switch_outcome, unless_denied, version_outcome}
use Rattle.ibos_net.specs.NetStanding.{is_net}
use Rattle.ibos_kernel.specs.Storage.{own_requests, storage_outcome}
use Rattle.ibos_kernel.specs.Tables.{Parts, is_entry, let_in, origin_at, tabs_after, with_entered, with_gone, with_started}
use Rattle.ibos_kernel.specs.Standing.{TabsStand, PartsStand}
use Rattle.ibos_kernel.specs.Halves.{ended_in, opened_in}
use Rattle.ibos_kernel.proofs.TabsStanding.{tab_of}
use Rattle.ibos_kernel.proofs.ActsStand.{no_page}
use Rattle.ibos_kernel.proofs.Outcomes.{active_lives, active_same, enter_seen, lives_if, outcome_seen}

-- the items tell of no end, of no start, and of no frame
abbrev pub IsQuiet : List Item → Type 0
IsQuiet items = (ended_in items ≡ None) × (opened_in items ≡ None) × (kind_in items ≡ Nothing)

-- the seat of a tab was written
abbrev pub IsSeated : TabTable → TabTable → ℕ → (seat : Seat) → Type 0
IsSeated old new tab seat = new.seats ≡ slice_set old.seats tab seat

pub data Turn (H : HostTable) (old new : TabTable) (items : List Item) (cs : List Change) : Type 0 where
  Stays : new.seats ≡ old.seats → IsQuiet items → cs ≡ [] → Turn H old new items cs
  Shows : (who : Instance) (page : Page) → live_at old who.tab ≡ Some who → IsSeated old new who.tab (moved page (seat_at old who.tab)) → IsQuiet items
      → cs ≡ Moves who page.url ∷ [] → Turn H old new items cs
  Starts : (tab : ℕ) (text : List ℕ) (page : Page) → tab < 64 → (seat_at old tab).page ≡ None → (seat_at old tab).count < 32 → allowed H text ≡ Ok page
      → IsSeated old new tab (opened page (seat_at old tab)) → ended_in items ≡ None → opened_in items ≡ Some (next_at old tab) → cs ≡ Opens (next_at old tab) page ∷ [] → Turn H old new items cs
  Closes : (who : Instance) → live_at old who.tab ≡ Some who → IsSeated old new who.tab (closed (seat_at old who.tab)) → ended_in items ≡ Some who → opened_in items ≡ None
      → cs ≡ Ends who ∷ [] → Turn H old new items cs
  Leaves : (who : Instance) (text : List ℕ) (page : Page) → live_at old who.tab ≡ Some who → who.ord < 31 → allowed H text ≡ Ok page
      → IsSeated old new who.tab (opened page (seat_at old who.tab)) → ended_in items ≡ Some who → opened_in items ≡ Some (next_at old who.tab)
      → cs ≡ Ends who ∷ Opens (next_at old who.tab) page ∷ [] → Turn H old new items cs

-- nothing changes
stay : (H : HostTable) (t : TabTable) (o : Outcome) → IsQuiet o.items → Turn H t t o.items []
stay H t o quiet = Stays refl quiet refl

-- ---- quiet outcomes

pub quiet_answer : (rule : Option Rule) → IsQuiet (answer rule).items
quiet_answer None = (refl, refl, refl)
quiet_answer (Some rule) = (refl, refl, refl)

pub quiet_let_in : (rule : Option Rule) (row : Outcome) → IsQuiet row.items → IsQuiet (let_in rule row).items
quiet_let_in None row quiet = quiet
quiet_let_in (Some rule) row quiet = (refl, refl, refl)

pub quiet_key : (active : Option Instance) (key : Key) → IsQuiet (page_key_outcome active key).items
quiet_key None key = (refl, refl, refl)
quiet_key (Some who) key = (refl, refl, refl)

pub quiet_if : (test : Bool) (row other : Outcome) → IsQuiet row.items → IsQuiet other.items → IsQuiet (if test then row else other).items
quiet_if true row other quiet quiet_other = quiet
quiet_if false row other quiet quiet_other = quiet_other

quiet_content : (active : Option Instance) (r c : ℕ) → IsQuiet (content_click_outcome active r c).items
quiet_content None r c = (refl, refl, refl)
quiet_content (Some who) r c = (refl, refl, refl)

pub quiet_click : (active : Option Instance) (r c : ℕ) → IsQuiet (click_outcome active r c).items
quiet_click active r c = quiet_if (not (is_on_screen r c)) (denied U12) _ (refl, refl, refl)
    (quiet_if (nat_lt r chrome_rows) (accepted []) (content_click_outcome active (r - chrome_rows) c) (refl, refl, refl) (quiet_content active (r - chrome_rows) c))

quiet_version : (who : Instance) (origin key bytes : List ℕ) (r : Result ℕ Rule) → IsQuiet (version_outcome who origin key bytes r).items
quiet_version who origin key bytes (Ok version) = (refl, refl, refl)
quiet_version who origin key bytes (Err rule) = (refl, refl, refl)

quiet_request : (who : Instance) (origin key : List ℕ) (r : Result ℕ Rule) → IsQuiet (request_outcome who origin key r).items
quiet_request who origin key (Ok request) = (refl, refl, refl)
quiet_request who origin key (Err rule) = (refl, refl, refl)

quiet_object : (who : Instance) (request version : ℕ) (r : Result (List ℕ) Rule) → IsQuiet (object_outcome who request version r).items
quiet_object who request version (Ok bytes) = (refl, refl, refl)
quiet_object who request version (Err rule) = (refl, refl, refl)

quiet_none : (who : Instance) (request : ℕ) (r : Result Unit Rule) → IsQuiet (none_outcome who request r).items
quiet_none who request (Ok x) = (refl, refl, refl)
quiet_none who request (Err rule) = (refl, refl, refl)

quiet_lost : (r : Result Unit Rule) → IsQuiet (unless_denied r).items
quiet_lost (Ok x) = (refl, refl, refl)
quiet_lost (Err rule) = (refl, refl, refl)

pub quiet_storage : (origins : Instance → List ℕ) (store : StoreState) (act : Act) → IsQuiet (storage_outcome origins store act).items
quiet_storage origins store (Put who key bytes) = quiet_version who (origins who) key bytes (put_answer key bytes (objects_of store (origins who)))
quiet_storage origins store (Ask who key) = quiet_request who (origins who) key (ask_answer key (own_requests store who))
quiet_storage origins store (StoreAnswer who request origin key version) =
    quiet_object who request version (label_answer (key_of store who request) (origins who) origin key version (object_at store origin key))
quiet_storage origins store (StoreNone who request) = quiet_none who request (none_answer (key_of store who request))
quiet_storage origins store (StoreLose origin key version) = quiet_lost (lose_answer version (object_at store origin key))
quiet_storage origins store other = (refl, refl, refl)

-- ---- starts, closes and goes

start_turn : (H : HostTable) (T : Tabs) (t : TabTable) (tab : ℕ) (text : List ℕ) → TabsStand T t → tab < 64 → (r : Result Page Rule) → allowed H text ≡ r
    → let row = start_outcome (live_at t tab) (next_at t tab) r in Turn H t (if is_ok row.head then with_started t tab r else t) row.items (if_ok (is_ok row.head) (opening T tab r))
start_turn H T t tab text shows within r is = by_live (live_at t tab) refl
  where
    by_room : (room : Bool) → nat_lt (seat_at t tab).count 32 ≡ room → (seat_at t tab).page ≡ None → (q : Result Page Rule) → allowed H text ≡ q
        → let row = if room then open_outcome (next_at t tab) q else denied U3 in Turn H t (if is_ok row.head then with_started t tab q else t) row.items (if_ok (is_ok row.head) (opening T tab q))
    by_room true low none (Ok page) allows = Starts tab text page within none (grind (arith, nat_tests)) allows refl refl refl
        (ap (λ n. Opens (record { tab = tab; ord = n }) page ∷ []) (shows.count tab))
    by_room true low none (Err rule) allows = stay H t (denied rule) (refl, refl, refl)
    by_room false low none q allows = stay H t (denied U3) (refl, refl, refl)

    by_live : (live : Option Instance) → live_at t tab ≡ live
        → let row = start_outcome live (next_at t tab) r in Turn H t (if is_ok row.head then with_started t tab r else t) row.items (if_ok (is_ok row.head) (opening T tab r))
    by_live (Some who) lives = stay H t (start_outcome (Some who) (next_at t tab) r) (refl, refl, refl)
    by_live None lives = by_room (nat_lt (seat_at t tab).count 32) refl (no_page (seat_at t tab) tab lives) r is

close_turn : (H : HostTable) (T : Tabs) (t : TabTable) (tab : ℕ) → TabsStand T t → (live : Option Instance) → live_at t tab ≡ live
    → let row = close_outcome live in Turn H t (if is_ok row.head then record (with_seat t tab (closed (seat_at t tab))) { active = without tab t.active } else t) row.items (if_ok (is_ok row.head) (end (T.live tab)))
close_turn H T t tab shows None lives = stay H t (close_outcome None) (refl, refl, refl)
close_turn H T t tab shows (Some who) lives =
    let here : who.tab ≡ tab = tab_of tab ((seat_at t tab).count - 1) (seat_at t tab).page who lives in
    let P : ℕ → Type 0 = λ n. live_at t n ≡ Some who in
    let Q : ℕ → Type 0 = λ n. slice_set t.seats tab (closed (seat_at t tab)) ≡ slice_set t.seats n (closed (seat_at t n)) in
    Closes who (subst P (sym here) lives) (subst Q (sym here) refl) refl refl (ap end (shows.live tab ∙ lives))

-- an instance that lives goes to a page
go_turn : (H : HostTable) (T : Tabs) (t : TabTable) (who : Instance) (text : List ℕ) → TabsStand T t → live_at t who.tab ≡ Some who → (r : Result Page Rule) → allowed H text ≡ r
    → let row = go_outcome who (origin_at t who) (next_at t who.tab) r in Turn H t (if is_ok row.head then with_gone t who r else t) row.items (if_ok (is_ok row.head) (leave T who r))
go_turn H T t who text shows lives (Err rule) is = stay H t (denied rule) (refl, refl, refl)
go_turn H T t who text shows lives (Ok page) is = rw (shows.origin who lives) (by_origin (bytes_eq page.origin (origin_at t who)) (nat_lt who.ord 31) refl)
  where
    by_origin : (one room : Bool) → nat_lt who.ord 31 ≡ room
        → let row = if one then accepted (ItemMoved who page.url ∷ []) else if room then accepted (Ended who ∷ Opened (next_at t who.tab) page.url ∷ []) else denied U3 in
        Turn H t (if is_ok row.head then with_seat t who.tab (if one then moved page (seat_at t who.tab) else opened page (seat_at t who.tab)) else t) row.items
        (if_ok (is_ok row.head) (if one then Moves who page.url ∷ [] else Ends who ∷ Opens (next_in T who.tab) page ∷ []))
    by_origin true room low = Shows who page lives refl (refl, refl, refl) refl
    by_origin false true low = Leaves who text page lives (grind (arith, nat_tests)) is refl refl refl
        (ap (λ n. Ends who ∷ Opens (record { tab = who.tab; ord = n }) page ∷ []) (shows.count who.tab))
    by_origin false false low = stay H t (denied U3) (refl, refl, refl)

admitted_turn : (H : HostTable) (T : Tabs) (t : TabTable) (who : Instance) (text : List ℕ) → TabsStand T t → (rule : Option Rule) → admission t who ≡ rule
    → let row = let_in rule (go_outcome who (origin_at t who) (next_at t who.tab) (allowed H text)) in
    Turn H t (if is_ok row.head then with_gone t who (allowed H text) else t) row.items (if_ok (is_ok row.head) (leave T who (allowed H text)))
admitted_turn H T t who text shows None free = go_turn H T t who text shows (lives_if t who free) (allowed H text) refl
admitted_turn H T t who text shows (Some rule) free = stay H t (denied rule) (refl, refl, refl)

pub and_true : (b : Bool) → (b && true) ≡ b
and_true true = refl
and_true false = refl

-- Enter
enter_turn : (H : HostTable) (T : Tabs) (t : TabTable) (text : List ℕ) → TabsStand T t → (at_entry_line : Bool) (active : Option Instance) → active_in t ≡ active
    → let row = if at_entry_line then enter_seen t active (allowed H text) else page_key_outcome active Enter in
    Turn H t (if is_ok row.head && at_entry_line then with_entered t active (allowed H text) else t) row.items (if_ok (is_ok row.head && at_entry_line) (entering T active (allowed H text)))
enter_turn H T t text shows true None is = stay H t (enter_seen t None (allowed H text)) (refl, refl, refl)
enter_turn H T t text shows true (Some who) is = rw (and_true (is_ok (go_outcome who (origin_at t who) (next_at t who.tab) (allowed H text)).head))
    (go_turn H T t who text shows (active_lives t who is) (allowed H text) refl)
enter_turn H T t text shows false None is = stay H t (page_key_outcome None Enter) (refl, refl, refl)
enter_turn H T t text shows false (Some who) is = stay H t (page_key_outcome (Some who) Enter) (refl, refl, refl)

-- ---- each act

pub turn_seen : (J : Journal) (t : Parts) (act : Act) → is_net act ≡ false → PartsStand J t → Fits act
    → let row = outcome_seen t act in Turn t.hosts t.tabs (tabs_after t (is_ok row.head) act) row.items (changes t.hosts (tabs t.hosts J) (focus_of J) (is_ok row.head) act)
turn_seen J t (Start tab url) page stands fits = start_turn t.hosts (tabs t.hosts J) t.tabs tab url stands.tabs fits (allowed t.hosts url) refl
turn_seen J t (Switch tab) page stands fits = by_live (live_at t.tabs tab)
  where
    by_live : (live : Option Instance) → let row = switch_outcome live in Turn t.hosts t.tabs (if is_ok row.head then record t.tabs { active = Some tab } else t.tabs) row.items []
    by_live None = Stays refl (refl, refl, refl) refl
    by_live (Some who) = Stays refl (refl, refl, refl) refl
turn_seen J t (Close tab) page stands fits = close_turn t.hosts (tabs t.hosts J) t.tabs tab stands.tabs (live_at t.tabs tab) refl
turn_seen J t (Press (Byte byte)) page stands fits = Stays refl (quiet_if (is_entry t.focus.spot) (answer (key_breaks t.focus.entry_line (Byte byte))) _ (quiet_answer (key_breaks t.focus.entry_line (Byte byte))) (quiet_key (active_in t.tabs) (Byte byte))) refl
turn_seen J t (Press Back) page stands fits = Stays refl (quiet_if (is_entry t.focus.spot) (answer (key_breaks t.focus.entry_line Back)) _ (quiet_answer (key_breaks t.focus.entry_line Back)) (quiet_key (active_in t.tabs) Back)) refl
turn_seen J t (Press Enter) page stands fits = rw (stands.displays.spot, stands.displays.entry_line, active_same J t stands)
    (enter_turn t.hosts (tabs t.hosts J) t.tabs t.focus.entry_line stands.tabs (is_entry t.focus.spot) (active_in t.tabs) refl)
turn_seen J t (Click r c) page stands fits = Stays refl (quiet_click (active_in t.tabs) r c) refl
turn_seen J t Look page stands fits = Stays refl (refl, refl, refl) refl
turn_seen J t (Draw who r c height width pixels) page stands fits = Stays refl (quiet_let_in (admission t.tabs who) _ (quiet_answer (draw_breaks r c height width pixels))) refl
turn_seen J t (Go who url) page stands fits = admitted_turn t.hosts (tabs t.hosts J) t.tabs who url stands.tabs (admission t.tabs who) refl
turn_seen J t (CookieSet side who text) page stands fits = Stays refl (quiet_let_in (admission t.tabs who) _ (quiet_answer (set_breaks text (jar_of t.jars (origin_at t.tabs who))))) refl
turn_seen J t (CookieGet side who) page stands fits = Stays refl (quiet_let_in (admission t.tabs who) _ (refl, refl, refl)) refl
turn_seen J t (Put who key bytes) page stands fits = Stays refl (quiet_let_in (admission t.tabs who) _ (quiet_storage (origin_at t.tabs) t.store (Put who key bytes))) refl
turn_seen J t (Ask who key) page stands fits = Stays refl (quiet_let_in (admission t.tabs who) _ (quiet_storage (origin_at t.tabs) t.store (Ask who key))) refl
turn_seen J t (StoreAnswer who request origin key version) page stands fits = Stays refl (quiet_storage (origin_at t.tabs) t.store (StoreAnswer who request origin key version)) refl
turn_seen J t (StoreNone who request) page stands fits = Stays refl (quiet_storage (origin_at t.tabs) t.store (StoreNone who request)) refl
turn_seen J t (StoreLose origin key version) page stands fits = Stays refl (quiet_storage (origin_at t.tabs) t.store (StoreLose origin key version)) refl
turn_seen J t other page stands fits = absurd (cc page)

-- ---- no frame

ended_quietly : (items : List Item) (who : Instance) → ended_in items ≡ Some who → kind_in items ≡ Nothing
ended_quietly [] who h = absurd (cc h)
ended_quietly (Ended gone ∷ items) who h = refl
ended_quietly (other ∷ items) who h = absurd (cc h)

opened_quietly : (items : List Item) (who : Instance) → opened_in items ≡ Some who → kind_in items ≡ Nothing
opened_quietly [] who h = absurd (cc h)
opened_quietly (Opened next url ∷ items) who h = refl
opened_quietly (Ended gone ∷ items) who h = refl
opened_quietly (other ∷ items) who h = absurd (cc h)

pub turn_kind : (H : HostTable) (old new : TabTable) (items : List Item) (cs : List Change) → Turn H old new items cs → kind_in items ≡ Nothing
turn_kind H old new items cs (Stays seats quiet none) = quiet.2
turn_kind H old new items cs (Shows who page lives seats quiet one) = quiet.2
turn_kind H old new items cs (Starts tab text page within free low allows seats none opens one) = opened_quietly items (next_at old tab) opens
turn_kind H old new items cs (Closes who lives seats ends none one) = ended_quietly items who ends
turn_kind H old new items cs (Leaves who text page lives last allows seats ends opens one) = ended_quietly items who ends
