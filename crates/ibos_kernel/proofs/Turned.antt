-- Lives, endpoints and counts after an act of the pages' half.
use Rattle.std.proofs.Common.{◌≡◌, ℕ, ◌+◌, ◌-◌, ◌<◌, ◌≤◌, Bool, true, false, List, length, length-set, Option, Some, None, Ok, IfSome, refl, sym, ◌∙◌, ap, subst, arith}
use Rattle.std.specs.Prelude.{slice_set, unwrap_or, ◌==◌, if◌then◌else◌}
use Rattle.std.proofs.lemmas.Bool.Decides.{nat_tests}
use Rattle.ibos_kinds.specs.declared.names.Instance.{Instance}
use Rattle.ibos_kinds.specs.declared.outcome.Item.{Item}
use Rattle.ibos_kinds.specs.Limits.{IsNamed}
use Rattle.ibos_origin.specs.Endpoints.{origin_endpoint}
use Rattle.ibos_origin.specs.Hosts.{HostTable}
use Rattle.ibos_origin.specs.Pages.{Page, allowed, endpoint_of}
use Rattle.ibos_page.specs.Seats.{Seat}
use Rattle.ibos_page.specs.Tabs.{TabTable, closed, live_at, live_in, moved, next_at, opened, seat_at}
use Rattle.ibos_model.specs.Journal.{same}
use Rattle.ibos_model.specs.Network.{endpoint_for, no_endpoint}
use Rattle.ibos_model.specs.Tabs.{Change, Unborn, Alive, Gone, Tabs, at, changed_by, life_in, life_with, origin_in, origin_with}
use Rattle.ibos_kernel.specs.Tables.{started}
use Rattle.ibos_kernel.specs.Standing.{TabsStand}
use Rattle.ibos_kernel.specs.Halves.{begun, ended_in, opened_in, remotes_with, with_begun, with_ended}
use Rattle.ibos_kernel.proofs.Areas.{started_few, started_set}
use Rattle.ibos_kernel.proofs.ScreenStands.{active_within}
use Rattle.ibos_kernel.proofs.TabsStanding.{page_there, seat-with}
use Rattle.ibos_kernel.proofs.Turns.{Turn, Stays, Shows, Starts, Closes, Leaves}

-- of an instance that starts
pub record Starting (T : Tabs) (old new : TabTable) (ended : Option Instance) (who : Instance) : Type 0 where
  pub unborn : life_in T who ≡ Unborn
  pub yet : with_ended ended (life_in T) who ≡ Unborn
  pub named : IsNamed who
  pub lives : live_at new who.tab ≡ Some who
  pub room : started old.seats < 2048

pub record Turned (H : HostTable) (T U : Tabs) (old new : TabTable) (ended opened : Option Instance) : Type 0 where
  pub life : (p : Instance) → life_in U p ≡ with_begun opened (with_ended ended (life_in T)) p
  pub remote : (p : Instance) → endpoint_for H (origin_in U p) ≡ remotes_with new opened (λ q. endpoint_for H (origin_in T q)) p
  pub ends : IfSome ended (λ who. life_in T who ≡ Alive)
  pub begins : IfSome opened (Starting T old new ended)
  pub few : (tab : ℕ) → (seat_at new tab).count ≤ 32
  pub counted : started new.seats ≡ started old.seats + begun opened

-- the endpoint of an origin is that of each page of it
abbrev pub AreAtOrigins : HostTable → Type 0
AreAtOrigins H = (text : List ℕ) (page : Page) → allowed H text ≡ Ok page → origin_endpoint H page.origin ≡ Some (endpoint_of page)

-- ---- lives

alive_of : (T : Tabs) (t : TabTable) (who : Instance) → TabsStand T t → live_at t who.tab ≡ Some who → life_in T who ≡ Alive
alive_of T t who shows lives =
    let there = page_there who.tab ((seat_at t who.tab).count - 1) (seat_at t who.tab).page who lives in
    let newest : who.ord + 1 ≡ (seat_at t who.tab).count = shows.newest who.tab who lives in
    shows.life who ∙ grind (arith, nat_tests, there, newest)

unborn_of : (T : Tabs) (t : TabTable) (tab : ℕ) → TabsStand T t → life_in T (next_at t tab) ≡ Unborn
unborn_of T t tab shows = shows.life (next_at t tab) ∙ grind (arith, nat_tests)

gone_with : (page : Option Page) (gone : Bool) → life_with page gone ≡ Alive → life_with page true ≡ Gone
gone_with None gone h = cc
gone_with (Some page) gone h = refl

same_is : (p q : Instance) → same p q ≡ true → p ≡ q
same_is p q h = grind (arith, nat_tests)

-- one ends
ended_life : (T : Tabs) (who p : Instance) → life_in T who ≡ Alive → life_with (T.page p) (at who true T.is_gone p) ≡ at who Gone (life_in T) p
ended_life T who p alive = by_same (same who p) refl
  where
    by_same : (it : Bool) → same who p ≡ it → life_with (T.page p) (if it then true else T.is_gone p) ≡ (if it then Gone else life_in T p)
    by_same true it = let one = same_is who p it in gone_with (T.page p) (T.is_gone p) (ap (life_in T) (sym one) ∙ alive)
    by_same false it = refl

-- one starts
begun_life : (page : Instance → Option Page) (gone : Instance → Bool) (who p : Instance) (opened : Page) → gone who ≡ false
    → life_with (at who (Some opened) page p) (gone p) ≡ at who Alive (λ q. life_with (page q) (gone q)) p
begun_life page gone who p opened fresh = by_same (same who p) refl
  where
    by_same : (it : Bool) → same who p ≡ it → life_with (if it then Some opened else page p) (gone p) ≡ (if it then Alive else life_with (page p) (gone p))
    by_same true it = let still : gone p ≡ false = ap gone (sym (same_is who p it)) ∙ fresh in rw still refl
    by_same false it = refl

-- ---- where it is

page_endpoint : (H : HostTable) (text : List ℕ) (page : Page) → AreAtOrigins H → allowed H text ≡ Ok page → endpoint_for H page.origin ≡ endpoint_of page
page_endpoint H text page law allows = ap (λ e. unwrap_or e no_endpoint) (law text page allows)

begun_remote : (H : HostTable) (T : Tabs) (new : TabTable) (who p : Instance) (text : List ℕ) (page : Page) → AreAtOrigins H → allowed H text ≡ Ok page → (seat_at new who.tab).page ≡ Some page
    → endpoint_for H (origin_with (at who (Some page) T.page p)) ≡ remotes_with new (Some who) (λ q. endpoint_for H (origin_in T q)) p
begun_remote H T new who p text page law allows seat = rw seat (by_same (same who p))
  where
    by_same : (it : Bool) → endpoint_for H (origin_with (if it then Some page else T.page p)) ≡ (if it then endpoint_of page else endpoint_for H (origin_in T p))
    by_same true = page_endpoint H text page law allows
    by_same false = refl

-- ---- counts

seat_new : (old new : TabTable) (i tab : ℕ) (seat : Seat) → length old.seats ≡ 64 → i < 64 → new.seats ≡ slice_set old.seats i seat
    → seat_at new tab ≡ (if tab == i then seat else seat_at old tab)
seat_new old new i tab seat room within is =
    let P : List Seat → Type 0 = λ seats. seat_at (record { seats = seats; active = new.active }) tab ≡ (if tab == i then seat else seat_at old tab) in
    subst P (sym is) (seat-with old i tab seat room within)

seat_here : (old new : TabTable) (i : ℕ) (seat : Seat) → length old.seats ≡ 64 → i < 64 → new.seats ≡ slice_set old.seats i seat → seat_at new i ≡ seat
seat_here old new i seat room within is = seat_new old new i i seat room within is ∙ here
  where
    here : (if i == i then seat else seat_at old i) ≡ seat
    here = grind (arith, nat_tests)

few_new : (old new : TabTable) (i tab : ℕ) (seat : Seat) → length old.seats ≡ 64 → i < 64 → new.seats ≡ slice_set old.seats i seat → seat.count ≤ 32
    → ((k : ℕ) → (seat_at old k).count ≤ 32) → (seat_at new tab).count ≤ 32
few_new old new i tab seat room within is low few = rw (seat_new old new i tab seat room within is) (by_tab (tab == i))
  where
    by_tab : (here : Bool) → (if here then seat else seat_at old tab).count ≤ 32
    by_tab true = low
    by_tab false = few tab

started_new : (old new : TabTable) (i : ℕ) (seat : Seat) → length old.seats ≡ 64 → i < 64 → new.seats ≡ slice_set old.seats i seat
    → started new.seats + (seat_at old i).count ≡ started old.seats + seat.count
started_new old new i seat room within is = rw is (started_set old.seats i seat (omega (arith, room, within)))

-- one tab has had fewer than 32, so there have been fewer than 2,048 in all
started_room : (t : TabTable) (i : ℕ) → length t.seats ≡ 64 → i < 64 → (seat_at t i).count < 32 → ((k : ℕ) → (seat_at t k).count ≤ 32) → started t.seats < 2048
started_room t i room within low few =
    let full : Seat = record { count = 32; page = None } in
    let more = started_set t.seats i full (omega (arith, room, within)) in
    let all = started_few (slice_set t.seats i full) (λ k. rw (seat-with t i k full room within) (by_tab k (k == i))) in
    let size : length (slice_set t.seats i full) ≡ 64 = length-set t.seats i full ∙ room in
    omega (arith, more, all, size, low)
  where
    by_tab : (k : ℕ) (here : Bool) → (if here then record { count = 32; page = None } else seat_at t k).count ≤ 32
    by_tab k true = omega arith
    by_tab k false = few k

opened_lives : (tab : ℕ) (page : Page) (seat : Seat) → live_in tab (opened page seat) ≡ Some (record { tab = tab; ord = seat.count })
opened_lives tab page seat =
    let last : seat.count + 1 - 1 ≡ seat.count = omega arith in
    ap (λ n. Some (record { tab = tab; ord = n })) last

-- ---- each turn

pub turned : (H : HostTable) (T : Tabs) (old new : TabTable) (items : List Item) (cs : List Change) → AreAtOrigins H → TabsStand T old → ((tab : ℕ) → (seat_at old tab).count ≤ 32)
    → Turn H old new items cs → Turned H T (changed_by T cs) old new (ended_in items) (opened_in items)
turned H T old new items cs law shows few (Stays seats quiet none) = rw (none, quiet.0, quiet.1) (record {
  life = λ p. refl;
  remote = λ p. refl;
  ends = tt;
  begins = tt;
  few = λ tab. let P : List Seat → Type 0 = λ s. (seat_at (record { seats = s; active = new.active }) tab).count ≤ 32 in subst P (sym seats) (few tab);
  counted = let one : started new.seats ≡ started old.seats = ap started seats in omega (arith, one);
})
turned H T old new items cs law shows few (Shows who page lives seats quiet one) = rw (one, quiet.0, quiet.1) (record {
  life = λ p. refl;
  remote = λ p. refl;
  ends = tt;
  begins = tt;
  few = λ tab. few_new old new who.tab tab (moved page (seat_at old who.tab)) shows.room within seats (few who.tab) few;
  counted = let sum = started_new old new who.tab (moved page (seat_at old who.tab)) shows.room within seats in omega (arith, sum);
})
  where
    within : who.tab < 64
    within = active_within old who shows.room lives
turned H T old new items cs law shows few (Starts tab text page within free low allows seats none opens one) = rw (one, none, opens) (record {
  life = λ p. begun_life T.page T.is_gone (next_at old tab) p page (shows.fresh (next_at old tab) (omega arith));
  remote = λ p. begun_remote H T new (next_at old tab) p text page law allows (ap (λ (s : Seat). s.page) seat);
  ends = tt;
  begins = record {
    unborn = unborn_of T old tab shows;
    yet = unborn_of T old tab shows;
    named = (within, low);
    lives = rw seat (opened_lives tab page (seat_at old tab));
    room = started_room old tab shows.room within low few;
  };
  few = λ k. few_new old new tab k (opened page (seat_at old tab)) shows.room within seats (omega (arith, low)) few;
  counted = let sum = started_new old new tab (opened page (seat_at old tab)) shows.room within seats in omega (arith, sum);
})
  where
    seat : seat_at new tab ≡ opened page (seat_at old tab)
    seat = seat_here old new tab (opened page (seat_at old tab)) shows.room within seats
turned H T old new items cs law shows few (Closes who lives seats ends none one) = rw (one, ends, none) (record {
  life = λ p. ended_life T who p (alive_of T old who shows lives);
  remote = λ p. refl;
  ends = alive_of T old who shows lives;
  begins = tt;
  few = λ k. few_new old new who.tab k (closed (seat_at old who.tab)) shows.room within seats (few who.tab) few;
  counted = let sum = started_new old new who.tab (closed (seat_at old who.tab)) shows.room within seats in omega (arith, sum);
})
  where
    within : who.tab < 64
    within = active_within old who shows.room lives
turned H T old new items cs law shows few (Leaves who text page lives last allows seats ends opens one) = rw (one, ends, opens) (record {
  life = λ p. begun_life T.page (at who true T.is_gone) next p page fresh ∙ by_next p (same next p);
  remote = λ p. begun_remote H T new next p text page law allows (ap (λ (s : Seat). s.page) seat);
  ends = alive_of T old who shows lives;
  begins = record {
    unborn = unborn_of T old who.tab shows;
    yet = rw apart (unborn_of T old who.tab shows);
    named = (within, low);
    lives = rw seat (opened_lives who.tab page (seat_at old who.tab));
    room = started_room old who.tab shows.room within low few;
  };
  few = λ k. few_new old new who.tab k (opened page (seat_at old who.tab)) shows.room within seats (omega (arith, low)) few;
  counted = let sum = started_new old new who.tab (opened page (seat_at old who.tab)) shows.room within seats in omega (arith, sum);
})
  where
    next : Instance
    next = next_at old who.tab

    within : who.tab < 64
    within = active_within old who shows.room lives

    newest : who.ord + 1 ≡ (seat_at old who.tab).count
    newest = shows.newest who.tab who lives

    low : (seat_at old who.tab).count < 32
    low = omega (arith, newest, last)

    apart : same who next ≡ false
    apart = grind (arith, nat_tests, newest)

    seat : seat_at new who.tab ≡ opened page (seat_at old who.tab)
    seat = seat_here old new who.tab (opened page (seat_at old who.tab)) shows.room within seats

    fresh : at who true T.is_gone next ≡ false
    fresh = rw apart (shows.fresh next (omega arith))

    by_next : (p : Instance) (it : Bool) → (if it then Alive else life_with (T.page p) (at who true T.is_gone p)) ≡ (if it then Alive else at who Gone (life_in T) p)
    by_next p true = refl
    by_next p false = ended_life T who p (alive_of T old who shows lives)
