-- The table of tabs shows the journal's tabs, before and after each change.
use Rattle.std.proofs.Common.{◌≡◌, ◌≢◌, ℕ, ◌+◌, ◌-◌, ◌<◌, ◌≤◌, Bool, true, false, length, Option, Some, None, refl, sym, ◌∙◌, ap, subst, arith, get_or, length-set}
use Rattle.std.specs.Prelude.{option_map, unwrap_or, slice_set, is_some, ◌==◌, if◌then◌else◌}
use Rattle.std.proofs.lemmas.Bool.Decides.{nat_tests}
use Rattle.std.proofs.lemmas.List.{get_or-set_same, get_or-set_other}
use Rattle.ibos_kinds.specs.declared.names.Instance.{Instance}
use Rattle.ibos_origin.specs.Pages.{Page}
use Rattle.ibos_page.specs.Seats.{Seat}
use Rattle.ibos_page.specs.Tabs.{TabTable, seat_at, live_at, live_in, empty_seat, opened, moved, closed, with_seat, origin_with}
use Rattle.ibos_model.specs.Journal.{same}
use Rattle.ibos_model.specs.Tabs.{Tabs, Opens, Moves, Ends, Alive, Gone, changed, no_tabs, next_in, life_in, life_with, origin_in}
use Rattle.ibos_kernel.specs.Tables.{origin_at, url_with}
use Rattle.ibos_kernel.specs.Standing.{TabsStand, life_by, life_at}

-- no tab has had an instance
pub none_stand : (t : TabTable) → length t.seats ≡ 64 → ((tab : ℕ) → seat_at t tab ≡ empty_seat) → TabsStand no_tabs t
none_stand t room empty = record {
  room = room;
  count = λ tab. rw (empty tab) refl;
  live = λ tab. rw (empty tab) refl;
  newest = λ tab who lives. absurd (not_live tab who (rw (empty tab) at lives));
  life = λ who. rw (empty who.tab) (grind (arith, nat_tests));
  fresh = λ who past. refl;
  origin = λ who lives. absurd (not_live who.tab who (rw (empty who.tab) at lives));
  url = λ who lives. absurd (not_live who.tab who (rw (empty who.tab) at lives));
}
  where
    not_live : (tab : ℕ) (who : Instance) → live_in tab empty_seat ≡ Some who → ⊥
    not_live tab who h = cc

-- the seat of a tab after one seat is written
pub seat-with : (t : TabTable) (i tab : ℕ) (seat : Seat) → length t.seats ≡ 64 → i < 64 → seat_at (with_seat t i seat) tab ≡ (if tab == i then seat else seat_at t tab)
seat-with t i tab seat room within = by_test (tab == i) refl
  where
    by_test : (here : Bool) → (tab == i) ≡ here → get_or (slice_set t.seats i seat) tab empty_seat ≡ (if here then seat else get_or t.seats tab empty_seat)
    by_test true here = let this : tab ≡ i = grind (arith, nat_tests) in rw this (get_or-set_same t.seats i seat empty_seat (omega (arith, room)))
    by_test false other = let differs : tab ≢ i = λ e. grind (arith, nat_tests, e) in get_or-set_other t.seats i tab seat empty_seat differs

-- an instance of another tab is another
other_tab : (who p : Instance) → (p.tab == who.tab) ≡ false → same who p ≡ false
other_tab who p differ = grind (arith, nat_tests)

life_opened : (T : Tabs) (who : Instance) (seat : Seat) (page : Page) (p : Instance) → seat.page ≡ None → who.ord ≡ seat.count
    → ((q : Instance) → q.tab ≡ who.tab → life_in T q ≡ life_by q seat) → (seat.count ≤ who.ord → T.is_gone who ≡ false) → p.tab ≡ who.tab
    → life_with (if same who p then Some page else T.page p) (T.is_gone p) ≡ life_by p (opened page seat)
life_opened T who seat page p free next life fresh here = by_same (same who p) refl
  where
    by_same : (it : Bool) → same who p ≡ it → life_with (if it then Some page else T.page p) (T.is_gone p) ≡ life_by p (opened page seat)
    by_same true it =
        let one : who ≡ p = grind (arith, nat_tests) in
        let gone : T.is_gone p ≡ false = let P : Instance → Type 0 = λ q. T.is_gone q ≡ false in subst P one (fresh (omega (arith, next))) in
        let ord : p.ord ≡ seat.count = ap (λ (q : Instance). q.ord) (sym one) ∙ next in
        rw gone (grind (arith, nat_tests, ord))
    by_same false it =
        let ord : p.ord ≢ seat.count = λ e. grind (arith, nat_tests, e, next, here, it) in
        life p here ∙ grind (arith, nat_tests, free, ord)

pub opens_stand : (T : Tabs) (t : TabTable) (tab : ℕ) (page : Page) → TabsStand T t → tab < 64 → (seat_at t tab).page ≡ None
    → TabsStand (changed T (Opens (next_in T tab) page)) (with_seat t tab (opened page (seat_at t tab)))
opens_stand T t tab page shows within free =
    let seat = seat_at t tab in
    let law : (other : ℕ) → seat_at (with_seat t tab (opened page seat)) other ≡ (if other == tab then opened page seat else seat_at t other) = λ other. seat-with t tab other (opened page seat) shows.room within in
    record {
      room = length-set t.seats tab (opened page seat) ∙ shows.room;
      count = λ other. rw (law other) (grind (arith, nat_tests, shows.count other, shows.count tab));
      live = λ other. rw (law other) (grind (arith, nat_tests, shows.live other, shows.count tab));
      newest = λ other who. rw (law other) (λ lives. newest_by other who (other == tab) lives);
      life = λ who. rw (law who.tab) (life_all who (who.tab == tab) refl);
      fresh = λ who. rw (law who.tab) (λ past. grind (arith, nat_tests, shows.fresh who, past));
      origin = λ who. rw (law who.tab) (λ lives. origin_by who (who.tab == tab) refl lives);
      url = λ who. rw (law who.tab) (λ lives. url_by who (who.tab == tab) refl lives);
    }
  where
    newest_by : (other : ℕ) (who : Instance) (here : Bool) → live_in other (if here then opened page (seat_at t tab) else seat_at t other) ≡ Some who → who.ord + 1 ≡ (if here then opened page (seat_at t tab) else seat_at t other).count
    newest_by other who true lives = let e = ap (λ (o : Option Instance). (unwrap_or o who).ord) lives in omega (arith, e)
    newest_by other who false lives = shows.newest other who lives

    life_all : (who : Instance) (here : Bool) → (who.tab == tab) ≡ here → life_in (changed T (Opens (next_in T tab) page)) who ≡ life_by who (if here then opened page (seat_at t tab) else seat_at t who.tab)
    life_all who true here =
        let e : who.tab ≡ tab = grind (arith, nat_tests) in
        life_opened T (next_in T tab) (seat_at t tab) page who free (shows.count tab) (λ q at. shows.life q ∙ ap (λ n. life_by q (seat_at t n)) at) (shows.fresh (next_in T tab)) e
    life_all who false here = rw (other_tab (next_in T tab) who here) (shows.life who)

    newest_same : (who : Instance) → (who.tab == tab) ≡ true → live_in who.tab (opened page (seat_at t tab)) ≡ Some who → same (next_in T tab) who ≡ true
    newest_same who here lives =
        let e : (seat_at t tab).count + 1 - 1 ≡ who.ord = ap (λ (o : Option Instance). (unwrap_or o who).ord) lives in
        grind (arith, nat_tests, e, shows.count tab, here)

    origin_by : (who : Instance) (here : Bool) → (who.tab == tab) ≡ here → live_in who.tab (if here then opened page (seat_at t tab) else seat_at t who.tab) ≡ Some who
        → origin_in (changed T (Opens (next_in T tab) page)) who ≡ origin_with (if here then opened page (seat_at t tab) else seat_at t who.tab).page
    origin_by who true here lives = rw (newest_same who here lives) refl
    origin_by who false here lives = rw (other_tab (next_in T tab) who here) (shows.origin who lives)

    url_by : (who : Instance) (here : Bool) → (who.tab == tab) ≡ here → live_in who.tab (if here then opened page (seat_at t tab) else seat_at t who.tab) ≡ Some who
        → (changed T (Opens (next_in T tab) page)).url who ≡ url_with (if here then opened page (seat_at t tab) else seat_at t who.tab).page
    url_by who true here lives = rw (newest_same who here lives) refl
    url_by who false here lives = rw (other_tab (next_in T tab) who here) (shows.url who lives)

pub page_there : (tab ord : ℕ) (page : Option Page) (who : Instance) → option_map (λ (x : Page). record { tab = tab; ord = ord }) page ≡ Some who → is_some page ≡ true
page_there tab ord None who lives = cc
page_there tab ord (Some page) who lives = refl

pub tab_of : (tab ord : ℕ) (page : Option Page) (who : Instance) → option_map (λ (x : Page). record { tab = tab; ord = ord }) page ≡ Some who → who.tab ≡ tab
tab_of tab ord None who lives = cc
tab_of tab ord (Some page) who lives = sym (tab_same lives)
  where
    tab_same : Some (record { tab = tab; ord = ord }) ≡ Some who → tab ≡ who.tab
    tab_same h = ap (λ (o : Option Instance). (unwrap_or o who).tab) h

life_ended : (T : Tabs) (who p : Instance) (seat : Seat) → is_some seat.page ≡ true → who.ord + 1 ≡ seat.count
    → life_in T p ≡ life_by p seat → p.tab ≡ who.tab
    → life_with (T.page p) (if same who p then true else T.is_gone p) ≡ life_by p (closed seat)
life_ended T who p seat there newest life here = by_same (same who p) refl
  where
    -- it lives, so its page is there
    alive : same who p ≡ true → life_by p seat ≡ Alive
    alive it = let ord : p.ord + 1 ≡ seat.count = grind (arith, nat_tests, it, newest) in grind (arith, nat_tests, there, ord)

    gone_with : (page : Option Page) (gone : Bool) → life_with page gone ≡ Alive → life_with page true ≡ Gone
    gone_with None gone h = cc
    gone_with (Some page) gone h = refl

    by_same : (it : Bool) → same who p ≡ it → life_with (T.page p) (if it then true else T.is_gone p) ≡ life_by p (closed seat)
    by_same true it = gone_with (T.page p) (T.is_gone p) (life ∙ alive it) ∙ grind (arith, nat_tests, it, newest)
    by_same false it =
        let ord : p.ord + 1 ≢ seat.count = λ e. grind (arith, nat_tests, e, newest, here, it) in
        life ∙ grind (arith, nat_tests, there, ord)

pub ends_stand : (T : Tabs) (t : TabTable) (tab : ℕ) (who : Instance) → TabsStand T t → tab < 64 → live_at t tab ≡ Some who
    → TabsStand (changed T (Ends who)) (with_seat t tab (closed (seat_at t tab)))
ends_stand T t tab who shows within lives =
    let seat = seat_at t tab in
    let law : (other : ℕ) → seat_at (with_seat t tab (closed seat)) other ≡ (if other == tab then closed seat else seat_at t other) = λ other. seat-with t tab other (closed seat) shows.room within in
    record {
      room = length-set t.seats tab (closed seat) ∙ shows.room;
      count = λ other. rw (law other) (grind (arith, nat_tests, shows.count other, shows.count tab));
      live = λ other. rw (law other) (grind (arith, nat_tests, shows.live other, at_tab_is));
      newest = λ other p. rw (law other) (λ h. newest_by other p (other == tab) h);
      life = λ p. rw (law p.tab) (life_all p (p.tab == tab) refl);
      fresh = λ p. rw (law p.tab) (λ past. grind (arith, nat_tests, shows.fresh p, past, shows.newest tab who lives, at_tab_is));
      origin = λ p. rw (law p.tab) (λ h. origin_by p (p.tab == tab) h);
      url = λ p. rw (law p.tab) (λ h. url_by p (p.tab == tab) h);
    }
  where
    at_tab_is : who.tab ≡ tab
    at_tab_is = tab_of tab ((seat_at t tab).count - 1) (seat_at t tab).page who lives

    there : is_some (seat_at t tab).page ≡ true
    there = page_there tab ((seat_at t tab).count - 1) (seat_at t tab).page who lives

    newest_by : (other : ℕ) (p : Instance) (here : Bool) → live_in other (if here then closed (seat_at t tab) else seat_at t other) ≡ Some p → p.ord + 1 ≡ (if here then closed (seat_at t tab) else seat_at t other).count
    newest_by other p true h = cc
    newest_by other p false h = shows.newest other p h

    life_all : (p : Instance) (here : Bool) → (p.tab == tab) ≡ here → life_in (changed T (Ends who)) p ≡ life_by p (if here then closed (seat_at t tab) else seat_at t p.tab)
    life_all p true here =
        let e : p.tab ≡ tab = grind (arith, nat_tests) in
        life_ended T who p (seat_at t tab) there (shows.newest tab who lives) (shows.life p ∙ ap (λ n. life_by p (seat_at t n)) e) (e ∙ sym at_tab_is)
    life_all p false here =
        let differ : (p.tab == who.tab) ≡ false = rw at_tab_is here in
        rw (other_tab who p differ) (shows.life p)

    origin_by : (p : Instance) (here : Bool) → live_in p.tab (if here then closed (seat_at t tab) else seat_at t p.tab) ≡ Some p
        → origin_in T p ≡ origin_with (if here then closed (seat_at t tab) else seat_at t p.tab).page
    origin_by p true h = cc
    origin_by p false h = shows.origin p h

    url_by : (p : Instance) (here : Bool) → live_in p.tab (if here then closed (seat_at t tab) else seat_at t p.tab) ≡ Some p
        → T.url p ≡ url_with (if here then closed (seat_at t tab) else seat_at t p.tab).page
    url_by p true h = cc
    url_by p false h = shows.url p h

live_moved : (tab ord : ℕ) (old : Option Page) (page : Page) → is_some old ≡ true → option_map (λ (x : Page). record { tab = tab; ord = ord }) (Some page) ≡ option_map {U = Instance} (λ (x : Page). record { tab = tab; ord = ord }) old
live_moved tab ord None page there = cc
live_moved tab ord (Some old) page there = refl

pub moves_stand : (T : Tabs) (t : TabTable) (who : Instance) (page : Page) → TabsStand T t → who.tab < 64 → live_at t who.tab ≡ Some who → page.origin ≡ origin_at t who
    → TabsStand (changed T (Moves who page.url)) (with_seat t who.tab (moved page (seat_at t who.tab)))
moves_stand T t who page shows within lives same_origin =
    let law : (other : ℕ) → seat_at (with_seat t who.tab (moved page seat)) other ≡ (if other == who.tab then moved page seat else seat_at t other) = λ other. seat-with t who.tab other (moved page seat) shows.room within in
    record {
      room = length-set t.seats who.tab (moved page seat) ∙ shows.room;
      count = λ other. rw (law other) (grind (arith, nat_tests, shows.count other, shows.count who.tab));
      live = λ other. rw (law other) (shows.live other ∙ live_all other (other == who.tab) refl);
      newest = λ other p. rw (law other) (λ h. newest_by other p (other == who.tab) refl h);
      life = λ p. rw (law p.tab) (shows.life p ∙ life_all p (p.tab == who.tab) refl);
      fresh = λ p. rw (law p.tab) (λ past. grind (arith, nat_tests, shows.fresh p, past));
      origin = λ p. rw (law p.tab) (λ h. origin_by p (p.tab == who.tab) refl h);
      url = λ p. rw (law p.tab) (λ h. url_by p (p.tab == who.tab) refl h);
    }
  where
    seat : Seat
    seat = seat_at t who.tab

    there : is_some (seat_at t who.tab).page ≡ true
    there = page_there who.tab ((seat_at t who.tab).count - 1) (seat_at t who.tab).page who lives

    same_live : live_in who.tab (moved page (seat_at t who.tab)) ≡ live_at t who.tab
    same_live = live_moved who.tab ((seat_at t who.tab).count - 1) (seat_at t who.tab).page page there

    live_all : (other : ℕ) (here : Bool) → (other == who.tab) ≡ here → live_at t other ≡ live_in other (if here then moved page (seat_at t who.tab) else seat_at t other)
    live_all other true here =
        let e : who.tab ≡ other = grind (arith, nat_tests) in
        let P : ℕ → Type 0 = λ n. live_at t n ≡ live_in n (moved page (seat_at t who.tab)) in
        subst P e (sym same_live)
    live_all other false here = refl

    newest_by : (other : ℕ) (p : Instance) (here : Bool) → (other == who.tab) ≡ here → live_in other (if here then moved page (seat_at t who.tab) else seat_at t other) ≡ Some p → p.ord + 1 ≡ (if here then moved page (seat_at t who.tab) else seat_at t other).count
    newest_by other p true here h =
        let e : other ≡ who.tab = grind (arith, nat_tests) in
        let at : live_in who.tab (moved page (seat_at t who.tab)) ≡ Some p = let P : ℕ → Type 0 = λ n. live_in n (moved page (seat_at t who.tab)) ≡ Some p in subst P e h in
        shows.newest who.tab p (sym same_live ∙ at)
    newest_by other p false here h = shows.newest other p h

    life_all : (p : Instance) (here : Bool) → (p.tab == who.tab) ≡ here → life_at t p ≡ life_by p (if here then moved page (seat_at t who.tab) else seat_at t p.tab)
    life_all p true here =
        let e : p.tab ≡ who.tab = grind (arith, nat_tests) in
        ap (λ n. life_by p (seat_at t n)) e ∙ rw there refl
    life_all p false here = refl

    -- the one that lives in the tab is the one that moves
    it_is : (p : Instance) → (p.tab == who.tab) ≡ true → live_in p.tab (moved page (seat_at t who.tab)) ≡ Some p → who ≡ p
    it_is p here h =
        let e : p.tab ≡ who.tab = grind (arith, nat_tests) in
        let at : live_in who.tab (moved page (seat_at t who.tab)) ≡ Some p = let P : ℕ → Type 0 = λ n. live_in n (moved page (seat_at t who.tab)) ≡ Some p in subst P e h in
        let both : Some who ≡ Some p = sym lives ∙ sym same_live ∙ at in
        ap (λ (o : Option Instance). unwrap_or o who) both

    origin_by : (p : Instance) (here : Bool) → (p.tab == who.tab) ≡ here → live_in p.tab (if here then moved page (seat_at t who.tab) else seat_at t p.tab) ≡ Some p
        → origin_in T p ≡ origin_with (if here then moved page (seat_at t who.tab) else seat_at t p.tab).page
    origin_by p true here h = ap (origin_in T) (sym (it_is p here h)) ∙ shows.origin who lives ∙ sym same_origin
    origin_by p false here h = shows.origin p h

    url_by : (p : Instance) (here : Bool) → (p.tab == who.tab) ≡ here → live_in p.tab (if here then moved page (seat_at t who.tab) else seat_at t p.tab) ≡ Some p
        → (changed T (Moves who page.url)).url p ≡ url_with (if here then moved page (seat_at t who.tab) else seat_at t p.tab).page
    url_by p true here h =
        let it : same who p ≡ true = let e = it_is p here h in rw e (grind (arith, nat_tests)) in
        rw it refl
    url_by p false here h = rw (other_tab who p here) (shows.url p h)
