-- What stands in the tabs, before and after a change of one.
use Rattle.std.proofs.Common.{◌≡◌, ◌≢◌, ℕ, ◌+◌, ◌-◌, ◌<◌, ◌≤◌, Bool, true, false, List, length, Option, Some, None, refl, sym, ◌∙◌, ap, subst, arith, get_or, length-set}
use Rattle.std.specs.Prelude.{option_map, unwrap_or, slice_set, nat_lt, ◌==◌, if◌then◌else◌}
use Rattle.std.proofs.lemmas.Bool.Decides.{nat_tests}
use Rattle.std.proofs.lemmas.List.{get_or-set_same, get_or-set_other}
use Rattle.std.proofs.Math.ListN.{get_or-eq_default}
use Rattle.ibos_kinds.specs.declared.names.Instance.{Instance}
use Rattle.ibos_origin.specs.Pages.{Page}
use Rattle.ibos_page.specs.Seats.{Seat}
use Rattle.ibos_page.specs.Tabs.{IsSeat, IsTable, live_in, empty_seat, without}

ord_of : (page : Option Page) (tab ord : ℕ) (who : Instance) → option_map (λ (x : Page). record { tab = tab; ord = ord }) page ≡ Some who → (page ≢ None) × (who.ord ≡ ord)
ord_of None tab ord who is = cc
ord_of (Some page) tab ord who is =
    let h : Some (record { tab = tab; ord = ord }) ≡ Some who = is in
    let e : ord ≡ who.ord = ap (λ (o : Option Instance). (unwrap_or o who).ord) h in
    (λ none. cc, sym e)

-- a live instance is its tab's newest
pub live_newest : (tab : ℕ) (seat : Seat) (who : Instance) → IsSeat seat → live_in tab seat ≡ Some who → who.ord + 1 ≡ seat.count
live_newest tab seat who is lives =
    let there = ord_of seat.page tab (seat.count - 1) who lives in
    let some : 0 < seat.count = is.some there.0 in
    omega (arith, there.1)

pub seat-set : (seats : List Seat) (i tab : ℕ) (seat : Seat) → i < length seats → get_or (slice_set seats i seat) tab empty_seat ≡ (if tab == i then seat else get_or seats tab empty_seat)
seat-set seats i tab seat within = by_test (tab == i) refl
  where
    by_test : (here : Bool) → (tab == i) ≡ here → get_or (slice_set seats i seat) tab empty_seat ≡ (if here then seat else get_or seats tab empty_seat)
    by_test true here = let same : tab ≡ i = grind (arith, nat_tests) in rw same (get_or-set_same seats i seat empty_seat within)
    by_test false other = let differs : tab ≢ i = λ e. grind (arith, nat_tests, e) in get_or-set_other seats i tab seat empty_seat differs

-- a tab with a live instance is one of the 64
pub live_within : (seats : List Seat) (active : Option ℕ) (tab : ℕ) (who : Instance) → IsTable seats active → live_in tab (get_or seats tab empty_seat) ≡ Some who → tab < 64
live_within seats active tab who is lives = by_test (nat_lt tab 64) refl
  where
    by_test : (within : Bool) → nat_lt tab 64 ≡ within → tab < 64
    by_test true within = grind (arith, nat_tests)
    by_test false past =
        let out : length seats ≤ tab = grind (arith, nat_tests, is.count) in
        let none : live_in tab empty_seat ≡ Some who = let P : Seat → Type 0 = λ s. live_in tab s ≡ Some who in subst P (get_or-eq_default seats empty_seat out) lives in
        absurd (cc none)

-- a tab gets a seat that has a live instance
pub table-opened : (seats : List Seat) (active : Option ℕ) (i : ℕ) (seat : Seat) → IsTable seats active → i < 64 → IsSeat seat → seat.page ≢ None → IsTable (slice_set seats i seat) active
table-opened seats active i seat is within good some =
    let inside : i < length seats = omega (arith, is.count) in
    record {
      count = length-set seats i seat ∙ is.count;
      each = λ tab. subst IsSeat (sym (seat-set seats i tab seat inside)) (each_by tab (tab == i));
      shown = λ tab h. ((is.shown tab h).0, let P : Seat → Type 0 = λ s. s.page ≢ None in subst P (sym (seat-set seats i tab seat inside)) (shown_by tab h (tab == i)));
    }
  where
    each_by : (tab : ℕ) (here : Bool) → IsSeat (if here then seat else get_or seats tab empty_seat)
    each_by tab true = good
    each_by tab false = is.each tab

    shown_by : (tab : ℕ) → active ≡ Some tab → (here : Bool) → (if here then seat else get_or seats tab empty_seat).page ≢ None
    shown_by tab h true = some
    shown_by tab h false = (is.shown tab h).1

-- another tab is active, or none, where the new one has a live instance
pub table-shown : (seats : List Seat) (active : Option ℕ) (i : ℕ) → IsTable seats active → i < 64 → (get_or seats i empty_seat).page ≢ None → IsTable seats (Some i)
table-shown seats active i is within some = record {
  count = is.count;
  each = is.each;
  shown = λ tab h. by_same tab (ap (λ o. unwrap_or o i) h);
}
  where
    by_same : (tab : ℕ) → i ≡ tab → (tab < 64) × ((get_or seats tab empty_seat).page ≢ None)
    by_same tab e = (omega arith, let P : ℕ → Type 0 = λ n. (get_or seats n empty_seat).page ≢ None in subst P e some)

-- a tab closes
pub table-closed : (seats : List Seat) (active next : Option ℕ) (i count : ℕ) → IsTable seats active → i < 64 → count ≤ 32
    → ((tab : ℕ) → next ≡ Some tab → (active ≡ Some tab) × (tab ≢ i)) → IsTable (slice_set seats i (record { count = count; page = None })) next
table-closed seats active next i count is within few stays =
    let inside : i < length seats = omega (arith, is.count) in
    let seat : Seat = record { count = count; page = None } in
    record {
      count = length-set seats i seat ∙ is.count;
      each = λ tab. subst IsSeat (sym (seat-set seats i tab seat inside)) (each_by tab (tab == i));
      shown = λ tab h. let was = stays tab h in ((is.shown tab was.0).0, let P : Seat → Type 0 = λ s. s.page ≢ None in subst P (sym (get_or-set_other seats i tab seat empty_seat was.1)) (is.shown tab was.0).1);
    }
  where
    each_by : (tab : ℕ) (here : Bool) → IsSeat (if here then record { count = count; page = None } else get_or seats tab empty_seat)
    each_by tab true = record { few = few; some = λ some. absurd (some refl) }
    each_by tab false = is.each tab

pub without-some : (tab : ℕ) (active : Option ℕ) (other : ℕ) → without tab active ≡ Some other → (active ≡ Some other) × (other ≢ tab)
without-some tab None other is = cc
without-some tab (Some active) other is = by_test (active == tab) refl is
  where
    by_test : (here : Bool) → (active == tab) ≡ here → (if here then None else Some active) ≡ Some other → (Some active ≡ Some other) × (other ≢ tab)
    by_test true same h = cc
    by_test false differs h =
        let e : active ≡ other = ap (λ o. unwrap_or o active) h in
        (h, λ same. grind (arith, nat_tests, e, same))
