-- The tabs' keys and the slab of pages, before and after a change of one tab.
use Rattle.std.proofs.Common.{◌≡◌, ◌≢◌, ℕ, suc, ◌+◌, ◌<◌, ◌≤◌, Bool, true, false, List, [], ◌∷◌, length, Option, Some, None, refl, sym, ◌∙◌, ap, subst, arith, get_or, length-set}
use Rattle.std.specs.Prelude.{is_some, cond, count_by, slice_set, ◌==◌, if◌then◌else◌, option_and_then, IfSome, IfNone}
use Rattle.std.proofs.lemmas.Bool.Decides.{nat_tests}
use Rattle.std.proofs.lemmas.List.{get_or-set_same, get_or-set_other, get_or_read, ext_get_or}
use Rattle.std.proofs.lemmas.List.Sums.{sum_by-cons, sum_by-set, count_by-le-length}
use Rattle.std.proofs.Math.ListN.{get_or-map, length-map}
use Rattle.slab.specs.Slab.{Slab, get, slab_len, with_value, ContainsKey, HasRoomFor, Updates}
use Rattle.slab.proofs.SlabLemmas.{ContainsKey-within, Updates-with_value}
use Rattle.ibos_origin.specs.Pages.{Page}
use Rattle.ibos_page.specs.Seats.{Seat}
use Rattle.ibos_page.specs.Tabs.{empty_seat, closed}
use Rattle.ibos_page.specs.Places.{seat_of, seats_of, empty_place, key_at, held, has_key, IsKept}
use Rattle.ibos_page.specs.declared.pages.Place.{Place}

-- a write through a key leaves as many pages
pub written_len : (s : Slab Page) (key : ℕ) (page : Page) → ContainsKey s key → slab_len (with_value s key page) ≡ slab_len s
written_len s key page present =
    let within : key < length s.slots = ContainsKey-within s key present in
    let number : Bool → ℕ = λ b. cond b 1 0 in
    let sums : slab_len (with_value s key page) + number (is_some (get s key)) ≡ slab_len s + 1 = sum_by-set (λ o. cond (is_some o) 1 0) s.slots key (Some page) None within in
    let one : number (is_some (get s key)) ≡ 1 = ap number present in
    omega (arith, sums, one)

pub written_updates : (s : Slab Page) (key : ℕ) (page : Page) → ContainsKey s key → Updates s (with_value s key page) key (Some page)
written_updates s key page present = Updates-with_value s key page present

seen_at : (pages : Slab Page) (places : List Place) (tab : ℕ) → get_or (seats_of pages places) tab empty_seat ≡ seat_of pages (get_or places tab empty_place)
seen_at pages places tab = get_or-map (seat_of pages) places tab empty_place

pub seen-empty : (pages : Slab Page) (places : List Place) → ((tab : ℕ) → get_or places tab empty_place ≡ empty_place) → (tab : ℕ) → get_or (seats_of pages places) tab empty_seat ≡ empty_seat
seen-empty pages places empty tab = seen_at pages places tab ∙ ap (seat_of pages) (empty tab)

-- no other tab has the key
abbrev Alone : List Place → ℕ → ℕ → Type 0
Alone places tab key = (other : ℕ) → other ≢ tab → key_at places other ≢ Some key

page-kept : (old new : Slab Page) (key : ℕ) (slot : Option Page) (own : Option ℕ) → Updates old new key slot → own ≢ Some key → option_and_then (get new) own ≡ option_and_then (get old) own
page-kept old new key slot None updates differs = refl
page-kept old new key slot (Some k) updates differs = updates.others k (λ e. differs (ap (λ n. Some n) e))

seat-kept : (old new : Slab Page) (key : ℕ) (slot : Option Page) (place : Place) → Updates old new key slot → place.key ≢ Some key → seat_of new place ≡ seat_of old place
seat-kept old new key slot place updates differs =
    let F : Option Page → Seat = λ page. record { count = place.count; page = page } in
    ap F (page-kept old new key slot place.key updates differs)

-- one tab is seen to change
seen-set : (places : List Place) (old new : Slab Page) (tab key : ℕ) (slot : Option Page) (place : Place) → tab < length places → Updates old new key slot → Alone places tab key
    → seats_of new (slice_set places tab place) ≡ slice_set (seats_of old places) tab (seat_of new place)
seen-set places old new tab key slot place within updates alone =
    let long : length (seats_of new (slice_set places tab place)) ≡ length (slice_set (seats_of old places) tab (seat_of new place)) =
    length-map (slice_set places tab place) (seat_of new) ∙ length-set places tab place ∙ sym (length-map places (seat_of old)) ∙ sym (length-set (seats_of old places) tab (seat_of new place)) in
    ext_get_or empty_seat _ _ long (λ i h. by_test i (i == tab) refl)
  where
    by_test : (i : ℕ) (here : Bool) → (i == tab) ≡ here → get_or (seats_of new (slice_set places tab place)) i empty_seat ≡ get_or (slice_set (seats_of old places) tab (seat_of new place)) i empty_seat
    by_test i true here =
        let same : tab ≡ i = grind (arith, nat_tests) in
        let inside : tab < length (seats_of old places) = omega (arith, within, length-map places (seat_of old)) in
        let there = seen_at new (slice_set places tab place) tab ∙ ap (seat_of new) (get_or-set_same places tab place empty_place within) ∙ sym (get_or-set_same (seats_of old places) tab (seat_of new place) empty_seat inside) in
        let P : ℕ → Type 0 = λ n. get_or (seats_of new (slice_set places tab place)) n empty_seat ≡ get_or (slice_set (seats_of old places) tab (seat_of new place)) n empty_seat in
        subst P same there
    by_test i false other =
        let differs : i ≢ tab = λ e. grind (arith, nat_tests, e) in
        seen_at new (slice_set places tab place) i ∙ ap (seat_of new) (get_or-set_other places tab i place empty_place differs)
        ∙ seat-kept old new key slot (get_or places i empty_place) updates (alone i differs)
        ∙ sym (seen_at old places i) ∙ sym (get_or-set_other (seats_of old places) tab i (seat_of new place) empty_seat differs)

place-set : (places : List Place) (tab i : ℕ) (place : Place) → tab < length places → get_or (slice_set places tab place) i empty_place ≡ (if i == tab then place else get_or places i empty_place)
place-set places tab i place within = by_test (i == tab) refl
  where
    by_test : (here : Bool) → (i == tab) ≡ here → get_or (slice_set places tab place) i empty_place ≡ (if here then place else get_or places i empty_place)
    by_test true here = let same : i ≡ tab = grind (arith, nat_tests) in rw same (get_or-set_same places tab place empty_place within)
    by_test false other = let differs : i ≢ tab = λ e. grind (arith, nat_tests, e) in get_or-set_other places tab i place empty_place differs

-- one tab's place is written, and the slab changes at the key that is its own
kept-set : (places : List Place) (old new : Slab Page) (tab key : ℕ) (slot : Option Page) (place : Place) → IsKept places old → tab < 64 → Updates old new key slot → Alone places tab key
    → ((k : ℕ) → place.key ≡ Some k → (k ≡ key) × ContainsKey new k)
    → slab_len new + held (key_at places tab) ≡ slab_len old + held place.key → new.capacity ≡ old.capacity → IsKept (slice_set places tab place) new
kept-set places old new tab key slot place kept within updates alone mine len capacity =
    let inside : tab < length places = omega (arith, kept.count) in
    let sums : count_by has_key (slice_set places tab place) + held (key_at places tab) ≡ count_by has_key places + held place.key = sum_by-set (λ p. cond (has_key p) 1 0) places tab place empty_place inside in
    record {
      count = length-set places tab place ∙ kept.count;
      there = λ i k h. there_by i k (i == tab) refl (key_read i inside ∙ h);
      apart = λ i j k hi hj. apart_by i j k (i == tab) (j == tab) refl refl (key_read i inside ∙ hi) (key_read j inside ∙ hj);
      as_many = omega (arith, sums, kept.as_many, len);
      room = omega (arith, kept.room, capacity);
    }
  where
    key_read : (i : ℕ) → tab < length places → (if i == tab then place else get_or places i empty_place).key ≡ key_at (slice_set places tab place) i
    key_read i inside = ap (λ (p : Place). p.key) (sym (place-set places tab i place inside))

    there_by : (i k : ℕ) (here : Bool) → (i == tab) ≡ here → (if here then place else get_or places i empty_place).key ≡ Some k → ContainsKey new k
    there_by i k true here h = (mine k h).1
    there_by i k false other h =
        let differs : i ≢ tab = λ e. grind (arith, nat_tests, e) in
        let apart : k ≢ key = λ e. alone i differs (h ∙ ap (λ n. Some n) e) in
        ap (λ (o : Option Page). is_some o) (updates.others k apart) ∙ kept.there i k h

    apart_by : (i j k : ℕ) (first second : Bool) → (i == tab) ≡ first → (j == tab) ≡ second → (if first then place else get_or places i empty_place).key ≡ Some k
        → (if second then place else get_or places j empty_place).key ≡ Some k → i ≡ j
    apart_by i j k true true here there hi hj = grind (arith, nat_tests)
    apart_by i j k true false here other hi hj =
        let differs : j ≢ tab = λ e. grind (arith, nat_tests, e) in
        absurd (alone j differs (hj ∙ ap (λ n. Some n) (mine k hi).0))
    apart_by i j k false true other here hi hj =
        let differs : i ≢ tab = λ e. grind (arith, nat_tests, e) in
        absurd (alone i differs (hi ∙ ap (λ n. Some n) (mine k hj).0))
    apart_by i j k false false other also hi hj = kept.apart i j k hi hj

own_alone : (places : List Place) (old : Slab Page) (tab key : ℕ) (own : Option ℕ) → IsKept places old → key_at places tab ≡ own → IfSome own (λ k. key ≡ k) → IfNone own (get old key ≡ None) → Alone places tab key
own_alone places old tab key None kept is same fresh = λ other differs e.
    let none : get old key ≡ None = fresh in
    let wrong : false ≡ true = sym (ap (λ (o : Option Page). is_some o) none) ∙ kept.there other key e in
    cc
own_alone places old tab key (Some k) kept is same fresh = λ other differs e.
    let e' : key ≡ k = same in
    differs (kept.apart other tab key e (is ∙ ap (λ n. Some n) (sym e')))

key_is : (places : List Place) (pages : Slab Page) (tab : ℕ) (read : Place) → IsKept places pages → tab < 64 → read ≡ get_or places tab read → key_at places tab ≡ read.key
key_is places pages tab read kept within e = ap (λ (p : Place). p.key) (sym (get_or_read places tab read (omega (arith, kept.count)) e empty_place))

-- the key of a tab finds a page
pub kept-own : (places : List Place) (pages : Slab Page) (tab : ℕ) (read : Place) → IsKept places pages → tab < 64 → read ≡ get_or places tab read → IfSome read.key (ContainsKey pages)
kept-own places pages tab read kept within e = by_own read.key (key_is places pages tab read kept within e)
  where
    by_own : (own : Option ℕ) → key_at places tab ≡ own → IfSome own (ContainsKey pages)
    by_own None is = tt
    by_own (Some k) is = kept.there tab k is

-- where a tab has none, there is room for a page
pub kept-room : (places : List Place) (pages : Slab Page) (tab : ℕ) (read : Place) → IsKept places pages → tab < 64 → read ≡ get_or places tab read → IfNone read.key (HasRoomFor pages 1)
kept-room places pages tab read kept within e = by_own read.key (key_is places pages tab read kept within e)
  where
    by_own : (own : Option ℕ) → key_at places tab ≡ own → IfNone own (HasRoomFor pages 1)
    by_own (Some k) is = tt
    by_own None is =
        let full : Place = record { count = 0; key = Some 0 } in
        let sums : count_by has_key (slice_set places tab full) + held (key_at places tab) ≡ count_by has_key places + 1 = sum_by-set (λ p. cond (has_key p) 1 0) places tab full empty_place (omega (arith, kept.count)) in
        let few : count_by has_key (slice_set places tab full) ≤ length (slice_set places tab full) = count_by-le-length has_key (slice_set places tab full) in
        let none : held (key_at places tab) ≡ 0 = ap held is in
        omega (arith, sums, few, none, length-set places tab full, kept.count, kept.as_many, kept.room)

module _ (places : List Place) (old new : Slab Page) (tab key : ℕ) (read : Place) (kept : IsKept places old) (within : tab < 64) (e : read ≡ get_or places tab read) (capacity : new.capacity ≡ old.capacity) where
  -- a tab gets a page
  pub kept-put : (count : ℕ) (page : Page) → Updates old new key (Some page) → IfSome read.key (λ k. key ≡ k) → IfNone read.key (get old key ≡ None) → slab_len new + held read.key ≡ slab_len old + 1
      → IsKept (slice_set places tab (record { count = count; key = Some key })) new
      × (seats_of new (slice_set places tab (record { count = count; key = Some key })) ≡ slice_set (seats_of old places) tab (record { count = count; page = Some page }))
  kept-put count page updates same fresh len =
      let place : Place = record { count = count; key = Some key } in
      let is : key_at places tab ≡ read.key = key_is places old tab read kept within e in
      let alone = own_alone places old tab key read.key kept is same fresh in
      let present : ContainsKey new key = ap (λ (o : Option Page). is_some o) updates.changed in
      let mine : (k : ℕ) → place.key ≡ Some k → (k ≡ key) × ContainsKey new k = λ k h. let k_is : key ≡ k = cc h in (sym k_is, subst (ContainsKey new) k_is present) in
      let len' : slab_len new + held (key_at places tab) ≡ slab_len old + held place.key = ap (λ o. slab_len new + held o) is ∙ len in
      let F : Option Page → List Seat = λ o. slice_set (seats_of old places) tab (record { count = count; page = o }) in (
        kept-set places old new tab key (Some page) place kept within updates alone mine len' capacity,
        seen-set places old new tab key (Some page) place (omega (arith, kept.count)) updates alone ∙ ap F updates.changed,
      )

  -- a tab has none from now on
  pub kept-end : read.key ≡ Some key → Updates old new key None → slab_len new + 1 ≡ slab_len old
      → IsKept (slice_set places tab (record { count = read.count; key = None })) new
      × (seats_of new (slice_set places tab (record { count = read.count; key = None })) ≡ slice_set (seats_of old places) tab (closed (get_or (seats_of old places) tab empty_seat)))
  kept-end own updates len =
      let place : Place = record { count = read.count; key = None } in
      let is : key_at places tab ≡ Some key = key_is places old tab read kept within e ∙ own in
      let alone : Alone places tab key = λ other differs h. differs (kept.apart other tab key h is) in
      let mine : (k : ℕ) → place.key ≡ Some k → (k ≡ key) × ContainsKey new k = λ k h. absurd (cc h) in
      let one : held (key_at places tab) ≡ 1 = ap held is in
      let read_is : read ≡ get_or places tab empty_place = get_or_read places tab read (omega (arith, kept.count)) e empty_place in
      let count_is : read.count ≡ (get_or (seats_of old places) tab empty_seat).count = ap (λ (p : Place). p.count) read_is ∙ sym (ap (λ (s : Seat). s.count) (seen_at old places tab)) in
      let F : ℕ → List Seat = λ n. slice_set (seats_of old places) tab (record { count = n; page = None }) in (
        kept-set places old new tab key None place kept within updates alone mine (omega (arith, len, one)) capacity,
        seen-set places old new tab key None place (omega (arith, kept.count)) updates alone ∙ ap F count_is,
      )

none_keys : (places : List Place) → ((tab : ℕ) → get_or places tab empty_place ≡ empty_place) → count_by has_key places ≡ 0
none_keys [] empty = refl
none_keys (p ∷ ps) empty =
    let first : held p.key ≡ 0 = ap (λ (q : Place). held q.key) (empty 0) in
    let sums : count_by has_key (p ∷ ps) ≡ held p.key + count_by has_key ps = sum_by-cons (λ q. cond (has_key q) 1 0) p ps in
    omega (arith, first, sums, none_keys ps (λ tab. empty (suc tab)))

pub kept-new : (places : List Place) (pages : Slab Page) → length places ≡ 64 → ((tab : ℕ) → get_or places tab empty_place ≡ empty_place) → pages.slots ≡ [] → 64 ≤ pages.capacity → IsKept places pages
kept-new places pages count empty slots room = record {
  count = count;
  there = λ tab key h. absurd (cc (none tab key h));
  apart = λ tab other key h h'. absurd (cc (none tab key h));
  as_many = ap (λ (s : List (Option Page)). count_by is_some s) slots ∙ sym (none_keys places empty);
  room = room;
}
  where
    none : (tab key : ℕ) → key_at places tab ≡ Some key → None ≡ Some key
    none tab key h = sym (ap (λ (p : Place). p.key) (empty tab)) ∙ h
