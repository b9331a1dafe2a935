-- Contents go with their instances.
use Rattle.std.proofs.Common.{◌≡◌, ◌≢◌, ℕ, ◌+◌, ◌-◌, ◌<◌, Bool, true, false, length, Option, Some, None, Ok, Err, Result, refl, sym, ◌∙◌, ap, subst, arith}
use Rattle.std.specs.Prelude.{is_some, bytes_eq, nat_lt, ◌==◌, if◌then◌else◌}
use Rattle.std.proofs.lemmas.Bool.Decides.{nat_tests}
use Rattle.ibos_kinds.specs.declared.names.Instance.{Instance}
use Rattle.ibos_kinds.specs.declared.rule.Rule.{Rule}
use Rattle.ibos_kinds.specs.declared.rule.Rule.TheVariants.{U1, U3}
use Rattle.ibos_kinds.specs.Screens.{space}
use Rattle.ibos_origin.specs.Pages.{Page}
use Rattle.ibos_page.specs.Tabs.{TabTable, seat_at, live_at, next_at, start_in, go_in, origin_with, is_live_in, opened, with_seat}
use Rattle.ibos_page.specs.declared.tabs.Moved.{Moved}
use Rattle.ibos_page.specs.declared.tabs.Moved.TheVariants.{Same, New}
use Rattle.ibos_frame.specs.ScreenStates.{ScreenState, content_of, content_at, is_open}
use Rattle.ibos_model.specs.Journal.{same}
use Rattle.ibos_kernel.specs.Tables.{IsBeside, ContentsFollow, is_live}
use Rattle.ibos_kernel.proofs.TabsStanding.{seat-with, page_there}
use Rattle.ibos_kernel.proofs.ScreenStands.{active_within}

-- the test tells when two instances are one
same-true : (p q : Instance) → same p q ≡ true → p ≡ q
same-true p q h = grind (arith, nat_tests)

same-refl : (p : Instance) → same p p ≡ true
same-refl p = grind (arith, nat_tests)

-- a tab that may start an instance has none that lives, and starts its next
started_is : (t : TabTable) (tab : ℕ) (who : Instance) → start_in t tab ≡ Ok who → ((seat_at t tab).page ≡ None) × (who ≡ next_at t tab)
started_is t tab who may = by_page (seat_at t tab).page (nat_lt (seat_at t tab).count 32) may
  where
    who_of : Result Instance Rule → Instance
    who_of (Ok q) = q
    who_of (Err rule) = who

    by_page : (page : Option Page) (room : Bool) → (if is_some page then Err U1 else if room then Ok (next_at t tab) else Err U3) ≡ Ok who → (page ≡ None) × (who ≡ next_at t tab)
    by_page None true h = (refl, sym (ap who_of h))
    by_page None false h = absurd (cc h)
    by_page (Some page) room h = absurd (cc h)

pub started_free : (t : TabTable) (tab : ℕ) (who : Instance) → start_in t tab ≡ Ok who → (seat_at t tab).page ≡ None
started_free t tab who may = (started_is t tab who may).0

pub started_who : (t : TabTable) (tab : ℕ) (who : Instance) → start_in t tab ≡ Ok who → next_at t tab ≡ who
started_who t tab who may = sym (started_is t tab who may).1

-- an instance that goes to another origin is followed by the next of its tab
pub moved_who : (t : TabTable) (who : Instance) (page : Page) (next : Instance) → go_in who (origin_with (seat_at t who.tab).page) page ≡ Ok (New next) → record { tab = who.tab; ord = who.ord + 1 } ≡ next
moved_who t who page next went = by_tests (bytes_eq page.origin (origin_with (seat_at t who.tab).page)) (nat_lt who.ord 31) went
  where
    next_of : Result Moved Rule → Instance
    next_of (Ok (New q)) = q
    next_of other = who

    by_tests : (one room : Bool) → (if one then Ok Same else if room then Ok (New (record { tab = who.tab; ord = who.ord + 1 })) else Err U3) ≡ Ok (New next) → record { tab = who.tab; ord = who.ord + 1 } ≡ next
    by_tests true room h = absurd (cc h)
    by_tests false true h = ap next_of h
    by_tests false false h = absurd (cc h)

differs : (p q : Instance) → same p q ≡ false → q ≢ p
differs p q other e = let it : same p p ≡ false = subst (λ (x : Instance). same p x ≡ false) e other in clash (same p p) (same-refl p) it
  where
    clash : (b : Bool) → b ≡ true → b ≡ false → ⊥
    clash true h i = cc
    clash false h i = cc

pub live_opened : (t : TabTable) (tab : ℕ) (page : Page) (q : Instance) → length t.seats ≡ 64 → tab < 64 → (seat_at t tab).page ≡ None
    → is_live (with_seat t tab (opened page (seat_at t tab))) q ≡ (if same (next_at t tab) q then true else is_live t q)
live_opened t tab page q room within free = rw (seat-with t tab q.tab (opened page (seat_at t tab)) room within) (by_tab (q.tab == tab) refl)
  where
    by_tab : (here : Bool) → (q.tab == tab) ≡ here → is_live_in q (if here then opened page (seat_at t tab) else seat_at t q.tab) ≡ (if same (next_at t tab) q then true else is_live t q)
    by_tab true here = let e : q.tab ≡ tab = grind (arith, nat_tests) in rw e (grind (arith, nat_tests, free, here))
    by_tab false here = grind (arith, nat_tests, here)

pub next_not_live : (t : TabTable) (tab : ℕ) → (seat_at t tab).page ≡ None → is_live t (next_at t tab) ≡ false
next_not_live t tab free = rw free refl

next_follows : (t : TabTable) (tab : ℕ) (page : Page) (f g : ScreenState) → IsBeside t f → tab < 64 → (seat_at t tab).page ≡ None
    → is_open g (next_at t tab) ≡ true → ((r c : ℕ) → r < 22 → c < 80 → content_at g (next_at t tab) r c ≡ space)
    → ((q : Instance) → q ≢ next_at t tab → content_of g q ≡ content_of f q)
    → ContentsFollow t (record (with_seat t tab (opened page (seat_at t tab))) { active = Some tab }) f g
next_follows t tab page f g beside within free begun blank others = record {
  lives = λ q. lives_by q (same next q) refl;
  kept = λ q was now. others q (λ e. clash (is_live t q) was (rw e (next_not_live t tab free)));
  blank = λ q r c low left was now. blank_by q r c low left was now (same next q) refl;
}
  where
    next : Instance
    next = next_at t tab

    clash : (b : Bool) → b ≡ true → b ≡ false → ⊥
    clash true h i = cc
    clash false h i = cc

    law : (q : Instance) → is_live (with_seat t tab (opened page (seat_at t tab))) q ≡ (if same next q then true else is_live t q)
    law q = live_opened t tab page q beside.room within free

    lives_by : (q : Instance) (it : Bool) → same next q ≡ it → is_open g q ≡ is_live (with_seat t tab (opened page (seat_at t tab))) q
    lives_by q true it = ap (is_open g) (sym (same-true next q it)) ∙ begun ∙ sym (law q ∙ ap (λ b. if b then true else is_live t q) it)
    lives_by q false other = ap is_some (others q (differs next q other)) ∙ beside.lives q ∙ sym (law q ∙ ap (λ b. if b then true else is_live t q) other)

    blank_by : (q : Instance) (r c : ℕ) → r < 22 → c < 80 → is_live t q ≡ false → is_live (with_seat t tab (opened page (seat_at t tab))) q ≡ true → (it : Bool) → same next q ≡ it → content_at g q r c ≡ space
    blank_by q r c low left was now true it = ap (λ p. content_at g p r c) (sym (same-true next q it)) ∙ blank r c low left
    blank_by q r c low left was now false other =
        let still : is_live t q ≡ true = sym (law q ∙ ap (λ b. if b then true else is_live t q) other) ∙ now in
        absurd (clash (is_live t q) still was)

pub follows_started : (t : TabTable) (tab : ℕ) (page : Page) (who : Instance) (f g : ScreenState) → next_at t tab ≡ who → IsBeside t f → tab < 64 → (seat_at t tab).page ≡ None
    → is_open g who ≡ true → ((r c : ℕ) → r < 22 → c < 80 → content_at g who r c ≡ space)
    → ((q : Instance) → q ≢ who → content_of g q ≡ content_of f q)
    → ContentsFollow t (record (with_seat t tab (opened page (seat_at t tab))) { active = Some tab }) f g
follows_started t tab page who f g is beside within free begun blank others =
    next_follows t tab page f g beside within free (ap (is_open g) is ∙ begun) (λ r c low left. ap (λ q. content_at g q r c) is ∙ blank r c low left) (λ q other. others q (λ e. other (e ∙ sym is)))

abbrev pub after : Instance → Instance
after who = record { tab = who.tab; ord = who.ord + 1 }

pub live_replaced : (t : TabTable) (who : Instance) (page : Page) (q : Instance) → length t.seats ≡ 64 → who.tab < 64 → is_some (seat_at t who.tab).page ≡ true → who.ord + 1 ≡ (seat_at t who.tab).count
    → is_live (with_seat t who.tab (opened page (seat_at t who.tab))) q ≡ (if same (after who) q then true else if same who q then false else is_live t q)
live_replaced t who page q room within there newest = rw (seat-with t who.tab q.tab (opened page (seat_at t who.tab)) room within) (by_tab (q.tab == who.tab) refl)
  where
    by_tab : (here : Bool) → (q.tab == who.tab) ≡ here
        → is_live_in q (if here then opened page (seat_at t who.tab) else seat_at t q.tab) ≡ (if same (after who) q then true else if same who q then false else is_live t q)
    by_tab true here = let e : q.tab ≡ who.tab = grind (arith, nat_tests) in rw e (grind (arith, nat_tests, there, here, newest))
    by_tab false here = grind (arith, nat_tests, here)

after_follows : (t : TabTable) (who : Instance) (page : Page) (f h g : ScreenState) → IsBeside t f → live_at t who.tab ≡ Some who
    → is_open h who ≡ false → ((q : Instance) → q ≢ who → content_of h q ≡ content_of f q)
    → is_open g (record { tab = who.tab; ord = who.ord + 1 }) ≡ true → ((r c : ℕ) → r < 22 → c < 80 → content_at g (record { tab = who.tab; ord = who.ord + 1 }) r c ≡ space)
    → ((q : Instance) → q ≢ record { tab = who.tab; ord = who.ord + 1 } → content_of g q ≡ content_of h q)
    → ContentsFollow t (with_seat t who.tab (opened page (seat_at t who.tab))) f g
after_follows t who page f h g beside lives ended kept begun blank others = record {
  lives = λ q. lives_by q (same next q) refl (same who q) refl;
  kept = λ q was now. kept_by q was now (same next q) refl (same who q) refl;
  blank = λ q r c low left was now. blank_by q r c low left was now (same next q) refl (same who q) refl;
}
  where
    next : Instance
    next = after who

    new : TabTable
    new = with_seat t who.tab (opened page (seat_at t who.tab))

    clash : (b : Bool) → b ≡ true → b ≡ false → ⊥
    clash true h i = cc
    clash false h i = cc

    there : is_some (seat_at t who.tab).page ≡ true
    there = page_there who.tab ((seat_at t who.tab).count - 1) (seat_at t who.tab).page who lives

    newest : who.ord + 1 ≡ (seat_at t who.tab).count
    newest = beside.newest who.tab who lives

    law : (q : Instance) → is_live (with_seat t who.tab (opened page (seat_at t who.tab))) q ≡ (if same next q then true else if same who q then false else is_live t q)
    law q = live_replaced t who page q beside.room (active_within t who beside.room lives) there newest

    law_by : (q : Instance) (new old : Bool) → same next q ≡ new → same who q ≡ old
        → is_live (with_seat t who.tab (opened page (seat_at t who.tab))) q ≡ (if new then true else if old then false else is_live t q)
    law_by q new old is_new is_old = law q ∙ ap (λ b. if b then true else if same who q then false else is_live t q) is_new ∙ ap (λ b. if new then true else if b then false else is_live t q) is_old

    next_was_not : is_live t next ≡ false
    next_was_not = grind (arith, nat_tests, newest)

    who_is_not_next : same next who ≡ false
    who_is_not_next = grind (arith, nat_tests)

    lives_by : (q : Instance) (new : Bool) → same next q ≡ new → (old : Bool) → same who q ≡ old → is_open g q ≡ is_live (with_seat t who.tab (opened page (seat_at t who.tab))) q
    lives_by q true is_new old is_old = ap (is_open g) (sym (same-true next q is_new)) ∙ begun ∙ sym (law_by q true old is_new is_old)
    lives_by q false is_new true is_old =
        ap is_some (others q (differs next q is_new)) ∙ ap (is_open h) (sym (same-true who q is_old)) ∙ ended ∙ sym (law_by q false true is_new is_old)
    lives_by q false is_new false is_old =
        ap is_some (others q (differs next q is_new) ∙ kept q (differs who q is_old)) ∙ beside.lives q ∙ sym (law_by q false false is_new is_old)

    kept_by : (q : Instance) → is_live t q ≡ true → is_live (with_seat t who.tab (opened page (seat_at t who.tab))) q ≡ true
        → (new : Bool) → same next q ≡ new → (old : Bool) → same who q ≡ old → content_of g q ≡ content_of f q
    kept_by q was now true is_new old is_old =
        let not_there : is_live t q ≡ false = ap (is_live t) (sym (same-true next q is_new)) ∙ next_was_not in
        absurd (clash (is_live t q) was not_there)
    kept_by q was now false is_new true is_old =
        let gone = law_by q false true is_new is_old in
        absurd (clash _ now gone)
    kept_by q was now false is_new false is_old = others q (differs next q is_new) ∙ kept q (differs who q is_old)

    blank_by : (q : Instance) (r c : ℕ) → r < 22 → c < 80 → is_live t q ≡ false → is_live (with_seat t who.tab (opened page (seat_at t who.tab))) q ≡ true
        → (new : Bool) → same next q ≡ new → (old : Bool) → same who q ≡ old → content_at g q r c ≡ space
    blank_by q r c low left was now true is_new old is_old = ap (λ p. content_at g p r c) (sym (same-true next q is_new)) ∙ blank r c low left
    blank_by q r c low left was now false is_new true is_old = absurd (clash _ now (law_by q false true is_new is_old))
    blank_by q r c low left was now false is_new false is_old = absurd (clash (is_live t q) (sym (law_by q false false is_new is_old) ∙ now) was)

pub follows_replaced : (t : TabTable) (who : Instance) (page : Page) (next : Instance) (f h g : ScreenState) → record { tab = who.tab; ord = who.ord + 1 } ≡ next → IsBeside t f → live_at t who.tab ≡ Some who
    → is_open h who ≡ false → ((q : Instance) → q ≢ who → content_of h q ≡ content_of f q)
    → is_open g next ≡ true → ((r c : ℕ) → r < 22 → c < 80 → content_at g next r c ≡ space)
    → ((q : Instance) → q ≢ next → content_of g q ≡ content_of h q)
    → ContentsFollow t (with_seat t who.tab (opened page (seat_at t who.tab))) f g
follows_replaced t who page next f h g is beside lives ended kept begun blank others =
    after_follows t who page f h g beside lives ended kept (ap (is_open g) is ∙ begun) (λ r c low left. ap (λ q. content_at g q r c) is ∙ blank r c low left) (λ q other. others q (λ e. other (e ∙ sym is)))
