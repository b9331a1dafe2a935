-- What is seen of the screen is what the journal's screen has.
use Rattle.std.proofs.Common.{◌≡◌, ℕ, zero, suc, ◌+◌, ◌-◌, ◌<◌, Bool, true, false, List, Option, Some, None, refl, sym, ◌∙◌, ap, arith}
use Rattle.std.specs.Prelude.{nat_lt, slice_index, option_and_then, if◌then◌else◌}
use Rattle.std.proofs.lemmas.Bool.Decides.{nat_tests}
use Rattle.ibos_kinds.specs.declared.names.Instance.{Instance}
use Rattle.ibos_kinds.specs.Screens.{chrome_rows, padded}
use Rattle.ibos_page.specs.Tabs.{TabTable, seat_at, live_at, active_in}
use Rattle.ibos_frame.specs.ScreenStates.{chrome_at, content_of, pixel_in, shown_content, seen_at}
use Rattle.ibos_model.specs.Journal.{Journal}
use Rattle.ibos_model.specs.Focus.{focus_of}
use Rattle.ibos_model.specs.Tabs.{Tabs, tabs, active_of}
use Rattle.ibos_model.specs.Screen.{bar_of, bar_text, chrome_in, chrome_of, content_cell, screen, cells_from, seen_row, trimmed}
use Rattle.ibos_model.specs.Outcomes.{rows_from, look_outcome}
use Rattle.ibos_kernel.specs.Tables.{Parts, bar_at, chrome_by, is_live}
use Rattle.ibos_kernel.specs.Standing.{TabsStand, Displays}
use Rattle.ibos_kernel.proofs.TabsStanding.{page_there}

-- ---- looks at equal cells

cells_same : (c n : ℕ) (f g : ℕ → ℕ) → ((k : ℕ) → k < c + n → f k ≡ g k) → cells_from c n f ≡ cells_from c n g
cells_same c zero f g same = refl
cells_same c (suc n) f g same =
    let first : f c ≡ g c = same c (omega arith) in
    let rest : cells_from (c + 1) n f ≡ cells_from (c + 1) n g = cells_same (c + 1) n f g (λ k h. same k (omega (arith, h))) in
    rw (first, rest) refl

row_same : (f g : ℕ → ℕ → ℕ) (r : ℕ) → ((c : ℕ) → c < 80 → f r c ≡ g r c) → seen_row f r ≡ seen_row g r
unfolding seen_row
row_same f g r same = ap trimmed (cells_same 0 80 (f r) (g r) same)

rows_same : (r n : ℕ) (f g : ℕ → List ℕ) → ((k : ℕ) → k < r + n → f k ≡ g k) → rows_from r n f ≡ rows_from r n g
rows_same r zero f g same = refl
rows_same r (suc n) f g same =
    let first : f r ≡ g r = same r (omega arith) in
    let rest = rows_same (r + 1) n f g (λ k h. same k (omega (arith, h))) in
    rw (first, rest) refl

pub looks_same : (f g : ℕ → ℕ → ℕ) → ((r c : ℕ) → r < 25 → c < 80 → f r c ≡ g r c) → look_outcome (seen_row f) ≡ look_outcome (seen_row g)
looks_same f g same =
    let rows = rows_same 0 25 (seen_row f) (seen_row g) (λ r h. row_same f g r (λ c within. same r c h within)) in
    rw rows refl

-- ---- the screen

bar_same : (T : Tabs) (t : TabTable) → TabsStand T t → (active : Option Instance) → ((who : Instance) → active ≡ Some who → live_at t who.tab ≡ Some who) → bar_at t active ≡ bar_of T active
bar_same T t shows None lives = refl
bar_same T t shows (Some who) lives = ap bar_text (sym (shows.url who (lives who refl)))

pub chrome_same : (J : Journal) (t : Parts) (T : Tabs) → Displays J t → TabsStand T t.tabs → option_and_then T.live (focus_of J).tab ≡ active_in t.tabs
    → ((who : Instance) → active_in t.tabs ≡ Some who → live_at t.tabs who.tab ≡ Some who) → (r : ℕ) → chrome_by t.tabs t.focus r ≡ chrome_in T (focus_of J) r
chrome_same J t T displays shows active lives zero = rw (active, displays.spot) refl
chrome_same J t T displays shows active lives (suc zero) = rw active (bar_same T t.tabs shows (active_in t.tabs) lives)
chrome_same J t T displays shows active lives (suc (suc r)) = rw displays.entry_line refl

-- a tab's live instance is one that lives
pub live_is : (t : TabTable) (who : Instance) → who.ord + 1 ≡ (seat_at t who.tab).count → live_at t who.tab ≡ Some who → is_live t who ≡ true
live_is t who newest lives =
    let there = page_there who.tab ((seat_at t who.tab).count - 1) (seat_at t who.tab).page who lives in
    grind (arith, nat_tests, there, newest)

content_same : (J : Journal) (t : Parts) → Displays J t → (active : Option Instance) → ((who : Instance) → active ≡ Some who → live_at t.tabs who.tab ≡ Some who)
    → (r c : ℕ) → r < 22 → c < 80 → pixel_in (option_and_then (content_of t.screen) active) r c ≡ content_cell J active r c
content_same J t displays None lives r c low left = refl
content_same J t displays (Some who) lives r c low left =
    let here = lives who refl in
    displays.cells who r c low left (live_is t.tabs who (displays.tied.beside.newest who.tab who here) here)

pub seen_same : (J : Journal) (t : Parts) → Displays J t → TabsStand (tabs t.hosts J) t.tabs → active_of t.hosts J ≡ active_in t.tabs
    → ((who : Instance) → active_in t.tabs ≡ Some who → live_at t.tabs who.tab ≡ Some who) → (r c : ℕ) → r < 25 → c < 80 → seen_at t.screen r c ≡ screen t.hosts J r c
unfolding seen_at screen
seen_same J t displays shows active lives r c low left = by_test (nat_lt r 3) refl
  where
    by_test : (top : Bool) → nat_lt r 3 ≡ top
        → (if top then slice_index (chrome_at t.screen r) c else pixel_in (shown_content t.screen) (r - chrome_rows) c)
        ≡ (if top then slice_index (padded (chrome_of t.hosts J r)) c else content_cell J (active_of t.hosts J) (r - chrome_rows) c)
    by_test true is =
        let within : r < 3 = grind (arith, nat_tests) in
        ap (λ (xs : List ℕ). slice_index xs c) (displays.tied.composed.chrome r within ∙ ap padded (chrome_same J t (tabs t.hosts J) displays shows active lives r))
    by_test false is =
        let within : r - 3 < 22 = grind (arith, nat_tests, is, low) in
        rw (active, displays.tied.composed.shown) (content_same J t displays (active_in t.tabs) lives (r - 3) c within left)
