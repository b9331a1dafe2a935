-- Tabs: how many instances each has had, and what its live one shows.
use Rattle.std.specs.Prelude.{◌≡◌, ◌≢◌, ℕ, ◌+◌, ◌-◌, ◌<◌, ◌≤◌, List, [], Bool, ◌==◌, ◌&&◌, nat_lt}
use Rattle.std.specs.Prelude.{length, Option, Some, None, option_map, option_and_then, is_some}
use Rattle.std.specs.Prelude.{Result, Ok, Err, bytes_eq, slice_set, if◌then◌else◌}
use Rattle.std.specs.List.{slice_index_or}
use Rattle.ibos_kinds.specs.declared.names.Instance.{Instance}
use Rattle.ibos_kinds.specs.declared.rule.Rule.{Rule}
use Rattle.ibos_kinds.specs.declared.rule.Rule.TheVariants.{U1, U3, P1, P2}
use Rattle.ibos_origin.specs.Pages.{Page}
use Rattle.ibos_page.specs.Seats.{Seat}
use Rattle.ibos_page.specs.declared.tabs.Moved.{Moved}
use Rattle.ibos_page.specs.declared.tabs.Moved.TheVariants.{Same, New}

-- the tabs, by their number, and the active one
pub record TabTable : Type 0 where
  pub seats : List Seat
  pub active : Option ℕ

-- a tab that has had no instance
abbrev pub empty_seat : Seat
empty_seat = record { count = 0; page = None }

abbrev pub seat_at : TabTable → ℕ → Seat
seat_at t tab = slice_index_or t.seats tab empty_seat

-- the tab's newest instance, if it lives
abbrev pub live_in : ℕ → Seat → Option Instance
live_in tab seat = option_map (λ page. record { tab = tab; ord = seat.count - 1 }) seat.page

abbrev pub live_at : TabTable → ℕ → Option Instance
live_at t tab = live_in tab (seat_at t tab)

-- the live instance of the active tab
abbrev pub active_in : TabTable → Option Instance
active_in t = option_and_then (live_at t) t.active

-- the instance that a tab has next
abbrev pub next_at : TabTable → ℕ → Instance
next_at t tab = record { tab = tab; ord = (seat_at t tab).count }

-- one live instance at a time, and 32 in all
abbrev pub start_in : TabTable → ℕ → Result Instance Rule
start_in t tab =
    if is_some (seat_at t tab).page then Err U1
    else if nat_lt (seat_at t tab).count 32 then Ok (next_at t tab)
    else Err U3

-- the tab with one instance more, which shows the page
abbrev pub opened : Page → Seat → Seat
opened page seat = record { count = seat.count + 1; page = Some page }

abbrev pub moved : Page → Seat → Seat
moved page seat = record seat { page = Some page }

abbrev pub closed : Seat → Seat
closed seat = record seat { page = None }

abbrev pub with_seat : TabTable → ℕ → Seat → TabTable
with_seat t tab seat = record t { seats = slice_set t.seats tab seat }

-- closing the active tab leaves none active
abbrev pub without : ℕ → Option ℕ → Option ℕ
without tab None = None
without tab (Some active) = if active == tab then None else Some active

-- whether an instance has ended, or never started, or lives: it started if its tab has had so many
abbrev pub is_live_in : Instance → Seat → Bool
is_live_in who seat = is_some seat.page && who.ord + 1 == seat.count

abbrev pub admission_in : Instance → Seat → Option Rule
admission_in who seat =
    if is_live_in who seat then None
    else if nat_lt who.ord seat.count then Some P2
    else Some P1

abbrev pub admission : TabTable → Instance → Option Rule
admission t who = admission_in who (seat_at t who.tab)

-- the origin of the page, if there is one
abbrev pub origin_with : Option Page → List ℕ
origin_with None = []
origin_with (Some page) = page.origin

abbrev pub admitted_by : Option Rule → Result Unit Rule
admitted_by None = Ok tt
admitted_by (Some rule) = Err rule

-- an instance of an origin goes to a page
abbrev pub go_in : Instance → List ℕ → Page → Result Moved Rule
go_in who origin page =
    if bytes_eq page.origin origin then Ok Same
    else if nat_lt who.ord 31 then Ok (New (record { tab = who.tab; ord = who.ord + 1 }))
    else Err U3

-- what stands in a tab: at most 32 instances, and a live one is the newest
pub record IsSeat (seat : Seat) : Type 0 where
  pub few : seat.count ≤ 32
  pub some : seat.page ≢ None → 0 < seat.count

-- what stands in all tabs; the active one has a live instance
pub record IsTable (seats : List Seat) (active : Option ℕ) : Type 0 where
  pub count : length seats ≡ 64
  pub each : (tab : ℕ) → IsSeat (slice_index_or seats tab empty_seat)
  pub shown : (tab : ℕ) → active ≡ Some tab → (tab < 64)
      × ((slice_index_or seats tab empty_seat).page ≢ None)
