-- How the pages of live instances are kept: in a slab, each under a key that its tab alone has. No
-- public clause cites this module.
use Rattle.std.specs.Prelude.{◌≡◌, ℕ, ◌≤◌, Bool, List, length, map, count_by, cond, Option, Some}
use Rattle.std.specs.Prelude.{None, is_some, option_and_then}
use Rattle.std.specs.List.{slice_index_or}
use Rattle.slab.specs.Slab.{Slab, get, ContainsKey, slab_len}
use Rattle.ibos_origin.specs.Pages.{Page}
use Rattle.ibos_page.specs.Seats.{Seat}
use Rattle.ibos_page.specs.declared.pages.Place.{Place}

-- what stands in the tab, with the page that its key finds
abbrev pub seat_of : Slab Page → Place → Seat
seat_of pages place = record { count = place.count; page = option_and_then (get pages) place.key }

abbrev pub seats_of : Slab Page → List Place → List Seat
seats_of pages places = map (seat_of pages) places

-- a tab that has had no instance
abbrev pub empty_place : Place
empty_place = record { count = 0; key = None }

abbrev pub key_at : List Place → ℕ → Option ℕ
key_at places tab = (slice_index_or places tab empty_place).key

-- how many pages a key stands for
abbrev pub held : Option ℕ → ℕ
held key = cond (is_some key) 1 0

abbrev pub has_key : Place → Bool
has_key place = is_some place.key

-- each key finds a page, no two tabs have the same one, and each page is some tab's; so a tab with
-- no key has room for a page
pub record IsKept (places : List Place) (pages : Slab Page) : Type 0 where
  pub count : length places ≡ 64
  pub there : (tab key : ℕ) → key_at places tab ≡ Some key → ContainsKey pages key
  pub apart : (tab other key : ℕ) → key_at places tab ≡ Some key → key_at places other ≡ Some key
      → tab ≡ other
  pub as_many : slab_len pages ≡ count_by has_key places
  pub room : 64 ≤ pages.capacity
