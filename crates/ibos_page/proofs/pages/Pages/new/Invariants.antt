use Rattle.std.proofs.Common.{◌≡◌, ℕ, vec_len}
use Rattle.std.specs.List.{slice_index_or}
use Rattle.ibos_page.specs.Places.{empty_place}
use Rattle.ibos_page.proofs.pages.Pages.new.Given as goal

-- so many tabs, and each is empty
abbrev pub invariant-places : goal.invariant-places
invariant-places l = record {
  length : vec_len l.places ≡ l._tab;
  empty : (tab : ℕ) → slice_index_or l.places.items tab empty_place ≡ empty_place;
}
