-- What stands in a tab.
use Rattle.std.specs.Prelude.{ℕ, Option}
use Rattle.ibos_origin.specs.Pages.{Page}

-- how many instances the tab has had, and the page of the live one
pub record Seat : Type 0 where
  pub count : ℕ
  pub page : Option Page
