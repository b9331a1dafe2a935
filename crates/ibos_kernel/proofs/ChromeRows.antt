-- The chrome's rows, written one after the other.
use Rattle.std.proofs.Common.{◌≡◌, ◌≢◌, ℕ, zero, suc, ◌<◌, List, ◌∙◌, ap, arith}
use Rattle.ibos_kinds.specs.Screens.{padded}
use Rattle.ibos_page.specs.Tabs.{TabTable}
use Rattle.ibos_focus.specs.Focused.{Focused}
use Rattle.ibos_frame.specs.ScreenStates.{ScreenState, chrome_at}
use Rattle.ibos_kernel.specs.Tables.{chrome_by}

pub rows_composed : (t : TabTable) (focus : Focused) (one two three : ScreenState) (a b d : List ℕ)
    → chrome_at one 0 ≡ padded a → a ≡ chrome_by t focus 0
    → chrome_at two 1 ≡ padded b → b ≡ chrome_by t focus 1 → ((r : ℕ) → r < 3 → r ≢ 1 → chrome_at two r ≡ chrome_at one r)
    → chrome_at three 2 ≡ padded d → d ≡ chrome_by t focus 2 → ((r : ℕ) → r < 3 → r ≢ 2 → chrome_at three r ≡ chrome_at two r)
    → (r : ℕ) → r < 3 → chrome_at three r ≡ padded (chrome_by t focus r)
rows_composed t focus one two three a b d first is_first second is_second kept third is_third stays zero low =
    stays 0 (omega arith) (λ e. cc) ∙ kept 0 (omega arith) (λ e. cc) ∙ first ∙ ap padded is_first
rows_composed t focus one two three a b d first is_first second is_second kept third is_third stays (suc zero) low =
    stays 1 (omega arith) (λ e. cc) ∙ second ∙ ap padded is_second
rows_composed t focus one two three a b d first is_first second is_second kept third is_third stays (suc (suc zero)) low = third ∙ ap padded is_third
rows_composed t focus one two three a b d first is_first second is_second kept third is_third stays (suc (suc (suc r))) low = absurd (omega (arith, low))
