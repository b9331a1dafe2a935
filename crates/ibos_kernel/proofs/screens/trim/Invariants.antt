use Rattle.std.proofs.Common.{◌≡◌, ◌≤◌, List, ℕ, length, take}
use Rattle.ibos_model.specs.Screen.{trimmed}
use Rattle.ibos_kernel.proofs.screens.trim.Given as goal

pub record IsTrimmed (cells : List ℕ) (len : ℕ) : Type 0 where
  pub within : len ≤ length cells
  pub same : trimmed (take len cells) ≡ trimmed cells

abbrev pub invariant-spaces : goal.invariant-spaces
invariant-spaces l = IsTrimmed l.cells l.len

abbrev pub decreases-spaces : goal.decreases-spaces
decreases-spaces l = l.len
