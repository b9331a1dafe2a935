use Rattle.std.proofs.Common.{◌≡◌, ℕ, ◌+◌, ◌*◌, ◌<◌}
use Rattle.std.specs.Prelude.{slice_index}
use Rattle.ibos_kinds.specs.Screens.{cell_after}
use Rattle.ibos_frame.proofs.content.paint.Given as goal

-- so many rows are drawn
abbrev pub invariant-lines : goal.invariant-lines
invariant-lines l = (r c : ℕ) → c < 80 → slice_index l.target (80 * r + c) ≡ cell_after l.row l.col l.k l.width l.pixels r c (slice_index l.fn.target (80 * r + c))
