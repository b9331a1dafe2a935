use Rattle.std.proofs.Common.{◌≡◌, ◌+◌, ◌*◌, ◌≤◌, length}
use Rattle.ibos_kinds.specs.Sums.{plain_sum, carried}
use Rattle.ibos_kinds.proofs.sums.with_piece.Given as goal

abbrev pub invariant-loop-rest : goal.invariant-loop-rest
invariant-loop-rest l = record {
  within : l.total + 1073741824 * length l.rest ≤ 65535 + 1073741824 * length l.piece;
  so_far : carried (l.total + plain_sum l.rest) ≡ carried (l.start + plain_sum l.piece);
}

abbrev pub decreases-loop-rest : goal.decreases-loop-rest
decreases-loop-rest l = length l.rest
