use Rattle.std.proofs.Common.{◌≡◌, ◌+◌, ◌≤◌, length}
use Rattle.ibos_kinds.specs.Sums.{plain_sum, carried}
use Rattle.ibos_kinds.proofs.sums.sum_words.Given as goal

abbrev pub invariant-loop-rest : goal.invariant-loop-rest
invariant-loop-rest l = record {
  word : l.total ≤ 65535;
  so_far : carried (l.total + plain_sum l.rest) ≡ carried (l.start + plain_sum l.bytes);
}

abbrev pub decreases-loop-rest : goal.decreases-loop-rest
decreases-loop-rest l = length l.rest
