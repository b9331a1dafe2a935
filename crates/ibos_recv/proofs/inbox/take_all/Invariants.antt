use Rattle.ibos_recv.proofs.Takings.{IsTaking}
use Rattle.std.proofs.Common.{◌≡◌, ◌+◌, ◌≤◌, vec_len}
use Rattle.std.specs.Vec.{vec_capacity}
use Rattle.ibos_recv.proofs.inbox.take_all.Given as goal

abbrev pub invariant-taken : goal.invariant-taken
invariant-taken l = record {
  taking : IsTaking l.area l.index l.fn.pool l.pool l.loans.items;
  count : vec_len l.loans + 4 ≡ l.index;
  room : 16 ≤ vec_capacity l.loans;
}
