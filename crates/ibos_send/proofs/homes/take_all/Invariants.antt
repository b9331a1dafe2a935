use Rattle.ibos_send.proofs.Takings.{IsTaking}
use Rattle.std.proofs.Common.{◌≡◌, ◌≤◌, vec_len}
use Rattle.std.specs.Vec.{vec_capacity}
use Rattle.ibos_send.proofs.homes.take_all.Given as goal

abbrev pub invariant-taken : goal.invariant-taken
invariant-taken l = record {
  taking : IsTaking l.area l.index l.fn.pool l.pool l.loans.items;
  count : vec_len l.loans ≡ l.index;
  room : 4 ≤ vec_capacity l.loans;
}
