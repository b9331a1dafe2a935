use Rattle.std.proofs.Common.{◌≡◌, ◌-◌, ◌≤◌, length, take}
use Rattle.ibos_kinds.specs.Outside.{taken_after}
use Rattle.ibos_run.proofs.transfer.write_all.Given as goal

-- what was taken is the front
abbrev pub invariant-loop-at : goal.invariant-loop-at
invariant-loop-at g l = record {
  within : l.at ≤ length l.bytes;
  taken : g.K.Sink.taken l.sink ≡ taken_after (g.K.Sink.taken l.fn.sink) (take l.at l.bytes);
  later : g.K.Sink.faults l.fn.sink ≤ g.K.Sink.faults l.sink;
}

abbrev pub decreases-loop-at : goal.decreases-loop-at
decreases-loop-at g l = length l.bytes - l.at
