use Rattle.std.proofs.Common.{◌-◌, sym, arith}
use Rattle.ibos_mediate.proofs.Words.{Arrival, Receive, Transmit, arrival_at, completed, held_for, outgoing_bytes, received_bytes}
use Rattle.ibos_mediate.proofs.FrameLemmas.{completed-high, completed-low, map-queue, queue-counts}
use Rattle.ibos_mediate.proofs.frames.frames_are_counted.Goals as goal

pub returns : goal.returns
returns c = record {
  received = λ mem r. queue-counts (received_bytes mem r) _ _ (completed-low Receive mem r);
  unsent = λ mem r balanced.
      let a = balanced.rung in
      let b = balanced.posted in
      sym (queue-counts (outgoing_bytes mem r) _ _ (completed-high Transmit mem r (omega arith)));
  arrivals = λ mem m. queue-counts (arrival_at mem m) _ _ (completed-low Receive mem m.receive);
  bytes = λ mem m. map-queue (λ (a : Arrival). a.bytes) (arrival_at mem m) m.receive.values.taken (completed Receive mem m.receive - m.receive.values.taken);
  returns = λ mem r. queue-counts (held_for r) _ _ (completed-low Transmit mem r);
}
