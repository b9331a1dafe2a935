use Rattle.std.proofs.Common.{ap, ◌-◌}
use Rattle.ibos_mediate.proofs.Words.{Receive, Transmit, held_for, queue}
use Rattle.ibos_mediate.proofs.FrameLemmas.{completed-same, arrivals-left, received-left, unsent-left, descriptors-left, others-left, written-told}
use Rattle.ibos_mediate.proofs.frames.other_changes_keep_the_frames.Goals as goal

pub returns : goal.returns
returns c = record {
  written_received = λ m mem reg value. (written-told mem m reg value).0;
  written_unsent = λ m mem reg value. (written-told mem m reg value).1;
  written_arrivals = λ m mem reg value. (written-told mem m reg value).2;
  received = λ m mem mem' memory slots buffers. received-left m mem mem' memory (others-left c.ranges_are_lists.ensures.fronts m mem mem' memory slots buffers Receive);
  arrivals = λ m mem mem' memory slots buffers. arrivals-left m mem mem' memory (others-left c.ranges_are_lists.ensures.fronts m mem mem' memory slots buffers Receive);
  unsent = λ m mem mem' memory slots buffers. unsent-left m mem mem' memory (others-left c.ranges_are_lists.ensures.fronts m mem mem' memory slots buffers Transmit);
  completed = λ mem mem' ring r slots. completed-same ring mem mem' r (λ k is_open. descriptors-left mem mem' slots ring k);
  returns = λ mem mem' r slots. ap (λ n. queue (held_for r) r.values.taken (n - r.values.taken)) (completed-same Transmit mem mem' r (λ k is_open. descriptors-left mem mem' slots Transmit k));
}
