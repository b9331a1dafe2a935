use Rattle.std.proofs.Common.{ap, ◌-◌}
use Rattle.ibos_mediate.proofs.Words.{Receive, Transmit, arrival_at, completed, held_for, ring_of, take_back}
use Rattle.ibos_mediate.proofs.FrameLemmas.{queue-ends, completed-more, completed-same, descriptors-left}
use Rattle.ibos_mediate.proofs.TakenFrames.{bell-ends, bell-goes_on}
use Rattle.ibos_mediate.proofs.frames.bells_end.Goals as goal

pub returns : goal.returns
returns c = record {
  ends = bell-ends;
  arrivals = λ mem m. queue-ends (arrival_at mem m) m.receive.values.taken (completed Receive mem m.receive);
  returns = λ mem r. queue-ends (held_for r) r.values.taken (completed Transmit mem r);
  goes_on = λ ring mem mem' m p more marked. bell-goes_on ring m mem mem' marked.bytes (completed-more ring mem (ring_of m ring) more);
  others = λ ring mem mem' m slots.
      ap (λ n. take_back ring (n - (ring_of m ring).values.taken) m) (completed-same ring mem mem' (ring_of m ring) (λ k is_open. descriptors-left mem mem' slots ring k));
}
