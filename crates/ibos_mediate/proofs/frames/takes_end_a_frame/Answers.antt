use Rattle.ibos_mediate.proofs.Words.{Receive, Transmit}
use Rattle.ibos_mediate.proofs.FrameLemmas.{completed-more, arrivals-left, received-left, unsent-left}
use Rattle.ibos_mediate.proofs.TakenFrames.{all-left, arrivals-taken, received-taken, returns-taken, unsent-taken}
use Rattle.ibos_mediate.proofs.frames.takes_end_a_frame.Goals as goal

pub returns : goal.returns
returns c = record {
  receive_received = λ m mem mem' p memory more marked. received-taken m mem mem' marked.bytes (completed-more Receive mem m.receive more);
  receive_arrivals = λ m mem mem' names p memory owned more marked. arrivals-taken m mem mem' marked.bytes (completed-more Receive mem m.receive more) names memory owned;
  receive_unsent = λ m mem mem' p memory marked. unsent-left m mem mem' memory (all-left m mem mem' marked.bytes Transmit);
  transmit_received = λ m mem mem' p memory marked. received-left m mem mem' memory (all-left m mem mem' marked.bytes Receive);
  transmit_arrivals = λ m mem mem' p memory marked. arrivals-left m mem mem' memory (all-left m mem mem' marked.bytes Receive);
  transmit_unsent = λ m mem mem' p memory more marked. unsent-taken m mem mem' marked.bytes (completed-more Transmit mem m.transmit more) memory;
  transmit_returns = λ m mem mem' p more marked. returns-taken m mem mem' marked.bytes (completed-more Transmit mem m.transmit more);
}
