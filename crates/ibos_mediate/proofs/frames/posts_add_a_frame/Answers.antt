use Rattle.ibos_mediate.proofs.PostedFrames.{arrivals-posted, arrivals-transmit_posted, received-posted, received-transmit_posted, unsent-posted, unsent-receive_posted}
use Rattle.ibos_mediate.proofs.frames.posts_add_a_frame.Goals as goal

pub returns : goal.returns
returns c = record {
  receive_received = λ m mem mem' h old new change. received-posted c.parts_are_apart.ensures.behind m mem mem' h _ (c.descriptors_are_their_bytes.ensures.rx_length _) old new change;
  receive_arrivals = λ m mem mem' h old new change. arrivals-posted c.parts_are_apart.ensures.behind m mem mem' h _ (c.descriptors_are_their_bytes.ensures.rx_length _) old new change;
  receive_unsent = λ m mem mem' h old new change. unsent-receive_posted c.parts_are_apart.ensures.behind m mem mem' h _ (c.descriptors_are_their_bytes.ensures.rx_length _) old new change;
  transmit_received = λ m mem mem' h len old new change.
      received-transmit_posted c.descriptors_are_their_bytes.ensures.tx_back c.descriptors_are_their_bytes.ensures.tx_length c.parts_are_apart.ensures.behind m mem mem' h len old new change;
  transmit_arrivals = λ m mem mem' h len old new change.
      arrivals-transmit_posted c.descriptors_are_their_bytes.ensures.tx_back c.descriptors_are_their_bytes.ensures.tx_length c.parts_are_apart.ensures.behind m mem mem' h len old new change;
  transmit_unsent = λ m mem mem' h len old new kept small change.
      unsent-posted c.descriptors_are_their_bytes.ensures.tx_back c.descriptors_are_their_bytes.ensures.tx_length c.parts_are_apart.ensures.behind m mem mem' h len old new change kept small;
}
