use Rattle.std.proofs.Common.{◌∷◌, ap, ◌∙◌}
use Rattle.ibos_mediate.proofs.Words.{Transmit, frame_at, unsent_frames}
use Rattle.ibos_mediate.proofs.DeviceChange.{head_at, sent-now}
use Rattle.ibos_mediate.proofs.DeviceFrames.{arrivals-sent, counted-sent, received-sent, unsent-sent}
use Rattle.ibos_mediate.proofs.frames.transmissions_end_a_frame.Goals as goal

pub returns : goal.returns
returns c = record {
  counted = λ m mem mem' regs memory device can sent.
      let now = sent-now m mem mem' regs memory device can sent in
      counted-sent c.descriptors_are_their_bytes.ensures.tx_back c.descriptors_are_their_bytes.ensures.tx_length c.parts_are_apart.ensures.behind m mem mem' memory now.0 now.1 now.2;
  unsent = λ m mem mem' regs memory device can sent.
      let now = sent-now m mem mem' regs memory device can sent in
      unsent-sent c.descriptors_are_their_bytes.ensures.tx_back c.descriptors_are_their_bytes.ensures.tx_length c.parts_are_apart.ensures.behind m mem mem' memory now.0 now.1 now.2 ∙ ap (λ at. frame_at mem at ∷ unsent_frames mem' m.transmit) (head_at Transmit m mem regs memory device now.0);
  received = λ m mem mem' regs memory device can sent.
      let now = sent-now m mem mem' regs memory device can sent in
      received-sent c.descriptors_are_their_bytes.ensures.tx_back c.descriptors_are_their_bytes.ensures.tx_length c.parts_are_apart.ensures.behind m mem mem' memory now.0 now.1 now.2;
  arrivals = λ m mem mem' regs memory device can sent.
      let now = sent-now m mem mem' regs memory device can sent in
      arrivals-sent c.descriptors_are_their_bytes.ensures.tx_back c.descriptors_are_their_bytes.ensures.tx_length c.parts_are_apart.ensures.behind m mem mem' memory now.0 now.1 now.2;
}
