use Rattle.ibos_mediate.proofs.DeviceFrames.{arrivals-arrived, counted-arrived, received-arrived, unsent-arrived}
use Rattle.ibos_mediate.proofs.DeviceChange.{heard-now}
use Rattle.ibos_mediate.proofs.frames.arrivals_add_a_frame.Goals as goal

pub returns : goal.returns
returns c = record {
  counted = λ m mem mem' regs frame written memory device verdict heard.
      let now = heard-now m mem mem' regs frame written memory device verdict heard in
      counted-arrived c.descriptors_are_their_bytes.ensures.rx_back c.parts_are_apart.ensures.behind c.parts_are_apart.ensures.buffers m mem mem' written memory now.0 now.1 now.2;
  received = λ m mem mem' regs frame written memory device verdict heard.
      let now = heard-now m mem mem' regs frame written memory device verdict heard in
      received-arrived c.descriptors_are_their_bytes.ensures.rx_back c.parts_are_apart.ensures.behind c.parts_are_apart.ensures.buffers m mem mem' written memory now.0 now.1 now.2;
  arrivals = λ m mem mem' regs frame written memory device verdict heard.
      let now = heard-now m mem mem' regs frame written memory device verdict heard in
      arrivals-arrived c.descriptors_are_their_bytes.ensures.rx_back c.parts_are_apart.ensures.behind c.parts_are_apart.ensures.buffers m mem mem' written memory now.0 now.1 now.2;
  unsent = λ m mem mem' regs frame written memory device verdict heard.
      let now = heard-now m mem mem' regs frame written memory device verdict heard in
      unsent-arrived c.descriptors_are_their_bytes.ensures.rx_back c.parts_are_apart.ensures.behind c.parts_are_apart.ensures.buffers m mem mem' written memory now.0 now.1 now.2;
}
