use Rattle.ibos_mediate.proofs.OtherChange.{begins, device-begins, memory-begins, owned-begins, unheld-begins}
use Rattle.ibos_mediate.proofs.laws.relation_begins.Goals as goal

pub returns : goal.returns
returns c = record {
  memory = λ m mem receive transmit. memory-begins m (begins m receive transmit) mem;
  device = λ m mem regs receive transmit. device-begins m (begins m receive transmit) mem regs;
  owned = owned-begins;
  unheld = λ m mem names. unheld-begins m names mem;
}
