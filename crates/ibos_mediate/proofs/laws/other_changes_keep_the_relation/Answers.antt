use Rattle.ibos_mediate.proofs.OtherChange.{device-addressed, device-else, keeps-else, keeps-written, memory-else}
use Rattle.ibos_mediate.proofs.RegisterChange.{unheld-else}
use Rattle.ibos_mediate.proofs.laws.other_changes_keep_the_relation.Goals as goal

pub returns : goal.returns
returns c = record {
  memory = λ m mem mem' memory areas slots. memory-else m mem mem' slots memory areas;
  device = λ m mem mem' regs device slots. device-else m mem mem' slots regs device;
  unheld = λ m mem mem' names out unheld longer lent. unheld-else m mem mem' names out longer lent unheld;
  buffer = keeps-written c.parts_are_apart.ensures.behind c.parts_are_apart.ensures.slots;
  growth = λ m mem mem' memory longer areas bytes. keeps-else m mem mem' (λ ring slot below. bytes _ _) memory longer areas;
  address = device-addressed;
}
