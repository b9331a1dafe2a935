use Rattle.std.proofs.Common.{◌∙◌}
use Rattle.ibos_mediate.proofs.DeviceChange.{read-leaves}
use Rattle.ibos_mediate.proofs.RegisterChange.{device-same}
use Rattle.ibos_mediate.proofs.laws.reads_keep_the_relation.Goals as goal

pub returns : goal.returns
returns c = record {
  device = λ m mem old new reg device each. device-same m mem old new device (λ ring part. each _ ∙ read-leaves old reg ring part);
  whole = λ m mem names out old new reg was each. record {
    memory = was.memory;
    device = device-same m mem old new was.device (λ ring part. each _ ∙ read-leaves old reg ring part);
    owned = was.owned;
    unheld = was.unheld;
  };
}
