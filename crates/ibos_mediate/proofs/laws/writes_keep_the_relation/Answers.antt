use Rattle.std.proofs.Common.{[], refl}
use Rattle.ibos_mediate.proofs.Words.{HasWritten, SameNames, after_writing}
use Rattle.ibos_mediate.proofs.Rings.{whole}
use Rattle.ibos_mediate.proofs.RegisterChange.{may_write-register, owned-written, register-written}
use Rattle.ibos_mediate.proofs.laws.writes_keep_the_relation.Goals as goal

pub returns : goal.returns
returns c = record {
  condition = λ m mem old reg value memory device. may_write-register m mem old value memory device reg;
  keeps = λ m mem reg value memory. register-written m mem value memory reg;
  owned = λ m names reg value. owned-written m names value reg;
  whole = λ m mem names out old new reg value was none each.
      whole [] m (after_writing reg value m) mem mem (HasWritten reg value) SameNames (register-written m mem value was.memory reg none) out old new names names each refl was;
}
