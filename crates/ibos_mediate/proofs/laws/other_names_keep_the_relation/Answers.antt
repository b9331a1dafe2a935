use Rattle.ibos_mediate.proofs.OtherChange.{owned-added, owned-given, whole-claimed, whole-grown}
use Rattle.ibos_mediate.proofs.PostChange.{owned-claimed, owned-posted}
use Rattle.ibos_mediate.proofs.TakeChange.{owned-taken}
use Rattle.ibos_mediate.proofs.laws.other_names_keep_the_relation.Goals as goal

pub returns : goal.returns
returns c = record {
  taken = owned-claimed;
  given = owned-given;
  added = λ r ring old new owned more taken places. owned-added old new more taken places r ring owned;
  whole_taken = whole-claimed;
  whole_added = λ m mem mem' regs old new out some more taken places. whole-grown old new more taken places m mem mem' regs out some;
  posted = λ r ring names h balanced. owned-posted ring r h names balanced;
  taken_back = λ r ring names. owned-taken ring r names;
}
