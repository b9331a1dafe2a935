use Rattle.ibos_origin.proofs.SoundTables.{tables_are_sound}
use Rattle.ibos_origin.proofs.laws.hosts_have_plain_names.Goals as goal

pub returns : goal.returns
returns c = λ text H is. (tables_are_sound text H is).plain
