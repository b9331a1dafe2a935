use Rattle.ibos_script.proofs.SpelledActs.{spelled_reads}
use Rattle.ibos_script.proofs.laws.spelled_acts_are_read.Goals as goal

pub returns : goal.returns
returns c = spelled_reads
