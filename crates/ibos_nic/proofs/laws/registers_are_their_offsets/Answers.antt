use Rattle.ibos_nic.proofs.PartLemmas.{exact_reg, part_of-reg_of, reg_at-offset_of}
use Rattle.ibos_nic.proofs.laws.registers_are_their_offsets.Goals as goal

pub returns-clause-apart : goal.returns-clause-apart
returns-clause-apart c = exact_reg

pub returns-clause-found : goal.returns-clause-found
returns-clause-found c = reg_at-offset_of

pub returns-clause-parts : goal.returns-clause-parts
returns-clause-parts c = part_of-reg_of
