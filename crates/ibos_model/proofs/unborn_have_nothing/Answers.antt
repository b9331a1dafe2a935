use Rattle.ibos_model.proofs.Unborn.{unborn_bare, unborn_quiet}
use Rattle.ibos_model.proofs.unborn_have_nothing.Goals as goal

pub returns-clause-bare : goal.returns-clause-bare
returns-clause-bare c = unborn_bare

pub returns-clause-quiet : goal.returns-clause-quiet
returns-clause-quiet c = unborn_quiet
