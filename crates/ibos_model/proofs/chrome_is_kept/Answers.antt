use Rattle.ibos_model.proofs.Chrome.{chrome_kept}
use Rattle.ibos_model.proofs.chrome_is_kept.Goals as goal

pub returns : goal.returns
returns c = chrome_kept
