use Rattle.ibos_run.proofs.Taken.{front_kept, on_err}
use Rattle.ibos_run.proofs.run_words.refuse_capture.Goals as goal

pub returns-in_err-last-clause-front : goal.returns-in_err-last-clause-front
returns-in_err-last-clause-front g c = on_err _ _ (front_kept _ _ _ _ c.requires)
