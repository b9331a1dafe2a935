use Rattle.std.proofs.Common.{refl}
use Rattle.ibos_run.proofs.Ends.{handed_if, untouched_if}
use Rattle.ibos_run.proofs.Taken.{front_of, on_err}
use Rattle.ibos_run.proofs.run_words.run_files.Goals as goal

pub returns-in_err-text-clause-broken : goal.returns-in_err-text-clause-broken
returns-in_err-text-clause-broken g c = on_err _ _ (untouched_if _ _ _ _ refl c.requires.log)

pub returns-clause-broken : goal.returns-clause-broken
returns-clause-broken g c = handed_if _ _ _ _ _ _ _ c.in-Err.ensures.broken (front_of _ _ _ _ c.in_ok-hand_over-in-Err.ensures.all)

pub returns-in_err-hand_over-in-Err-clause-broken : goal.returns-in_err-hand_over-in-Err-clause-broken
returns-in_err-hand_over-in-Err-clause-broken g c = on_err _ _ (handed_if _ _ _ _ _ _ _ c.in-Err.ensures.broken c.in_err-hand_over-in-Err.ensures.front)
