use Rattle.std.proofs.Common.{ℕ, List, ◌∷◌, []}
use Rattle.std.specs.Option.{option_copied}
use Rattle.ibos_kinds.specs.Outside.{Rose}
use Rattle.ibos_run.specs.Words.{with_capture}
use Rattle.ibos_run.proofs.Causes.{if_caused, of_rest, rose_since}
use Rattle.ibos_run.proofs.Ends.{untouched_if}
use Rattle.ibos_run.proofs.Taken.{on_err}
use Rattle.ibos_run.proofs.run_words.gather.Goals as goal

pub returns-in_err-hosts-clause-broken : goal.returns-in_err-hosts-clause-broken
returns-in_err-hosts-clause-broken g c = on_err _ _ (untouched_if _ _ _ _ c.requires.empty c.requires.reset.log)

pub returns-in-Err-Memory-clause-broken : goal.returns-in-Err-Memory-clause-broken
returns-in-Err-Memory-clause-broken g c = untouched_if _ _ _ _ c.requires.empty c.requires.reset.log

pub returns-in-Ok-clause-cause : goal.returns-in-Ok-clause-cause
returns-in-Ok-clause-cause g c =
    let P : List ℕ → Type 0 = λ name. Rose (g.C.Cabinet.faults c.read_hosts.new.cabinet name) (g.C.Cabinet.faults c.gather_capture.new.cabinet name) in
    let Q : List ℕ → Type 0 = λ name. Rose (g.C.Cabinet.faults c.args.cabinet.now name) (g.C.Cabinet.faults c.gather_capture.new.cabinet name) in
    let behind : List (List ℕ) = with_capture (option_copied c.args.capture) (c.args.script.now ∷ []) in
    if_caused c.gather_capture.result _ _ _ _ (λ any. of_rest P Q c.args.hosts.now behind (λ n rose. rose_since _ _ _ (c.in_ok-hosts.ensures.later n) rose) any) (λ rose. rose) c.gather_capture.ensures.cause
