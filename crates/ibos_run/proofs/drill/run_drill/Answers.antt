use Rattle.std.proofs.Common.{◌∙◌}
use Rattle.ibos_run.proofs.Drills.{drill_broken, drill_through, drill_told, drill_unhanded, drill_unsaid, drill_untouched}
use Rattle.ibos_run.proofs.Taken.{on_err}
use Rattle.ibos_run.proofs.drill.run_drill.Goals as goal

pub returns-in_err-hosts-clause-broken : goal.returns-in_err-hosts-clause-broken
returns-in_err-hosts-clause-broken g c = on_err _ _ (drill_untouched _ _ _ _ c.requires.reset.log)

pub returns-in_err-kernel-clause-broken : goal.returns-in_err-kernel-clause-broken
returns-in_err-kernel-clause-broken g c = on_err _ _ (drill_untouched _ _ _ _ c.in_err-kernel.ensures.log)

pub returns-in_err-tally-clause-broken : goal.returns-in_err-tally-clause-broken
returns-in_err-tally-clause-broken g c = on_err _ _ (drill_broken _ _ _ _ _ _ (c.in_ok-kernel.ensures.hosts ∙ c.in_ok-hosts.ensures) c.new-drill.ensures.acts c.in_err-tally.ensures.front)

pub returns-in_err-line-clause-broken : goal.returns-in_err-line-clause-broken
returns-in_err-line-clause-broken g c =
    let through = drill_through c.args.seed c.args.rounds _ _ _ _ _ (c.in_ok-kernel.ensures.hosts ∙ c.in_ok-hosts.ensures) c.new-drill.ensures.acts c.in_ok-tally.ensures.drilled c.in_ok-tally.ensures.tally in
    on_err _ _ (drill_unsaid _ _ _ _ _ _ through)

pub returns-in_err-write_all-clause-broken : goal.returns-in_err-write_all-clause-broken
returns-in_err-write_all-clause-broken g c =
    let through = drill_through c.args.seed c.args.rounds _ _ _ _ _ (c.in_ok-kernel.ensures.hosts ∙ c.in_ok-hosts.ensures) c.new-drill.ensures.acts c.in_ok-tally.ensures.drilled c.in_ok-tally.ensures.tally in
    on_err _ _ (drill_unhanded _ _ _ _ _ _ _ _ through (c.as_slice.ensures ∙ c.in_ok-line.ensures) c.in_err-write_all.ensures.front)

pub returns-clause-told : goal.returns-clause-told
returns-clause-told g c =
    let through = drill_through c.args.seed c.args.rounds _ _ _ _ _ (c.in_ok-kernel.ensures.hosts ∙ c.in_ok-hosts.ensures) c.new-drill.ensures.acts c.in_ok-tally.ensures.drilled c.in_ok-tally.ensures.tally in
    drill_told _ _ _ _ _ _ _ _ through (c.as_slice.ensures ∙ c.in_ok-line.ensures) c.in_ok-write_all.ensures.all
