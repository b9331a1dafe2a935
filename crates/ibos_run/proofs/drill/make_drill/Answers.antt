use Rattle.std.proofs.Common.{◌≡◌, List, [], ◌∷◌, arith, ap, length, subst, sym}
use Rattle.ibos_kinds.specs.declared.act.Act.{Act}
use Rattle.ibos_make.specs.Drill.{left}
use Rattle.ibos_run.specs.Summaries.{IsTally}
use Rattle.ibos_run.specs.declared.tally.Tally.{Tally}
use Rattle.ibos_run.proofs.Drills.{drill_agrees, drill_cut, drill_over, drill_paused, is_tally, next_drilling, start_drilling}
use Rattle.ibos_run.proofs.Taken.{on_err}
use Rattle.ibos_run.proofs.drill.make_drill.Goals as goal

pub acts-init : goal.acts-init
acts-init g c = record {
  drilling = ([], start_drilling _ _ _ _ _ c.requires.stands c.requires.agrees c.requires.log c.new-tally.ensures);
  usable = c.requires.usable;
  few = c.requires.few;
}

pub count-requires-clause-tally : goal.count-requires-clause-tally
count-requires-clause-tally g c =
    let drilling = c.acts.invariant.drilling in
    subst (λ (t : Tally). IsTally t) (sym drilling.1.counted) (is_tally drilling.0)

pub returns-in_err-next_into-clause-front : goal.returns-in_err-next_into-clause-front
returns-in_err-next_into-clause-front g c = on_err _ _ (drill_paused c.texts_are_fronts.ensures c.frames_are_fronts.ensures c.sent_frames_are_fronts.ensures _ _ _ _ _ _ _ _ c.acts.invariant.drilling.1)

pub returns-in_err-step-clause-front : goal.returns-in_err-step-clause-front
returns-in_err-step-clause-front g c =
    let drilling = c.acts.invariant.drilling in
    let split : left c.acts.drill ≡ c.next_into.new.act ∷ left c.next_into.new.self = c.in_ok-next_into.ensures.some c.if-branch.true in
    on_err _ _ (drill_cut c.texts_are_fronts.ensures c.frames_are_fronts.ensures c.sent_frames_are_fronts.ensures c.frames_are_sent_in_turn.ensures _ _ _ _ _ _ _ _ _ _ _ drilling.1 split
    (c.in_err-step.ensures.loses drilling.0 drilling.1.serving.stands (drill_agrees _ _ _ _ _ _ _ _ drilling.1)))

pub acts-preserved : goal.acts-preserved
acts-preserved g c =
    let drilling = c.acts.invariant.drilling in
    let split : left c.acts.drill ≡ c.next_into.new.act ∷ left c.next_into.new.self = c.in_ok-next_into.ensures.some c.if-branch.true in
    let stepped = c.in_ok-step.ensures in
    let stands = drilling.1.serving.stands in
    let agrees = drill_agrees _ _ _ _ _ _ _ _ drilling.1 in
    record {
      drilling = (
        _,
        next_drilling c.runs_go_on.ensures _ _ _ _ _ _ _ _ _ _ _ _ _ _ _ drilling.1 split
            (record {
              outcome = stepped.outcome drilling.0 stands agrees;
              stands = stepped.stands drilling.0 stands agrees;
              agrees = stepped.agrees drilling.0 stands agrees;
              log = stepped.log drilling.0 stands agrees;
            }) stepped.hosts c.count.ensures,
      );
      usable = stepped.usable;
      few = omega (arith, stepped.acts, ap (λ (l : List Act). length l) split, c.acts.invariant.few);
    }

pub returns-clause-tally : goal.returns-clause-tally
returns-clause-tally g c =
    let none : left c.acts.drill ≡ [] = c.in_ok-next_into.ensures.none.0 c.if-branch.false in
    (drill_over _ _ _ _ _ _ _ _ c.acts.invariant.drilling.1 none).counted

pub returns-clause-drilled : goal.returns-clause-drilled
returns-clause-drilled g c =
    let none : left c.acts.drill ≡ [] = c.in_ok-next_into.ensures.none.0 c.if-branch.false in
    (drill_over _ _ _ _ _ _ _ _ c.acts.invariant.drilling.1 none).drilled
