use Rattle.std.proofs.Common.{◌≤◌, ◌+◌, ◌*◌, length, sym, subst, arith}
use Rattle.ibos_make.specs.declared.rounds.Counts.{Counts}
use Rattle.ibos_make.specs.Drill.{left}
use Rattle.ibos_make.specs.Drilling.{IsWithin}
use Rattle.ibos_make.proofs.DrillSteps.{drill-few, within-first}
use Rattle.ibos_make.proofs.drilling.Drill.new.Goals as goal

pub invariant_of-result : goal.invariant_of-result
invariant_of-result c =
    let P : Counts → Type 0 = λ counts. IsWithin (record { opening = 0; rounds = c.args.rounds; place = 0; counts = counts }) in (
      record { kind = c.round.ensures.kind; tab = c.round.ensures.tab; byte = c.round.ensures.byte; below = c.round.ensures.below },
      subst P (sym c.new-counts.ensures) (within-first c.args.seed c.args.rounds (omega arith)),
    )

pub returns-clause-few : goal.returns-clause-few
returns-clause-few c =
    let P : Counts → Type 0 = λ counts. length (left (record { opening = 0; rounds = c.args.rounds; place = 0; counts = counts })) ≤ 86 + 6 * c.args.rounds in
    subst P (sym c.new-counts.ensures) (drill-few c.args.seed c.args.rounds)
