use Rattle.std.proofs.Common.{◌≡◌, ◌≢◌, ◌+◌, length, sym, ap, subst, ◌∙◌, arith}
use Rattle.ibos_make.specs.Drill.{Drilling, kind_of, drawn, next_number, round_len, round_acts}
use Rattle.ibos_make.specs.Drilling.{next_in}
use Rattle.ibos_make.proofs.DrillSteps.{length-round, round-few, next-within, within-more}
use Rattle.ibos_make.proofs.drilling.Drill.go_on.Goals as goal

pub overflow_add-place : goal.overflow_add-place
overflow_add-place c = omega (arith, round-few c.self.inside.counts, c.self.invariant.1.place)

pub begin_round-requires-clause-last : goal.begin_round-requires-clause-last
begin_round-requires-clause-last c =
    let d : Drilling = record { opening = c.self.inside.opening; rounds = c.self.inside.rounds; place = c.self.inside.place; counts = c.self.inside.counts } in
    let len : round_len c.self.inside.round.kind ≡ round_len (kind_of (drawn (next_number d.counts.number))) = ap round_len c.self.invariant.0.kind in
    let whole : d.place + 1 ≡ length (round_acts d.counts) = omega (arith, length-round d.counts, len) in
    let Ends : Drilling → Type 0 = λ v. v.place + 1 ≡ length (round_acts v.counts) in
    subst Ends c.self.view_is whole

pub invariant_of-self : goal.invariant_of-self
invariant_of-self c =
    let d : Drilling = record { opening = c.self.inside.opening; rounds = c.self.inside.rounds; place = c.self.inside.place; counts = c.self.inside.counts } in
    let len : round_len c.self.inside.round.kind ≡ round_len (kind_of (drawn (next_number d.counts.number))) = ap round_len c.self.invariant.0.kind in
    let part : d.place + 1 ≢ length (round_acts d.counts) = λ whole. omega (arith, length-round d.counts, len) in
    (c.self.invariant.0, within-more d part c.self.invariant.1)

pub returns-else-place-round_len : goal.returns-else-place-round_len
returns-else-place-round_len c =
    let d : Drilling = record { opening = c.self.inside.opening; rounds = c.self.inside.rounds; place = c.self.inside.place; counts = c.self.inside.counts } in
    let len : round_len c.self.inside.round.kind ≡ round_len (kind_of (drawn (next_number d.counts.number))) = ap round_len c.self.invariant.0.kind in
    let part : d.place + 1 ≢ length (round_acts d.counts) = λ whole. omega (arith, length-round d.counts, len) in
    sym (next-within d part) ∙ ap next_in c.self.view_is
