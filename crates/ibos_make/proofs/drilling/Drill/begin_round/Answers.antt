use Rattle.std.proofs.Common.{◌≡◌, ◌+◌, ◌-◌, ◌<◌, length, sym, ap, subst, ◌∙◌, arith}
use Rattle.ibos_make.specs.declared.rounds.Counts.{Counts}
use Rattle.ibos_make.specs.Drill.{Drilling, round_acts, after_round}
use Rattle.ibos_make.specs.Drilling.{IsWithin, next_in}
use Rattle.ibos_make.proofs.DrillSteps.{after-is, next-over, within-over}
use Rattle.ibos_make.proofs.drilling.Drill.begin_round.Goals as goal

pub invariant_of-self : goal.invariant_of-self
invariant_of-self c =
    let d : Drilling = record { opening = c.self.inside.opening; rounds = c.self.inside.rounds; place = c.self.inside.place; counts = c.self.inside.counts } in
    let P : Counts → Type 0 = λ counts. IsWithin (record { opening = d.opening; rounds = d.rounds - 1; place = 0; counts = counts }) in
    let some : 0 < d.rounds = omega (arith, c.requires.some, ap (λ (v : Drilling). v.rounds) c.self.view_is) in
    let now = c.self.invariant.0 in
    let after : c.count.new.self ≡ after_round d.counts = after-is d.counts c.count.new.self c.self.inside.round.kind c.self.inside.round.tab c.self.inside.round.byte
    now.kind now.tab now.byte c.count.ensures in
    (record { kind = c.round-self-inside.ensures.kind; tab = c.round-self-inside.ensures.tab; byte = c.round-self-inside.ensures.byte; below = c.round-self-inside.ensures.below }, subst P (sym after) (within-over d some c.self.invariant.1))

pub returns : goal.returns
returns c =
    let d : Drilling = record { opening = c.self.inside.opening; rounds = c.self.inside.rounds; place = c.self.inside.place; counts = c.self.inside.counts } in
    let now = c.self.invariant.0 in
    let Ends : Drilling → Type 0 = λ v. v.place + 1 ≡ length (round_acts v.counts) in
    let whole : d.place + 1 ≡ length (round_acts d.counts) = subst Ends (sym c.self.view_is) c.requires.last in
    let after : c.count.new.self ≡ after_round d.counts = after-is d.counts c.count.new.self c.self.inside.round.kind c.self.inside.round.tab c.self.inside.round.byte
    now.kind now.tab now.byte c.count.ensures in
    let f : Counts → Drilling = λ counts. record { opening = d.opening; rounds = d.rounds - 1; place = 0; counts = counts } in
    ap f after ∙ sym (next-over d whole) ∙ ap next_in c.self.view_is
