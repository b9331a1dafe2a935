use Rattle.std.proofs.Common.{◌≡◌, [], ◌∷◌, ◌<◌, refl, sym, ap, ◌∙◌, arith}
use Rattle.ibos_make.specs.Drill.{Drilling, left}
use Rattle.ibos_make.proofs.DrillSteps.{left-opening, left-none, left-round, one-came}
use Rattle.ibos_make.proofs.drilling.Drill.next_into.Goals as goal

pub returns-then-self-eq0-clause-none : goal.returns-then-self-eq0-clause-none
returns-then-self-eq0-clause-none c =
    let d : Drilling = record { opening = c.self.inside.opening; rounds = c.self.inside.rounds; place = c.self.inside.place; counts = c.self.inside.counts } in
    let over : d.opening ≡ 86 = omega (arith, c.self.invariant.1.opening) in
    let none : left c.args.self.now ≡ [] = ap left (sym c.self.view_is) ∙ left-none d over (omega arith) in
    (λ same. none, λ same. refl)

pub returns-then-self-lt-OPENING-clause-some : goal.returns-then-self-lt-OPENING-clause-some
returns-then-self-lt-OPENING-clause-some c = λ yes.
    let d : Drilling = record { opening = c.self.inside.opening; rounds = c.self.inside.rounds; place = c.self.inside.place; counts = c.self.inside.counts } in
    ap left (sym c.self.view_is) ∙ left-opening d c.in_ok-act.field-0 c.in_ok-act.ensures.act

pub returns-then-self-lt-OPENING-clause-none : goal.returns-then-self-lt-OPENING-clause-none
returns-then-self-lt-OPENING-clause-none c = one-came _ _ _ (returns-then-self-lt-OPENING-clause-some c refl)

pub returns-clause-some : goal.returns-clause-some
returns-clause-some c = λ yes.
    let opening : c.args.self.now.opening ≡ 86 = omega (arith, c.self.invariant.1.opening, ap (λ (d : Drilling). d.opening) c.self.view_is) in
    let some : 0 < c.args.self.now.rounds = omega (arith, ap (λ (d : Drilling). d.rounds) c.self.view_is) in
    left-round c.args.self.now c.round_act.new.act opening some c.in_ok-round_act.ensures.act ∙ ap (λ d. c.round_act.new.act ∷ left d) (sym c.in_ok-round_act.ensures.ok)

pub returns-clause-none : goal.returns-clause-none
returns-clause-none c = one-came _ _ _ (returns-clause-some c refl)
