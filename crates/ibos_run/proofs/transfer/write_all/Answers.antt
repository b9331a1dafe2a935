use Rattle.std.proofs.Common.{◌≡◌, ◌-◌, arith, length, length-drop, take, drop, ap, ◌∙◌}
use Rattle.std.proofs.lemmas.List.{take_all}
use Rattle.ibos_kinds.specs.Outside.{taken_after}
use Rattle.ibos_run.proofs.Taken.{front_failed, on_err, taken_more}
use Rattle.ibos_run.proofs.transfer.write_all.Goals as goal

pub loop-at-preserved : goal.loop-at-preserved
loop-at-preserved g c =
    let bytes = c.args.bytes.now in
    let at = c.loop-at.at in
    let piece : take (length bytes - at) (drop at bytes) ≡ drop at bytes = take_all _ _ (omega (arith, length-drop at bytes)) in
    let took = c.in_ok-at.ensures in
    record {
      within = let front = took.front.within in omega (arith, ap length piece, length-drop at bytes);
      taken = taken_more _ _ _ bytes at c.in_ok-at.field-0 c.loop-at.invariant.taken
          (took.taken ∙ ap (λ p. taken_after (g.K.Sink.taken c.loop-at.sink) (take c.in_ok-at.field-0 p)) piece);
      later = omega (arith, c.loop-at.invariant.later, took.cause.later);
    }

pub returns-in_err-at-clause-front : goal.returns-in_err-at-clause-front
returns-in_err-at-clause-front g c = on_err _ _ (front_failed _ _ _ c.args.bytes.now c.loop-at.at c.loop-at.invariant.taken c.in_err-at.ensures.taken)
