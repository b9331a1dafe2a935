use Rattle.std.proofs.Common.{◌≡◌, ◌++◌, arith, take, drop, length, length-append, length-take, length-take-le, ◌∙◌, ap, subst}
use Rattle.std.specs.Prelude.{IfSome}
use Rattle.ibos_kinds.specs.Outside.{ReadsFrom}
use Rattle.std.proofs.lemmas.List.{take-append-le}
use Rattle.ibos_run.proofs.Pieces.{read_more_if}
use Rattle.ibos_run.proofs.transfer.read_pieces.Goals as goal

pub pieces-preserved : goal.pieces-preserved
pieces-preserved g c =
    let into = c.read_at.new.into in
    let got = c.in-Ok.got in
    let front : take got (into ++ drop c.min-want.result c.pieces.piece) ≡ take got into = take-append-le _ _ _ c.in-Ok.ensures.within in
    let pushed : c.push_slice.new.self ≡ c.pieces.text ++ take got into = c.in_ok-push_slice.ensures.ok ∙ ap (λ p. c.pieces.text ++ p) front in
    record {
      within = omega (arith, ap length pushed, length-append c.pieces.text (take got into), length-take-le got into c.in-Ok.ensures.within, c.in-Ok.ensures.within, c.read_at.auto.into, length-take c.min-want.result c.pieces.piece);
      front = read_more_if _ _ c.pieces.text _ into got (c.pieces.invariant.holds _) pushed c.in-Ok.ensures.within c.pieces.invariant.front
          (subst (λ n. IfSome (g.C.Cabinet.holds c.pieces.cabinet c.args.name.now) (λ file. ReadsFrom file n got into)) c.len-in-pieces-2.ensures c.in-Ok.ensures.bytes);
      holds = λ name. cc (c.in-Ok.ensures.holds name, c.pieces.invariant.holds name);
      later = λ name. omega (arith, c.in-Ok.ensures.later name, c.pieces.invariant.later name);
    }
