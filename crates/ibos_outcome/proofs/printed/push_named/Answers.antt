use Rattle.std.proofs.Common.{List, ℕ, ◌++◌, subst}
use Rattle.std.specs.Prelude.{codes}
use Rattle.std.proofs.lemmas.Result.{err_from_is_err_and}
use Rattle.ibos_outcome.specs.Printed.{Appends, IsCutShort, instance_text}
use Rattle.ibos_outcome.proofs.CutTexts.{IsCutShort-first, Appends-second, named_more}
use Rattle.ibos_outcome.proofs.printed.push_named.Goals as goal

pub returns-in_err-push_front : goal.returns-in_err-push_front
returns-in_err-push_front c =
    let p = err_from_is_err_and c.from_residual.result c.from_residual.ensures.1 in
    let P : List ℕ → Type 0 = λ x. IsCutShort c.args.text.now c.push_front.new.text x in
    let pieces : List ℕ = c.args.a.now ++ c.args.b.now ++ c.args.c.now ++ c.args.d.now ++ c.args.e.now ++ c.args.f.now ++ c.args.g.now ++ c.args.h.now in
    let same = named_more c.args.digits.now c.args.said.now (codes " ") (instance_text c.args.who) c.args.a.now c.args.b.now c.args.c.now c.args.d.now c.args.e.now c.args.f.now c.args.g.now c.args.h.now in
    rw p.1 (subst P same (IsCutShort-first c.args.text.now c.push_front.new.text _ pieces c.in_err-push_front.ensures))

pub returns : goal.returns
returns c =
    let P : List ℕ → Type 0 = λ x. Appends c.push_eight.result c.args.text.now c.push_eight.new.text x in
    let pieces : List ℕ = c.args.a.now ++ c.args.b.now ++ c.args.c.now ++ c.args.d.now ++ c.args.e.now ++ c.args.f.now ++ c.args.g.now ++ c.args.h.now in
    let same = named_more c.args.digits.now c.args.said.now (codes " ") (instance_text c.args.who) c.args.a.now c.args.b.now c.args.c.now c.args.d.now c.args.e.now c.args.f.now c.args.g.now c.args.h.now in
    subst P same (Appends-second c.push_eight.result c.args.text.now c.push_front.new.text c.push_eight.new.text _ pieces c.in_ok-push_front.ensures c.push_eight.ensures)
