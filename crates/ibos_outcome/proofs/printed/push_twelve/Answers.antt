use Rattle.std.proofs.Common.{ℕ, List, ◌++◌, subst}
use Rattle.ibos_outcome.specs.Printed.{Appends}
use Rattle.ibos_outcome.proofs.CutTexts.{Appends-second, eight_more}
use Rattle.ibos_outcome.proofs.printed.push_twelve.Goals as goal

pub returns : goal.returns
returns c =
    let first : List ℕ = c.args.a.now ++ c.args.b.now ++ c.args.c.now ++ c.args.d.now ++ c.args.e.now ++ c.args.f.now ++ c.args.g.now ++ c.args.h.now in
    let second : List ℕ = c.args.i.now ++ c.args.j.now ++ c.args.k.now ++ c.args.l.now in
    let P : List ℕ → Type 0 = λ x. Appends c.push_four.result c.args.text.now c.push_four.new.text x in
    subst P (eight_more c.args.a.now c.args.b.now c.args.c.now c.args.d.now c.args.e.now c.args.f.now c.args.g.now c.args.h.now c.args.i.now c.args.j.now c.args.k.now c.args.l.now)
    (Appends-second c.push_four.result c.args.text.now c.push_eight.new.text c.push_four.new.text first second c.in_ok-push_eight.ensures c.push_four.ensures)
