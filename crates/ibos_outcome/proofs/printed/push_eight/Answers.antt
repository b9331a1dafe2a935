use Rattle.std.proofs.Common.{ℕ, List, ◌++◌, subst}
use Rattle.ibos_outcome.specs.Printed.{Appends}
use Rattle.ibos_outcome.proofs.CutTexts.{Appends-second, four_more}
use Rattle.ibos_outcome.proofs.printed.push_eight.Goals as goal

pub returns : goal.returns
returns c =
    let first : List ℕ = c.args.a.now ++ c.args.b.now ++ c.args.c.now ++ c.args.d.now in
    let second : List ℕ = c.args.e.now ++ c.args.f.now ++ c.args.g.now ++ c.args.h.now in
    let P : List ℕ → Type 0 = λ x. Appends c.push_four-2.result c.args.text.now c.push_four-2.new.text x in
    subst P (four_more c.args.a.now c.args.b.now c.args.c.now c.args.d.now c.args.e.now c.args.f.now c.args.g.now c.args.h.now)
    (Appends-second c.push_four-2.result c.args.text.now c.push_four.new.text c.push_four-2.new.text first second c.in_ok-push_four.ensures c.push_four-2.ensures)
