use Rattle.std.proofs.Common.{ℕ, List, subst}
use Rattle.ibos_outcome.specs.Printed.{Appends}
use Rattle.ibos_outcome.proofs.ToldLines.{two_spelled}
use Rattle.ibos_outcome.proofs.printed.write_told_two.Goals as goal

pub returns : goal.returns
returns c =
    let P : List ℕ → Type 0 = λ x. Appends c.push_named.result c.args.text.now c.push_named.new.text x in
    subst P (two_spelled c.args.digits.now c.args.who c.args.word.now c.args.first.now c.args.second.now) c.push_named.ensures
