use Rattle.std.proofs.Common.{ℕ, List, subst}
use Rattle.ibos_outcome.specs.Printed.{Appends}
use Rattle.ibos_outcome.proofs.ToldLines.{instance_spelled}
use Rattle.ibos_outcome.proofs.printed.push_instance.Goals as goal

pub returns-then-who-lt10-2 : goal.returns-then-who-lt10-2
returns-then-who-lt10-2 c =
    let P : List ℕ → Type 0 = λ x. Appends c.push_two.result c.args.text.now c.push_two.new.text x in
    subst P (instance_spelled c.args.who c.if-who-lt10.true c.if-who-lt10-2.true) c.push_two.ensures
