use Rattle.std.proofs.Common.{◌≢◌, [], length, arith, ap}
use Rattle.std.proofs.lemmas.Bool.Decides.{nat_tests}
use Rattle.ibos_text.proofs.LineCuts.{found_end, found_no_end, lines_of-last, lines_of-ended}
use Rattle.ibos_text.proofs.lines.next_line.Goals as goal

pub returns-in-Some-clause-first : goal.returns-in-Some-clause-first
returns-in-Some-clause-first c =
    rw c.without_return.ensures (lines_of-ended c.args.text.now c.in-Some.len (found_end c.args.text.now c.in-Some.len c.in-Some.ensures) c.in-Some.ensures.0.high)

pub returns-in-None-clause-first : goal.returns-in-None-clause-first
returns-in-None-clause-first c =
    let some : c.args.text.now ≢ [] = λ none. grind (arith, nat_tests, ap length none, c.if-is_empty.ensures) in
    rw c.without_return-in-None.ensures (lines_of-last c.args.text.now some (found_no_end c.args.text.now c.in-None.ensures))
