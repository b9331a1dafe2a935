use Rattle.ibos_pool.proofs.HandLemmas.{hands-given, parts}
use Rattle.ibos_send.proofs.Givings.{given-one}
use Rattle.ibos_send.proofs.sends.give_left.Goals as goal

pub returns-in-Some-clause-returned : goal.returns-in-Some-clause-returned
returns-in-Some-clause-returned c = rw c.in-Some.is (given-one c.args.pool.now c.give.new.self c.in-Some.loan c.give.ensures.claimed)

pub returns-in-Some-clause-hands : goal.returns-in-Some-clause-hands
returns-in-Some-clause-hands c mem more hands =
    let hands' = rw c.in-Some.is at hands in
    hands-given c.args.pool.now c.give.new.self mem more c.in-Some.loan c.give.ensures.claimed hands'

pub returns-in-Some-clause-unheld : goal.returns-in-Some-clause-unheld
returns-in-Some-clause-unheld c m mem more hands unheld =
    let hands' = rw c.in-Some.is at hands in
    c.gifts_keep_the_relation.ensures.unheld m mem c.args.pool.now c.give.new.self more c.in-Some.loan hands'.0 hands'.1 c.give.ensures.claimed
    (λ index below free out. unheld index below free (parts _ _ out).1)
