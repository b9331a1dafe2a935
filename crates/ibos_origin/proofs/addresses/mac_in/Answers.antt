use Rattle.std.proofs.Common.{◌∙◌, sym, arith}
use Rattle.ibos_origin.proofs.Macs.{mac_in-start, mac_from-full, mac_below}
use Rattle.ibos_origin.proofs.addresses.mac_in.Goals as goal

pub pairs-init : goal.pairs-init
pairs-init c = record { few = omega arith; small = omega arith; same = mac_in-start c.args.word.now }

pub returns-then-count-eq-PAIRS : goal.returns-then-count-eq-PAIRS
returns-then-count-eq-PAIRS c =
    let same = rw (c.in-Some.is, c.if-count-eq-PAIRS.true) at c.pairs.invariant.same in
    sym (mac_from-full c.pairs.mac c.in-Some.text.now) ∙ same

pub overflow_mul-mac : goal.overflow_mul-mac
overflow_mul-mac c = omega (arith, mac_below c.pairs.count c.pairs.mac c.pairs.invariant.small (omega arith))

pub overflow_add-mac : goal.overflow_add-mac
overflow_add-mac c = omega (arith, mac_below c.pairs.count c.pairs.mac c.pairs.invariant.small (omega arith))
