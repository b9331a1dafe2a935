use Rattle.std.proofs.Common.{◌∙◌, ap, subst, length, arith}
use Rattle.ibos_outcome.specs.Printed.{item_text}
use Rattle.ibos_outcome.specs.Canonical.{IsFront}
use Rattle.ibos_outcome.proofs.ReadLines.{front_fits, told_more, all_more, line_some}
use Rattle.ibos_outcome.proofs.read.read_items.Goals as goal

pub loop-item-smaller : goal.loop-item-smaller
loop-item-smaller c =
    let some = rw c.in-Some.is at c.in_ok-item.ensures.some in
    let front = subst (IsFront c.read_line.new.line) c.split_at.ensures.back some.2 in
    let fits = front_fits c.read_line.new.line c.args.text.now c.loop-item.len c.loop-item.invariant.within front in
    omega (arith, fits, c.len-len.ensures, ap length some.1, line_some c.args.digits.now (item_text c.in-Some.item))

pub loop-item-preserved : goal.loop-item-preserved
loop-item-preserved c =
    let some = rw c.in-Some.is at c.in_ok-item.ensures.some in
    let front = subst (IsFront c.read_line.new.line) c.split_at.ensures.back some.2 in
    let fits = front_fits c.read_line.new.line c.args.text.now c.loop-item.len c.loop-item.invariant.within front in
    record {
      within = omega (arith, fits, c.len-len.ensures);
      head = c.in_ok-push.ensures.head ∙ c.loop-item.invariant.head;
      canonical = rw c.in_ok-push.ensures.ok (all_more c.loop-item.outcome.items c.in-Some.item c.loop-item.invariant.canonical some.0);
      told = rw (c.in_ok-push.ensures.ok, c.len-len.ensures) (told_more c.args.digits.now c.read_line.new.line c.args.text.now c.loop-item.outcome.items c.in-Some.item c.loop-item.len c.loop-item.invariant.told some.1 front);
    }
