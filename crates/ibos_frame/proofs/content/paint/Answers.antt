use Rattle.std.proofs.Common.{◌≡◌, ◌+◌, ◌-◌, ◌*◌, length, arith}
use Rattle.ibos_frame.proofs.DrawnLines.{drawn_next, drawn_none}
use Rattle.ibos_frame.proofs.content.paint.Goals as goal

pub lines-init : goal.lines-init
lines-init c = drawn_none c.args.target.now c.args.pixels.now c.args.row c.args.col c.args.width

pub lines-preserved : goal.lines-preserved
lines-preserved c =
    let a = c.args in
    let at = (a.row + c.lines.k) * 80 + a.col in
    let size = c.requires.size in
    let kept = c.lines.auto.target in
    let long : length c.lines.target ≡ 1760 = omega (arith, size, kept) in
    let n_is : at + a.width - at ≡ a.width = omega arith in
    let m_is : (c.lines.k + 1) * a.width - c.lines.k * a.width ≡ a.width = omega arith in
    drawn_next a.target.now c.lines.target a.pixels.now c.copy_from_slice.new.self a.row a.col a.height a.width c.lines.k (at + a.width - at) ((c.lines.k + 1) * a.width - c.lines.k * a.width) c.requires.rows c.requires.columns c.lines-test.true long c.requires.count n_is m_is c.copy_from_slice.ensures.after c.lines.invariant
