use Rattle.std.proofs.Common.{length, sym, ap, arith}
use Rattle.std.proofs.lemmas.List.{length-take-le}
use Rattle.ibos_kernel.proofs.chrome.bar_row.Goals as goal

pub slice_bounds-push_shown-length : goal.slice_bounds-push_shown-length
slice_bounds-push_shown-length c = sym (length-take-le 79 c.args.url.now (omega (arith, c.if-url-gt-COLUMNS.true)))

pub push_shown-requires : goal.push_shown-requires
push_shown-requires c =
    let size = length-take-le 79 c.args.url.now (omega (arith, c.if-url-gt-COLUMNS.true)) in
    let none = ap length c.new-row.ensures in
    omega (arith, size, none)

pub push_shown-requires-then-url-gt-COLUMNS : goal.push_shown-requires-then-url-gt-COLUMNS
push_shown-requires-then-url-gt-COLUMNS c =
    let size = length-take-le 79 c.args.url.now (omega (arith, c.if-url-gt-COLUMNS.true)) in
    let none = ap length c.new-row.ensures in
    omega (arith, size, none, c.push_shown.ensures.len)
