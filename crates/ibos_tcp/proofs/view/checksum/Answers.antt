use Rattle.std.proofs.Common.{◌-◌, length, refl, ap}
use Rattle.ibos_kinds.specs.Sums.{sum16}
use Rattle.ibos_kinds.specs.Frames.{pseudo_header}
use Rattle.ibos_tcp.proofs.view.checksum.Goals as goal

pub returns : goal.returns
unfolding sum16
returns c =
    let front = pseudo_header c.args.src c.args.dst c.args.protocol (length c.args.segment.now) in
    ap (λ n. 65535 - n) (c.sum_words.ensures.parts 0 front refl c.pseudo_sum.ensures)
