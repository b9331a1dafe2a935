use Rattle.std.proofs.Common.{◌≡◌, ap, arith, drop, length, length-drop, length-take}
use Rattle.ibos_capture.proofs.EntriesRead.{too_long}
use Rattle.ibos_capture.proofs.index.Index.read.Goals as goal

pub returns-then-bytes-gt-MAX_CAPTURE-clause-reads : goal.returns-then-bytes-gt-MAX_CAPTURE-clause-reads
returns-then-bytes-gt-MAX_CAPTURE-clause-reads c = too_long c.args.bytes.now c.if-bytes-gt-MAX_CAPTURE.true

pub next_len-requires : goal.next_len-requires
next_len-requires c =
    omega (arith, ap length c.front_of-in-entries.ensures, c.place.ensures.place, c.place-place.ensures.place, c.entries-test.true, length-take 16 (drop c.place-place.result c.args.bytes.now), length-drop c.place-place.result c.args.bytes.now)
