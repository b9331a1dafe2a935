use Rattle.std.proofs.Common.{◌≡◌, ◌*◌, take, drop}
use Rattle.hex.specs.Hex.{decode_pairs}
use Rattle.ibos_fields.specs.Fields.{bytes_named}
use Rattle.ibos_fields.proofs.HexDigits.{joined}
use Rattle.ibos_fields.proofs.hexadecimal.decode_few.Given as goal

abbrev pub invariant-pairs : goal.invariant-pairs
invariant-pairs l =
    bytes_named (decode_pairs 0 l.word) ≡ joined l.codes (take l.i l.bytes) (bytes_named (decode_pairs (2 * l.i) (drop (2 * l.i) l.word)))
