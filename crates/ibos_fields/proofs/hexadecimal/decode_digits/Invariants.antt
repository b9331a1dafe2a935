use Rattle.std.proofs.Common.{◌≡◌, ◌-◌, ◌*◌, ◌≤◌, ◌++◌, length, take, drop, option_map}
use Rattle.hex.specs.Hex.{decode_pairs}
use Rattle.ibos_fields.specs.Fields.{bytes_named}
use Rattle.ibos_fields.proofs.hexadecimal.decode_digits.Given as goal

abbrev pub invariant-loop-bytes : goal.invariant-loop-bytes
invariant-loop-bytes l = record {
  within : l.at ≤ length l.bytes;
  named : bytes_named (decode_pairs 0 l.word) ≡ option_map (λ rest. take l.at l.bytes ++ rest) (bytes_named (decode_pairs 0 (drop (2 * l.at) l.word)));
}

abbrev pub decreases-loop-bytes : goal.decreases-loop-bytes
decreases-loop-bytes l = length l.bytes - l.at
