use Rattle.std.proofs.Common.{◌≡◌, take}
use Rattle.ibos_text.specs.Hash.{number_of}
use Rattle.ibos_text.proofs.hash.number_of.Given as goal

abbrev pub invariant-loop-b : goal.invariant-loop-b
invariant-loop-b l = l.number ≡ number_of (take l.b-index l.bytes)
