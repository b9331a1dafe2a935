use Rattle.std.proofs.Common.{◌≡◌, length}
use Rattle.ibos_text.specs.Words.{after_spaces}
use Rattle.ibos_text.proofs.words.skip_spaces.Given as goal

abbrev pub invariant-loop-rest : goal.invariant-loop-rest
invariant-loop-rest l = after_spaces l.rest ≡ after_spaces l.line

abbrev pub decreases-loop-rest : goal.decreases-loop-rest
decreases-loop-rest l = length l.rest
