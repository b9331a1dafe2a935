use Rattle.std.proofs.Common.{◌≡◌, take}
use Rattle.ibos_outcome.specs.Printed.{pieces_text}
use Rattle.ibos_run.proofs.texts.joined.Given as goal

abbrev pub invariant-loop-piece : goal.invariant-loop-piece
invariant-loop-piece l = l.text ≡ pieces_text (take l.piece-index l.pieces)
