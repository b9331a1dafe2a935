use Rattle.std.proofs.Common.{◌-◌, ◌≤◌, length}
use Rattle.ibos_capture.specs.Progress.{IsReadTo}
use Rattle.ibos_capture.proofs.index.Index.read.Given as goal

abbrev pub invariant-entries : goal.invariant-entries
invariant-entries l = record { read : IsReadTo l.bytes l.reader }

abbrev pub decreases-entries : goal.decreases-entries
decreases-entries l = length l.bytes - l.reader.place
