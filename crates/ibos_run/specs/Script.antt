-- How a script ends.
use Rattle.std.specs.Prelude.{◌≢◌, [], Option, Some, None}
use Rattle.ibos_script.specs.declared.fault.LineFault.TheVariants.{Memory}
use Rattle.ibos_run.specs.Readings.{Reading}
use Rattle.ibos_run.specs.Refusals.{Refusal, line_refusal, no_frame, too_long}
use Rattle.ibos_run.specs.declared.script.End.{End}
use Rattle.ibos_run.specs.declared.script.End.TheVariants.{Whole, NoFrame, TooLong, Refused}

-- the fault that an end tells
abbrev pub refusal_of : End → Option Refusal
refusal_of Whole = None
refusal_of (NoFrame line) = Some (no_frame line)
refusal_of (TooLong line) = Some (too_long line)
refusal_of (Refused line fault) = Some (line_refusal line fault)

-- that the run is out of memory is no fault of a line
abbrev pub IsOfScript : End → Type 0
IsOfScript (Refused line fault) = fault ≢ Memory
IsOfScript other = Unit {0}

-- an end, where nothing more is made
abbrev pub ended_by : End → Reading
ended_by end = record { acts = []; refused = refusal_of end }

-- what is left of a script behind a line: that, unless the script ends there
abbrev pub behind_end : Option End → Reading → Reading
behind_end None left = left
behind_end (Some end) left = ended_by end
