-- What a script gives with the frames of its capture: the acts before the first fault, and that
-- fault.
use Rattle.std.specs.Prelude.{ℕ, ◌+◌, List, [], ◌∷◌, Bool, true, false, ◌&&◌, nat_lt, length, take}
use Rattle.std.specs.Prelude.{Option, Some, None, Result, Ok, Err, if◌then◌else◌}
use Rattle.ibos_kinds.specs.declared.act.Act.{Act}
use Rattle.ibos_kinds.specs.declared.act.Act.TheVariants.{WireIn}
use Rattle.ibos_script.specs.declared.fault.LineFault.{LineFault}
use Rattle.ibos_script.specs.declared.lines.Line.{Line}
use Rattle.ibos_script.specs.declared.lines.Line.TheVariants.{Act as ActLine, NextFrame}
use Rattle.ibos_script.specs.Lines.{line_in}
use Rattle.ibos_text.specs.Lines.{lines_of}
use Rattle.ibos_run.specs.Refusals.{Refusal, line_refusal, no_frame, too_long}

pub record Reading : Type 0 where
  pub acts : List Act
  pub refused : Option Refusal

abbrev pub onto_acts : Act → Reading → Reading
onto_acts act reading = record { acts = act ∷ reading.acts; refused = reading.refused }

abbrev pub refused_by : Refusal → Reading
refused_by refusal = record { acts = []; refused = Some refusal }

-- a line that wants the next frame has it come from the wire
abbrev pub reading_next : ℕ → List (List ℕ) → (List (List ℕ) → Reading) → Reading
reading_next number [] next = refused_by (no_frame number)
reading_next number (frame ∷ frames) next = onto_acts (WireIn frame) (next frames)

-- what is read from a line on with the frames that are left, where that is what the lines behind it
-- give
abbrev pub reading_by : ℕ → Result (Option Line) LineFault → List (List ℕ)
    → (List (List ℕ) → Reading) → Reading
reading_by number (Ok None) frames next = next frames
reading_by number (Ok (Some (ActLine act))) frames next = onto_acts act (next frames)
reading_by number (Ok (Some NextFrame)) frames next = reading_next number frames next
reading_by number (Err fault) frames next = refused_by (line_refusal number fault)

abbrev pub is_last : List (List ℕ) → Bool
is_last [] = true
is_last (line ∷ lines) = false

-- what lines give from one of that number on, with the frames that are left; where the text passes
-- the limit, its last line is too long
abbrev pub reading_from : Bool → ℕ → List (List ℕ) → List (List ℕ) → Reading
reading_from passes number [] frames = record { acts = []; refused = None }
reading_from passes number (line ∷ lines) frames =
    if passes && is_last lines then refused_by (too_long number)
    else reading_by number (line_in line) frames (reading_from passes (number + 1) lines)

-- what is read of a script, which is cut behind the byte after the first 67,108,864
unfoldable pub script_in : List ℕ → List ℕ
script_in file = take 67108865 file

-- what a script gives with the frames of its capture
unfoldable pub reading_of : List (List ℕ) → List ℕ → Reading
reading_of frames script = reading_from (nat_lt 67108864 (length script)) 1 (lines_of script) frames
