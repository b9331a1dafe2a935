-- What words and the files that they name ask for, and the text that comes of it.
use Rattle.std.specs.Prelude.{ℕ, List, [], ◌++◌, length, take, Option, Some, None, Result}
use Rattle.std.specs.Prelude.{Ok, Err}
use Rattle.std.specs.Option.{option_map}
use Rattle.ibos_capture.specs.declared.fault.CapFault.{CapFault}
use Rattle.ibos_capture.specs.Captures.{capture_in}
use Rattle.ibos_make.specs.Drill.{drill_table}
use Rattle.ibos_origin.specs.declared.fault.HostFault.{HostFault}
use Rattle.ibos_origin.specs.Hosts.{HostTable}
use Rattle.ibos_origin.specs.Tables.{hosts_in}
use Rattle.ibos_model.specs.Journal.{Journal}
use Rattle.ibos_model.specs.Laws.{IsIsolatedIn}
use Rattle.ibos_model.specs.Runs.{run}
use Rattle.ibos_model.specs.Text.{text_of, end_line}
use Rattle.ibos_run.specs.Readings.{Reading, reading_of, refused_by, script_in}
use Rattle.ibos_run.specs.Refusals.{Refusal, capture_refusal, host_refusal, refusal_line}
use Rattle.ibos_run.specs.Summaries.{drill_journal, drill_text}
use Rattle.ibos_run.specs.Words.{Form, Files, Rounds, form_in, usage_line}

-- what is read of a host table, which is cut behind the byte after the first 4,194,304
unfoldable pub table_in : List ℕ → List ℕ
table_in file = take 4194305 file

-- and of a capture, behind the byte after the first 67,108,864
unfoldable pub frames_in : List ℕ → Result (List (List ℕ)) (ℕ × CapFault)
frames_in file = capture_in (take 67108865 file)

-- ---- what is asked for

pub data Input : Type 0 where
  -- the words are no form
  NoForm : Input
  -- the host table has a fault
  NoHosts : (refusal : Refusal) → Input
  -- a host table, and what the script gives; a capture with a fault gives no act, and that fault
  Session : (hosts : HostTable) (reading : Reading) → Input
  -- a drill
  Drill : (seed rounds : ℕ) → Input

-- the frames of a capture; where none is named there are none
abbrev pub frames_by : (List ℕ → Option (List ℕ)) → Option (List ℕ)
    → Option (Result (List (List ℕ)) (ℕ × CapFault))
frames_by holds None = Some (Ok [])
frames_by holds (Some capture) = option_map frames_in (holds capture)

abbrev pub script_with : HostTable → List (List ℕ) → Option (List ℕ) → Option Input
script_with H frames None = None
script_with H frames (Some file) = Some (Session H (reading_of frames (script_in file)))

-- the script is looked at where the capture has no fault
abbrev pub session_in : HostTable → Option (Result (List (List ℕ)) (ℕ × CapFault))
    → Option (List ℕ) → Option Input
session_in H None script = None
session_in H (Some (Err fault)) script = Some (Session H (refused_by (capture_refusal fault)))
session_in H (Some (Ok frames)) script = script_with H frames script

-- the capture is looked at where the host table has no fault
abbrev pub input_over : Result HostTable (ℕ × HostFault)
    → Option (Result (List (List ℕ)) (ℕ × CapFault)) → Option (List ℕ) → Option Input
input_over (Err fault) frames script = Some (NoHosts (host_refusal fault))
input_over (Ok H) frames script = session_in H frames script

abbrev pub input_with : Option (List ℕ) → Option (Result (List (List ℕ)) (ℕ × CapFault))
    → Option (List ℕ) → Option Input
input_with None frames script = None
input_with (Some file) frames script = input_over (hosts_in (table_in file)) frames script

abbrev pub input_of : (List ℕ → Option (List ℕ)) → Form → Option Input
input_of holds (Files hosts script capture) =
    input_with (holds hosts) (frames_by holds capture) (holds script)
input_of holds (Rounds seed rounds) = Some (Drill seed rounds)

abbrev pub input_by : Option Form → (List ℕ → Option (List ℕ)) → Option Input
input_by None holds = Some NoForm
input_by (Some form) holds = input_of holds form

-- what the words ask for, where the bytes of the files that they name are told
abbrev pub input : List (List ℕ) → (List ℕ → Option (List ℕ)) → Option Input
input words holds = input_by (form_in words) holds

-- ---- what comes of it, where the device wrote W

abbrev pub journal_of : HostTable → Reading → List (List ℕ) → Journal
journal_of H reading W = run H reading.acts W

abbrev pub last_line : ℕ → Option Refusal → List ℕ
last_line acts None = end_line acts
last_line acts (Some refusal) = refusal_line refusal

-- the text of a journal, and the last line
abbrev pub printed : Journal → Option Refusal → List ℕ
printed J refused = text_of J ++ last_line (length J) refused

unfoldable pub session_text : HostTable → Reading → List (List ℕ) → List ℕ
session_text H reading W = printed (journal_of H reading W) reading.refused

-- the text that is wanted
abbrev pub wanted : Input → List (List ℕ) → List ℕ
wanted NoForm W = usage_line
wanted (NoHosts refusal) W = refusal_line refusal
wanted (Session H reading) W = session_text H reading W
wanted (Drill seed rounds) W = drill_text seed rounds W

-- In the journal of the inputs, if there is one, each instance is told what the facts that concern
-- it give.
abbrev pub IsIsolatedInput : List (List ℕ) → Input → Type 0
IsIsolatedInput W NoForm = Unit {0}
IsIsolatedInput W (NoHosts refusal) = Unit {0}
IsIsolatedInput W (Session H reading) = IsIsolatedIn H (journal_of H reading W)
IsIsolatedInput W (Drill seed rounds) = IsIsolatedIn drill_table (drill_journal seed rounds W)
