-- The first fault of the inputs, as a run that it ended tells it.
use Rattle.std.specs.Prelude.{ℕ, ◌++◌, List, codes, decimal}
use Rattle.ibos_script.specs.declared.fault.LineFault.{LineFault}
use Rattle.ibos_script.specs.Faults.{number_of, name_of}
use Rattle.ibos_origin.specs.declared.fault.HostFault.{HostFault}
use Rattle.ibos_origin.specs.HostFaults as host
use Rattle.ibos_capture.specs.declared.fault.CapFault.{CapFault}
use Rattle.ibos_capture.specs.Faults as capture

-- the files that a run reads
pub data File : Type 0 where
  Hosts : File
  Capture : File
  Script : File

abbrev pub file_word : File → List ℕ
file_word Hosts = codes "hosts"
file_word Capture = codes "capture"
file_word Script = codes "script"

-- the file that has the fault, the line (from 1) or the capture's entry (from 1, and 0 for its
-- header), and the fault's number and name
pub record Refusal : Type 0 where
  pub file : File
  pub place : ℕ
  pub number : ℕ
  pub name : List ℕ

-- the last line of a run that a fault of a file ended
unfoldable pub refusal_line : Refusal → List ℕ
refusal_line refusal =
    codes "refused " ++ file_word refusal.file ++ codes " " ++ decimal refusal.place ++ codes " "
    ++ decimal refusal.number ++ codes " " ++ refusal.name ++ codes "\n"

abbrev pub host_refusal : ℕ × HostFault → Refusal
host_refusal fault = record {
  file = Hosts;
  place = fault.0;
  number = host.number_of fault.1;
  name = host.name_of fault.1;
}

abbrev pub capture_refusal : ℕ × CapFault → Refusal
capture_refusal fault = record {
  file = Capture;
  place = fault.0;
  number = capture.number_of fault.1;
  name = capture.name_of fault.1;
}

abbrev pub line_refusal : ℕ → LineFault → Refusal
line_refusal line fault = record {
  file = Script;
  place = line;
  number = number_of fault;
  name = name_of fault;
}

-- the line wants a frame of the capture, and none is left, or no capture is named
unfoldable pub no_frame : ℕ → Refusal
no_frame line = record { file = Script; place = line; number = 7; name = codes "NoFrame" }

-- the line holds the byte after the limit
unfoldable pub too_long : ℕ → Refusal
too_long line = record { file = Script; place = line; number = 8; name = codes "TooLong" }
