-- How a run ends, and what cut it off.
use Rattle.std.specs.Prelude.{ℕ, Option, Some, None}
use Rattle.ibos_run.specs.declared.fault.Fault.{Fault}
use Rattle.ibos_run.specs.declared.fault.Fault.TheVariants.{Read, Write, Memory}
use Rattle.ibos_run.specs.declared.fault.Status.{Status}
use Rattle.ibos_run.specs.declared.fault.Status.TheVariants.{Done, Usage, Refused, ReadFault}
use Rattle.ibos_run.specs.declared.fault.Status.TheVariants.{WriteFault, Memory as NoMemory}
use Rattle.ibos_run.specs.Inputs.{Input, NoForm, NoHosts, Session, Drill}
use Rattle.ibos_run.specs.Refusals.{Refusal}

-- a fault of reading comes only where P, a fault of writing only where Q; out of memory a run may
-- be at any time
abbrev pub IsCaused : Fault → Type 0 → Type 0 → Type 0
IsCaused Read P Q = P
IsCaused Write P Q = Q
IsCaused Memory P Q = Unit {0}

abbrev pub status_of : Fault → Status
status_of Read = ReadFault
status_of Write = WriteFault
status_of Memory = NoMemory

-- the number that the program exits with
abbrev pub exit_number_of : Status → ℕ
exit_number_of Done = 0
exit_number_of Usage = 2
exit_number_of Refused = 3
exit_number_of ReadFault = 4
exit_number_of WriteFault = 5
exit_number_of NoMemory = 6

-- the claim, where no failed read or write ended the run, and it was not out of memory
abbrev pub OnWhole : Status → Type 0 → Type 0
OnWhole Done P = P
OnWhole Usage P = P
OnWhole Refused P = P
OnWhole ReadFault P = Unit {0}
OnWhole WriteFault P = Unit {0}
OnWhole NoMemory P = Unit {0}

-- neither a read nor a write failed
abbrev pub IsFaultless : Status → Type 0
IsFaultless ReadFault = ⊥
IsFaultless WriteFault = ⊥
IsFaultless other = Unit {0}

abbrev pub ending : Option Refusal → Status
ending None = Done
ending (Some refusal) = Refused

-- the status that inputs are wanted to end with
abbrev pub status_for : Input → Status
status_for NoForm = Usage
status_for (NoHosts refusal) = Refused
status_for (Session H reading) = ending reading.refused
status_for (Drill seed rounds) = Done
