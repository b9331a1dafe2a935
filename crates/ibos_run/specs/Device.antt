-- What the device's registers and its log are where a run begins, and where it ends.
use Rattle.std.specs.Prelude.{◌≡◌, ℕ, List, [], ◌++◌, None}
use Rattle.std.specs.List.{All}
use Rattle.ibos_nic.specs.declared.log.LogEntry.{LogEntry}
use Rattle.ibos_nic.specs.declared.reg.Reg.{Reg}
use Rattle.ibos_nic.specs.Registers.{Registers, reset}
use Rattle.ibos_make.specs.Drill.{drill_table}
use Rattle.ibos_run.specs.Inputs.{Input, NoForm, NoHosts, Session, Drill, journal_of}
use Rattle.ibos_run.specs.Summaries.{drill_journal}
use Rattle.ibos_model.specs.Journal.{Journal, frames}
use Rattle.ibos_model.specs.Logs.{frames_in, sent_in, written_in}
use Rattle.ibos_model.specs.Laws.{IsOfASend}
use Rattle.ibos_model.specs.Network.{network, sent_frames}
use Rattle.ibos_net.specs.NetStanding.{AreRegisters}

-- a device at reset: nothing came in or went out
pub record IsReset (f : Registers) (l : List LogEntry) : Type 0 where
  pub registers : (r : Reg) → f r ≡ reset r
  pub log : l ≡ []

-- the frames that came in are those of the journal that were heard, as they came, and those that
-- went out are the ones that it sent
pub record IsLogOf (J : Journal) (l : List LogEntry) : Type 0 where
  pub came : frames_in l ≡ frames J
  pub sent : sent_in l ≡ sent_frames (network J)

-- they are a front of them
pub record IsLogFront (J : Journal) (l : List LogEntry) : Type 0 where
  pub came : (more : List (List ℕ)) × (frames_in l ++ more ≡ frames J)
  pub sent : (more : List (List ℕ)) × (sent_in l ++ more ≡ sent_frames (network J))

-- the log of a run that was not cut off; where the inputs have no journal it is empty
abbrev pub IsLogged : Input → List LogEntry → Type 0
IsLogged NoForm l = l ≡ []
IsLogged (NoHosts refusal) l = l ≡ []
IsLogged (Session H reading) l = IsLogOf (journal_of H reading (written_in l)) l
IsLogged (Drill seed rounds) l = IsLogOf (drill_journal seed rounds (written_in l)) l

-- the log of any run
abbrev pub IsLoggedFront : Input → List LogEntry → Type 0
IsLoggedFront NoForm l = l ≡ []
IsLoggedFront (NoHosts refusal) l = l ≡ []
IsLoggedFront (Session H reading) l = IsLogFront (journal_of H reading (written_in l)) l
IsLoggedFront (Drill seed rounds) l = IsLogFront (drill_journal seed rounds (written_in l)) l

-- each frame that went out is that of a send which was accepted in the journal, and which is right
abbrev pub AreSentRightly : Input → List LogEntry → Type 0
AreSentRightly NoForm l = Unit {0}
AreSentRightly (NoHosts refusal) l = Unit {0}
AreSentRightly (Session H reading) l =
    All (IsOfASend H (journal_of H reading (written_in l))) (sent_in l)
AreSentRightly (Drill seed rounds) l =
    All (IsOfASend drill_table (drill_journal seed rounds (written_in l))) (sent_in l)

-- where the inputs were read to their end, the registers are those of their journal
abbrev pub AreRegistersOf : Input → Registers → List (List ℕ) → Type 0
AreRegistersOf NoForm f W = Unit {0}
AreRegistersOf (NoHosts refusal) f W = Unit {0}
AreRegistersOf (Session H reading) f W = reading.refused ≡ None
    → AreRegisters H.local (network (journal_of H reading W)) f
AreRegistersOf (Drill seed rounds) f W =
    AreRegisters drill_table.local (network (drill_journal seed rounds W)) f
