-- What a session has made, and how it is cut off. W is what the device wrote, by its log.
use Rattle.std.specs.Prelude.{◌≡◌, ℕ, ◌+◌, List, [], ◌∷◌, ◌++◌, length, Option}
use Rattle.ibos_kinds.specs.declared.act.Act.{Act}
use Rattle.ibos_outcome.specs.Printed.{outcome_text}
use Rattle.ibos_origin.specs.Hosts.{HostTable}
use Rattle.ibos_nic.specs.declared.log.LogEntry.{LogEntry}
use Rattle.ibos_nic.specs.Registers.{Registers}
use Rattle.ibos_run.specs.Inputs.{Input, journal_of, session_text, wanted}
use Rattle.ibos_run.specs.Readings.{Reading}
use Rattle.ibos_run.specs.Refusals.{Refusal}
use Rattle.ibos_model.specs.Journal.{Journal, frame_of, frames}
use Rattle.ibos_model.specs.Logs.{Loses, frames_in, got_for, log_after, written_in}
use Rattle.ibos_model.specs.Network.{network, next_frame}
use Rattle.ibos_model.specs.Outcomes.{out}
use Rattle.ibos_model.specs.Runs.{GoesOn, run}
use Rattle.ibos_model.specs.Text.{text_of}
use Rattle.ibos_net.specs.NetStanding.{AreRegisters}
use Rattle.ibos_kernel.specs.Standing.{Agrees, Stands, entry}
use Rattle.ibos_kernel.specs.Tables.{Tables}
use Rattle.ibos_run.specs.Device.{AreRegistersOf, IsLogFront, IsLogOf, IsLogged, IsLoggedFront}
use Rattle.ibos_run.specs.Took.{Took, TookFront}

-- One act was made, whose journal so far is J. Before it `old` was gathered, and l was the log.
pub record IsMade (H : HostTable) (J : Journal) (act : Act) (before now : Option (List ℕ))
    (old gathered : List ℕ) (k : Tables) (f : Registers) (l l' : List LogEntry) : Type 0 where
  pub stands : Stands (entry act (out H J act) l' ∷ J) k
  pub agrees : Agrees H (entry act (out H J act) l' ∷ J) f l'
  pub text : Took before now gathered (old ++ outcome_text (length J + 1) (out H J act))
  pub log : l' ≡ log_after (out H J act) (frame_of act) (got_for (out H J act) l')
      (next_frame (network J)) l

-- One act was cut off.
pub record IsCut (H : HostTable) (J : Journal) (act : Act) (before now : Option (List ℕ))
    (old gathered : List ℕ) (l l' : List LogEntry) : Type 0 where
  pub loses : Loses (out H J act) act (next_frame (network J)) l l'
  pub text : TookFront before now gathered (old ++ outcome_text (length J + 1) (out H J act))

-- All acts of the reading are made.
pub record IsServed (H : HostTable) (reading : Reading) (first now : Option (List ℕ))
    (gathered : List ℕ) (f : Registers) (l : List LogEntry) : Type 0 where
  pub text : Took first now gathered (text_of (journal_of H reading (written_in l)))
  pub logged : IsLogOf (journal_of H reading (written_in l)) l
  pub registers : AreRegisters H.local (network (journal_of H reading (written_in l))) f

-- All acts of a drill are made.
pub record IsDrilled (H : HostTable) (A : List Act) (f : Registers) (l : List LogEntry)
    : Type 0 where
  pub logged : IsLogOf (run H A (written_in l)) l
  pub registers : AreRegisters H.local (network (run H A (written_in l))) f

-- Where a session stands: the journal so far is J, and `left` is what is left of the reading.
pub record IsServing (H : HostTable) (whole left : Reading) (first now : Option (List ℕ))
    (gathered : List ℕ) (k : Tables) (f : Registers) (l : List LogEntry) (J : Journal)
    : Type 0 where
  pub stands : Stands J k
  pub table : k.hosts ≡ H
  pub agrees : Agrees H J f l
  pub text : Took first now gathered (text_of J)
  pub goes : GoesOn H J left.acts whole.acts
  pub came : frames_in l ≡ frames J
  pub refuses : left.refused ≡ whole.refused

-- From wherever a session stood, it goes on to where `after` is left.
abbrev pub Serves : Reading → Reading → (now new : Option (List ℕ)) (old gathered : List ℕ)
    (k k' : Tables) (f f' : Registers) (l l' : List LogEntry) → Type 0
Serves left after now new old gathered k k' f f' l l' =
    (H : HostTable) (whole : Reading) (first : Option (List ℕ)) (J : Journal)
    → IsServing H whole left first now old k f l J
    → (J' : Journal) × IsServing H whole after first new gathered k' f' l' J'

-- All acts were made, so many, and the reading ends so.
pub record IsOver (H : HostTable) (whole : Reading) (first now : Option (List ℕ))
    (gathered : List ℕ) (f : Registers) (l : List LogEntry) (acts : ℕ) (refused : Option Refusal)
    : Type 0 where
  pub served : IsServed H whole first now gathered f l
  pub counted : acts ≡ length (journal_of H whole (written_in l))
  pub refuses : refused ≡ whole.refused

-- The session was cut off: what was taken, what came in and what went out are fronts.
pub record IsStopped (H : HostTable) (reading : Reading) (first now : Option (List ℕ))
    (gathered : List ℕ) (l : List LogEntry) : Type 0 where
  pub text : TookFront first now gathered (session_text H reading (written_in l))
  pub logged : IsLogFront (journal_of H reading (written_in l)) l

-- From wherever a session stood, it is cut off.
abbrev pub Stops : Reading → (now new : Option (List ℕ)) (old gathered : List ℕ) (k : Tables)
    (f : Registers) (l l' : List LogEntry) → Type 0
Stops left now new old gathered k f l l' =
    (H : HostTable) (whole : Reading) (first : Option (List ℕ)) (J : Journal)
    → IsServing H whole left first now old k f l J → IsStopped H whole first new gathered l'

-- The inputs were served to their end.
pub record IsTold (i : Input) (first now : Option (List ℕ)) (f : Registers) (l : List LogEntry)
    : Type 0 where
  pub text : Took first now [] (wanted i (written_in l))
  pub logged : IsLogged i l
  pub registers : AreRegistersOf i f (written_in l)

-- Or the run was cut off.
pub record IsBroken (i : Input) (first now : Option (List ℕ)) (gathered : List ℕ)
    (l : List LogEntry) : Type 0 where
  pub text : TookFront first now gathered (wanted i (written_in l))
  pub logged : IsLoggedFront i l
