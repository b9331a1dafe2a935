-- What a device's log tells. The log has its newest entry first; these lists have the oldest.
use Rattle.std.specs.Prelude.{ℕ, ◌≡◌, ◌⊎◌, List, [], ◌∷◌, ◌++◌, true, if◌then◌else◌}
use Rattle.ibos_kinds.specs.declared.act.Act.{Act}
use Rattle.ibos_kinds.specs.declared.outcome.Outcome.{Outcome}
use Rattle.ibos_nic.specs.declared.log.LogEntry.{LogEntry}
use Rattle.ibos_nic.specs.declared.log.LogEntry.TheVariants.{In, Out}
use Rattle.ibos_model.specs.Journal.{Kind, Hears, Sends, Nothing, frame_of, is_heard, is_sent}
use Rattle.ibos_model.specs.Journal.{kind_of}

-- what the device wrote for the frames that came in
abbrev pub written_in : List LogEntry → List (List ℕ)
written_in [] = []
written_in (In frame w ∷ log) = written_in log ++ w ∷ []
written_in (Out sent ∷ log) = written_in log

-- the frames that came in
abbrev pub frames_in : List LogEntry → List (List ℕ)
frames_in [] = []
frames_in (In frame w ∷ log) = frames_in log ++ frame ∷ []
frames_in (Out sent ∷ log) = frames_in log

-- the frames that went out
abbrev pub sent_in : List LogEntry → List (List ℕ)
sent_in [] = []
sent_in (In frame w ∷ log) = sent_in log
sent_in (Out sent ∷ log) = sent_in log ++ sent ∷ []

-- what the newest entry says that the device wrote
abbrev pub newest_in : List LogEntry → List ℕ
newest_in (In frame w ∷ log) = w
newest_in log = []

-- what the device wrote for an act, where the log is then this
abbrev pub got_for : Outcome → List LogEntry → List ℕ
got_for outcome log = if is_heard outcome then newest_in log else []

-- the log after an act of that kind: its frame came and w was written, or b was sent
abbrev pub log_by : Kind → List ℕ → List ℕ → List ℕ → List LogEntry → List LogEntry
log_by Hears frame w b log = In frame w ∷ log
log_by Sends frame w b log = Out b ∷ log
log_by Nothing frame w b log = log

abbrev pub log_after : Outcome → List ℕ → List ℕ → List ℕ → List LogEntry → List LogEntry
log_after outcome = log_by (kind_of outcome)

-- The log where an act of that outcome ran out of memory: as it was, or with the one entry that the
-- act brings. b is the frame that it sends, if it sends one.
abbrev pub Loses : Outcome → Act → List ℕ → List LogEntry → List LogEntry → Type 0
Loses outcome act b log log' = (log' ≡ log)
    ⊎ (((w : List ℕ) × (is_heard outcome ≡ true) × (log' ≡ In (frame_of act) w ∷ log))
    ⊎ ((is_sent outcome ≡ true) × (log' ≡ Out b ∷ log)))
