-- Journals: what was done, and what came of it. The host table of the run stands beside the
-- journal.
use Rattle.std.specs.Prelude.{ℕ, List, [], ◌∷◌, ◌++◌, Bool, true, false, if◌then◌else◌}
pub use Rattle.ibos_kinds.specs.Parties.{same}
use Rattle.ibos_kinds.specs.declared.act.Act.{Act}
use Rattle.ibos_kinds.specs.declared.outcome.Head.{Head}
use Rattle.ibos_kinds.specs.declared.outcome.Head.TheVariants.{Ok, Denied}
use Rattle.ibos_kinds.specs.declared.act.Act.TheVariants.{WireIn}
use Rattle.ibos_kinds.specs.declared.names.Verdict.TheVariants.{Heard}
use Rattle.ibos_kinds.specs.declared.outcome.Item.{Item}
use Rattle.ibos_kinds.specs.declared.outcome.Item.TheVariants.{SentIs, VerdictIs}
use Rattle.ibos_kinds.specs.declared.outcome.Outcome.{Outcome}

-- an act, what came of it, and what the device wrote where a frame was heard
pub record Entry : Type 0 where
  pub act : Act
  pub outcome : Outcome
  pub written : List ℕ

-- the newest entry is the first
abbrev pub Journal : Type 0
Journal = List Entry

abbrev pub is_ok : Head → Bool
is_ok Ok = true
is_ok (Denied rule) = false

abbrev pub is_accepted : Entry → Bool
is_accepted e = is_ok e.outcome.head

-- what an act has to do with the device's log: its frame was heard, one was sent, or nothing of
-- these
pub data Kind : Type 0 where
  Hears : Kind
  Sends : Kind
  Nothing : Kind

abbrev pub kind_in : List Item → Kind
kind_in (VerdictIs Heard ∷ items) = Hears
kind_in (SentIs send ∷ items) = Sends
kind_in items = Nothing

abbrev pub kind_of : Outcome → Kind
kind_of outcome = kind_in outcome.items

abbrev pub hears : Kind → Bool
hears Hears = true
hears other = false

-- the frame of the act was heard
abbrev pub is_heard : Outcome → Bool
is_heard outcome = hears (kind_of outcome)

abbrev pub transmits : Kind → Bool
transmits Sends = true
transmits other = false

-- a frame was sent
abbrev pub is_sent : Outcome → Bool
is_sent outcome = transmits (kind_of outcome)

-- one more of a list, where the frame was heard
abbrev pub if_heard : {A : Type 0} → Outcome → A → List A
if_heard outcome x = if is_heard outcome then x ∷ [] else []

-- the acts, in order
abbrev pub acts : Journal → List Act
acts [] = []
acts (e ∷ J) = acts J ++ e.act ∷ []

-- what the device wrote for each frame heard, in order
abbrev pub heard : Journal → List (List ℕ)
heard [] = []
heard (e ∷ J) = heard J ++ if_heard e.outcome e.written

-- the frame that came
abbrev pub frame_of : Act → List ℕ
frame_of (WireIn frame) = frame
frame_of other = []

-- the frames heard, as they came
abbrev pub frames : Journal → List (List ℕ)
frames [] = []
frames (e ∷ J) = frames J ++ if_heard e.outcome (frame_of e.act)
