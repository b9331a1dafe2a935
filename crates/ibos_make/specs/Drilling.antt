-- What holds of each drill, and how it goes on.
use Rattle.std.specs.Prelude.{◌≡◌, ℕ, ◌+◌, ◌-◌, ◌^◌, ◌<◌, ◌≤◌, length, slice_index}
use Rattle.std.specs.Prelude.{◌==◌, if◌then◌else◌}
use Rattle.ibos_make.specs.declared.rounds.Counts.{Counts}
use Rattle.ibos_make.specs.declared.rounds.Round.{Round}
use Rattle.ibos_make.specs.Drill.{Drilling, round_acts, after_round, next_number, drawn, kind_of}
use Rattle.ibos_make.specs.Drill.{tab_of, byte_of}

-- so many more of each that is counted have a number of 32 bits
pub record HasRoom (c : Counts) (rounds : ℕ) : Type 0 where
  pub received : c.received + rounds < 2 ^ 32
  pub sent : c.sent + rounds < 2 ^ 32
  pub asked : (t : ℕ) → slice_index c.asked t + rounds < 2 ^ 32
  pub versions : (place : ℕ) → slice_index c.versions place + rounds < 2 ^ 32

-- a drill is within its opening acts and within its round, and never runs out of numbers
pub record IsWithin (d : Drilling) : Type 0 where
  pub opening : d.opening ≤ 86
  pub place : d.place < length (round_acts d.counts)
  pub room : HasRoom d.counts d.rounds

-- what a round is about, as its number has it
pub record IsDrawn (round : Round) (c : Counts) : Type 0 where
  pub kind : round.kind ≡ kind_of (drawn (next_number c.number))
  pub tab : round.tab ≡ tab_of (drawn (next_number c.number))
  pub byte : round.byte ≡ byte_of (drawn (next_number c.number))
  pub below : round.tab < 8

-- after one more act of a round
abbrev pub next_in : Drilling → Drilling
next_in d =
    if d.place + 1 == length (round_acts d.counts)
    then record d { rounds = d.rounds - 1; place = 0; counts = after_round d.counts }
    else record d { place = d.place + 1 }
