-- The values of one ring, with no buffer and no memory, and what changes them.
use Rattle.std.specs.Prelude.{ℕ, zero, suc, ◌+◌, List, [], ◌∷◌, ◌++◌, Bool, drop, if◌then◌else◌}
use Rattle.ibos_nic.specs.declared.part.Part.{Part}
use Rattle.ibos_nic.specs.declared.part.Part.TheVariants.{Base, Length, Tail, Control}
use Rattle.ibos_nic.specs.Device.{distance}

-- The descriptors of a ring are numbered from 0 in the order in which they are posted. Number k
-- stands at slot k modulo ring_size.
pub record RingValues : Type 0 where
  -- the values of the ring's base, length and control registers, 0 until they are written
  pub base : ℕ
  pub len : ℕ
  pub control : ℕ
  -- how many descriptors were posted, how many of these the tail lets the device use, and how many
  -- were taken back
  pub posted : ℕ
  pub rung : ℕ
  pub taken : ℕ

-- A change of a ring: a part of its registers is written, a descriptor is posted, the device is
-- done with one, and the oldest is taken back. What is posted is named by an A.
pub data RingChange (A : Type 0) : Type 0 where
  Writes : (part : Part) (value : ℕ) → RingChange A
  Posts : (what : A) → RingChange A
  Completes : RingChange A
  Takes : RingChange A

-- how many descriptors are rung once the tail is at a slot
abbrev pub rung_count : RingValues → ℕ → ℕ
rung_count v tail = v.rung + distance v.rung tail

abbrev pub values_written : Part → ℕ → RingValues → RingValues
values_written Base value v = record v { base = value }
values_written Length value v = record v { len = value }
values_written Control value v = record v { control = value }
values_written Tail value v = record v { rung = rung_count v value }
values_written other value v = v

-- How far the device is, is no value that is kept: a completion changes none.
abbrev pub values_changed : {A : Type 0} → RingValues → RingChange A → RingValues
values_changed v (Writes part value) = values_written part value v
values_changed v (Posts what) = record v { posted = v.posted + 1 }
values_changed v Completes = v
values_changed v Takes = record v { taken = v.taken + 1 }

-- what is posted and not taken back, the oldest first
abbrev pub held_changed : {A : Type 0} → List A → RingChange A → List A
held_changed held (Writes part value) = held
held_changed held (Posts what) = held ++ what ∷ []
held_changed held Completes = held
held_changed held Takes = drop 1 held

-- the first of the next few numbers for which a test fails, or the one behind them
unfoldable pub first_not : (ℕ → Bool) → ℕ → ℕ → ℕ
first_not test number zero = number
first_not test number (suc left) = if test number then first_not test (number + 1) left else number
