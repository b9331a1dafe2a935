-- What a cabinet of files and a sink of bytes do.
use Rattle.std.specs.Prelude.{ℕ, ◌≡◌, ◌+◌, ◌-◌, ◌^◌, ◌<◌, ◌≤◌, min, List, [], ◌++◌, length, take}
use Rattle.std.specs.Prelude.{drop, Option, option_map, Result, Ok, Err, OnErr}
use Rattle.ibos_kinds.specs.declared.outside.Failed.{Failed}

-- a count went up, or stands at its end
abbrev pub Rose : ℕ → ℕ → Type 0
Rose before now = min (before + 1) (2 ^ 64 - 1) ≤ now

-- a count that falls never, and has risen where the call failed
pub record HasCause {T E : Type 0} (before now : ℕ) (result : Result T E) : Type 0 where
  pub later : before ≤ now
  pub failed : OnErr result (Rose before now)

-- a read from a place put this many of the file's bytes at the front
pub record ReadsFrom (file : List ℕ) (place got : ℕ) (into : List ℕ) : Type 0 where
  pub front : take got into ≡ take got (drop place file)
  pub within : got ≤ length file - place
  pub ends : got ≡ 0 → 0 < length into → length file ≤ place

-- a write took some of the front, one byte at least if there was one
pub record TakesFront (len took : ℕ) : Type 0 where
  pub within : took ≤ len
  pub some : 0 < len → 0 < took

-- what was taken in a write
abbrev pub front_taken : Result ℕ Failed → List ℕ → List ℕ
front_taken (Ok n) bytes = take n bytes
front_taken (Err e) bytes = []

abbrev pub taken_after : Option (List ℕ) → List ℕ → Option (List ℕ)
taken_after before more = option_map (λ bytes. bytes ++ more) before
