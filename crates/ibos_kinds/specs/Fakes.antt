-- A cabinet and a sink in memory, and what each call changes of them.
use Rattle.std.specs.Prelude.{ℕ, ◌+◌, ◌-◌, ◌^◌, min, List, [], ◌++◌, take, Option, Result, Ok, Err}
use Rattle.std.specs.Prelude.{is_some, bytes_eq, find, option_map, if◌then◌else◌}
use Rattle.ibos_kinds.specs.declared.outside.Failed.{Failed}
use Rattle.ibos_kinds.specs.declared.fakes.File.{File}

pub record Files : Type 0 where
  pub files : List File
  -- the numbers of the reads that are to fail
  pub fails : List ℕ
  pub calls : ℕ
  -- the most that a read gives
  pub most : ℕ
  pub held_faults : ℕ
  pub other_faults : ℕ

-- the bytes of the first file of that name
abbrev pub file_named : List File → List ℕ → Option (List ℕ)
file_named files name = option_map (λ file.
    file.bytes) (find (λ file. bytes_eq file.name name) files)

abbrev pub faults_of : Files → List ℕ → ℕ
faults_of m name = if is_some (file_named m.files name) then m.held_faults else m.other_faults

abbrev pub no_files : Files
no_files = record {
  files = [];
  fails = [];
  calls = 0;
  most = 2 ^ 32 - 1;
  held_faults = 0;
  other_faults = 0;
}

-- a count that rises, and stands still at its type's end
abbrev pub risen : ℕ → ℕ
risen n = min (n + 1) (2 ^ 64 - 1)

-- a failed read raises the count of its kind of name
abbrev pub after_read : Files → List ℕ → Result ℕ Failed → Files
after_read m name (Ok got) = record m { calls = risen m.calls }
after_read m name (Err e) = record m {
  calls = risen m.calls;
  held_faults = if is_some (file_named m.files name) then risen m.held_faults else m.held_faults;
  other_faults = if is_some (file_named m.files name) then m.other_faults else risen m.other_faults;
}

pub record Taken : Type 0 where
  pub bytes : List ℕ
  pub fails : List ℕ
  pub calls : ℕ
  pub most : ℕ
  pub room : ℕ
  pub faults : ℕ

abbrev pub no_bytes : ℕ → Taken
no_bytes room = record {
  bytes = [];
  fails = [];
  calls = 0;
  most = 2 ^ 32 - 1;
  room = room;
  faults = 0;
}

abbrev pub after_write : Taken → List ℕ → Result ℕ Failed → Taken
after_write m bytes (Ok took) = record m {
  bytes = m.bytes
      ++ take took bytes;
  calls = risen m.calls;
  room = m.room - took;
}
after_write m bytes (Err e) = record m { calls = risen m.calls; faults = risen m.faults }
