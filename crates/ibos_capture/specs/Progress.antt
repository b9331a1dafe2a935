-- How far a capture was read, header by header.
use Rattle.std.specs.Prelude.{◌≡◌, ◌≤◌, ◌<◌, ℕ, ◌+◌, ◌*◌, ◌^◌, nat_lt, List, [], ◌∷◌, ◌++◌}
use Rattle.std.specs.Prelude.{length, take}
use Rattle.std.specs.Prelude.{drop, Result, Ok, Err, if◌then◌else◌}
use Rattle.std.specs.List.{All}
use Rattle.ibos_capture.specs.declared.fault.CapFault.{CapFault}
use Rattle.ibos_capture.specs.declared.fault.CapFault.TheVariants.{Cut, Long}
use Rattle.ibos_capture.specs.declared.fields.Endian.{Endian}
use Rattle.ibos_capture.specs.declared.index.Entry.{Entry}
use Rattle.ibos_capture.specs.Fields.{number}
use Rattle.ibos_capture.specs.Captures.{entry, entries_from, index_in}

-- the byte order, the place of the next entry, and where the frames before it lie
pub record Progress : Type 0 where
  pub endian : Endian
  pub place : ℕ
  pub entries : List Entry

-- of the file's bytes from a place on the first n, or all of them where there are fewer
abbrev pub IsFront : List ℕ → ℕ → ℕ → List ℕ → Type 0
IsFront file place n front = front ≡ take n (drop place file)

-- how many captured bytes an entry's header says that it has, or the header's fault
abbrev pub said_by : ℕ → Result ℕ CapFault
said_by len = if nat_lt 262144 len then Err Long else Ok len

unfoldable pub said_len : Endian → List ℕ → Result ℕ CapFault
said_len endian header =
    if nat_lt (length header) 16 then Err Cut else said_by (number endian 4 (drop 8 header))

-- entries before those behind them, or the first fault
abbrev pub with_entries : List Entry → Result (List Entry) (ℕ × CapFault)
    → Result (List Entry) (ℕ × CapFault)
with_entries front (Ok entries) = Ok (front ++ entries)
with_entries front (Err fault) = Err fault

-- What is read of the file are the entries before the place, and then those from there on.
pub record IsReadTo (file : List ℕ) (p : Progress) : Type 0 where
  pub place : p.place ≤ length file
  pub limit : length file ≤ 67108864
  pub most : ℕ
  pub enough : length file ≤ p.place + most
  pub entries : index_in file ≡ with_entries p.entries
      (entries_from p.endian most (length p.entries + 1) p.place (drop p.place file))

-- the header of the entry at the place is in the file, and says that so many bytes were captured
abbrev pub HasNext : List ℕ → Progress → ℕ → Type 0
HasNext file p len = said_len p.endian (drop p.place file) ≡ Ok len

-- behind an entry with so many
abbrev pub behind : ℕ → Progress → Progress
behind len p = record {
  endian = p.endian;
  place = p.place + 16 + len;
  entries = p.entries ++ entry (p.place + 16) len ∷ [];
}

-- all captured bytes lie before a place
abbrev pub AreBefore : ℕ → List Entry → Type 0
AreBefore place entries = All (λ e. e.place + e.len ≤ place) entries

pub record IsProgress (place : ℕ) (entries : List Entry) : Type 0 where
  pub limit : place ≤ 67108864
  pub few : 24 + 16 * length entries ≤ place
  pub before : AreBefore place entries

pub record IsIndex (entries : List Entry) : Type 0 where
  pub few : length entries < 2 ^ 32
  pub before : AreBefore 67108864 entries
