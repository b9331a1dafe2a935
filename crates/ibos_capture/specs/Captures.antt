-- Captures of frames (pcap 2.4). The header has 24 bytes: magic number, major and minor version,
-- zone, accuracy of times, snapshot length, link type. Each entry has 16 bytes, which are seconds,
-- fraction, captured length and original length, and then its captured bytes.
use Rattle.std.specs.Prelude.{ℕ, zero, suc, ◌+◌, ◌≤◌, ◌==◌, nat_lt, Bool, not, ◌&&◌, ◌||◌, List, []}
use Rattle.std.specs.Prelude.{◌∷◌, length, drop, map, slice_range, Option, Some, None, Result, Ok}
use Rattle.std.specs.Prelude.{Err, if◌then◌else◌}
use Rattle.ibos_capture.specs.declared.fault.CapFault.{CapFault}
use Rattle.ibos_capture.specs.declared.fault.CapFault.TheVariants.{Magic, Link, Version, Cut, Long}
use Rattle.ibos_capture.specs.declared.fault.CapFault.TheVariants.{TooLong}
use Rattle.ibos_capture.specs.declared.fields.Endian.{Endian}
use Rattle.ibos_capture.specs.declared.fields.Endian.TheVariants.{Big, Little}
use Rattle.ibos_capture.specs.declared.index.Entry.{Entry}
use Rattle.ibos_capture.specs.Fields.{number}

-- The header

-- with times in microseconds, or in nanoseconds
abbrev pub is_magic : ℕ → Bool
is_magic n = n == 0xA1B2C3D4 || n == 0xA1B23C4D

-- the byte order in which the first four bytes are a magic number
unfoldable pub endian_of : List ℕ → Option Endian
endian_of bytes =
    if nat_lt (length bytes) 4 then None
    else if is_magic (number Big 4 bytes) then Some Big
    else if is_magic (number Little 4 bytes) then Some Little
    else None

abbrev pub is_version : Endian → List ℕ → Bool
is_version endian bytes =
    number endian 2 (drop 4 bytes) == 2 && number endian 2 (drop 6 bytes) == 4

abbrev pub is_ethernet : Endian → List ℕ → Bool
is_ethernet endian bytes = number endian 4 (drop 20 bytes) == 1

abbrev pub header_with : Option Endian → List ℕ → Result Endian CapFault
header_with None bytes = Err Magic
header_with (Some endian) bytes =
    if nat_lt (length bytes) 24 then Err Cut
    else if not (is_version endian bytes) then Err Version
    else if not (is_ethernet endian bytes) then Err Link
    else Ok endian

-- the byte order of all fields, or the header's first fault
unfoldable pub header_in : List ℕ → Result Endian CapFault
header_in bytes =
    if nat_lt 67108864 (length bytes) then Err TooLong
    else header_with (endian_of bytes) bytes

-- Entries

-- how many captured bytes an entry has, or its first fault: of the bytes from the entry on
abbrev pub captured_by : ℕ → List ℕ → Result ℕ CapFault
captured_by len rest =
    if nat_lt 262144 len then Err Long
    else if nat_lt (length rest) (16 + len) then Err Cut
    else Ok len

unfoldable pub captured_len : Endian → List ℕ → Result ℕ CapFault
captured_len endian rest =
    if nat_lt (length rest) 16 then Err Cut
    else captured_by (number endian 4 (drop 8 rest)) rest

-- where an entry's captured bytes lie, and how many there are
abbrev pub entry : ℕ → ℕ → Entry
entry place len = record { place = place; len = len }

-- an entry before those behind it
abbrev pub with_entry : Entry → Result (List Entry) (ℕ × CapFault)
    → Result (List Entry) (ℕ × CapFault)
with_entry first (Ok entries) = Ok (first ∷ entries)
with_entry first (Err fault) = Err fault

abbrev pub entry_then : ℕ → ℕ → Result ℕ CapFault
    → (ℕ → Result (List Entry) (ℕ × CapFault)) → Result (List Entry) (ℕ × CapFault)
entry_then n place (Ok len) behind = with_entry (entry (place + 16) len) (behind len)
entry_then n place (Err fault) behind = Err (n, fault)

-- The entries from a place on, or the first fault with its entry's number; the first has the number
-- n, and there are at most `most`.
unfoldable pub entries_from : Endian → ℕ → ℕ → ℕ → List ℕ → Result (List Entry) (ℕ × CapFault)
entries_from endian zero n place rest = Ok []
entries_from endian (suc most) n place [] = Ok []
entries_from endian (suc most) n place (b ∷ rest) =
    entry_then n place (captured_len endian (b ∷ rest))
    (λ len. entries_from endian most (n + 1) (place + 16 + len) (drop (16 + len) (b ∷ rest)))

-- all entries: there are not more than bytes
abbrev pub entries_in : Endian → List ℕ → Result (List Entry) (ℕ × CapFault)
entries_in endian bytes = entries_from endian (length bytes) 1 24 (drop 24 bytes)

abbrev pub index_with : Result Endian CapFault → List ℕ → Result (List Entry) (ℕ × CapFault)
index_with (Ok endian) bytes = entries_in endian bytes
index_with (Err fault) bytes = Err (0, fault)

-- where the frames lie, or the first fault with its entry's number, which is 0 in the header
unfoldable pub index_in : List ℕ → Result (List Entry) (ℕ × CapFault)
index_in bytes = index_with (header_in bytes) bytes

-- Frames

abbrev pub frame_at : List ℕ → Entry → List ℕ
frame_at bytes entry = slice_range bytes entry.place (entry.place + entry.len)

abbrev pub frames_at : List ℕ → List Entry → List (List ℕ)
frames_at bytes entries = map (frame_at bytes) entries

abbrev pub capture_with : List ℕ → Result (List Entry) (ℕ × CapFault)
    → Result (List (List ℕ)) (ℕ × CapFault)
capture_with bytes (Ok entries) = Ok (frames_at bytes entries)
capture_with bytes (Err fault) = Err fault

-- the frames of a capture in their order, or the first fault with its entry's number
unfoldable pub capture_in : List ℕ → Result (List (List ℕ)) (ℕ × CapFault)
capture_in bytes = capture_with bytes (index_in bytes)

-- the captured bytes are in the file
abbrev pub IsWithin : List ℕ → Entry → Type 0
IsWithin bytes entry = entry.place + entry.len ≤ length bytes
