-- What a key is for a page, and what it makes of the entry line.
use Rattle.std.specs.Prelude.{ℕ, ◌-◌, List, [], ◌∷◌, ◌++◌, nat_lt, length, take, Option, Some, None}
use Rattle.std.specs.Prelude.{if◌then◌else◌}
use Rattle.ibos_kinds.specs.declared.names.Key.{Key}
use Rattle.ibos_kinds.specs.declared.names.Key.TheVariants.{Byte, Enter, Back}
use Rattle.ibos_kinds.specs.declared.rule.Rule.{Rule}
use Rattle.ibos_kinds.specs.declared.rule.Rule.TheVariants.{U11}

-- the byte that a page is told of a key: Enter is a line feed, Back a backspace
abbrev pub key_byte : Key → ℕ
key_byte (Byte byte) = byte
key_byte Enter = 0x0a
key_byte Back = 0x08

-- the entry line holds so many bytes
abbrev pub max_entry_bytes : ℕ
max_entry_bytes = 1024

-- a byte that finds no room in the entry line is refused
abbrev pub key_breaks : List ℕ → Key → Option Rule
key_breaks entry (Byte byte) = if nat_lt (length entry) max_entry_bytes then None else Some U11
key_breaks entry Enter = None
key_breaks entry Back = None

-- the entry line after a key that is not refused: Back takes the last byte, if there is one
abbrev pub typed : List ℕ → Key → List ℕ
typed entry (Byte byte) = entry ++ byte ∷ []
typed entry Enter = entry
typed entry Back = take (length entry - 1) entry
