-- What was read of a script, piece by piece, and not yet given as lines.
use Rattle.std.specs.Prelude.{◌≡◌, ◌≤◌, ◌<◌, ◌⊎◌, ℕ, ◌+◌, List, [], ◌++◌, Bool, true, false}
use Rattle.std.specs.Prelude.{◌&&◌, nat_le, nat_lt, length, drop, Option, Some, None}
use Rattle.ibos_text.specs.Lines.{lines_of}
use Rattle.ibos_text.specs.Parts.{len_before}
use Rattle.ibos_run.specs.Readings.{Reading, reading_from}

-- the bytes, how many bytes of the script were read, and whether no more are to be read
pub record Unread : Type 0 where
  pub bytes : List ℕ
  pub place : ℕ
  pub over : Bool

abbrev pub nothing_read : Unread
nothing_read = record { bytes = []; place = 0; over = false }

-- they lie in a window of so many bytes, which holds no more than a script may have and one byte
pub record IsWindow (start end len place : ℕ) (over : Bool) : Type 0 where
  pub ordered : start ≤ end
  pub within : end ≤ len
  pub read : end ≤ place
  pub some : 0 < len
  pub most : len ≤ 67108865
  pub limit : place ≤ 67108865
  pub goes_on : over ≡ false → place ≤ 67108864

-- ---- of a text

-- the bytes of a text that are left
abbrev pub left_of : List ℕ → Unread → List ℕ
left_of text unread = unread.bytes ++ drop unread.place text

-- these were read of that text, and all of it was where no more are to be read
pub record IsReadOf (text : List ℕ) (unread : Unread) : Type 0 where
  pub within : unread.place ≤ length text
  pub over : unread.over ≡ true → length text ≤ unread.place

-- reading on leaves the bytes that are left
abbrev pub ReadsOn : List ℕ → Unread → Unread → Type 0
ReadsOn text old new = IsReadOf text old
    → IsReadOf text new × (left_of text new ≡ left_of text old)

-- a piece was read, or there is no more
pub record Grows (old new : Unread) : Type 0 where
  pub piece : List ℕ
  pub bytes : new.bytes ≡ old.bytes ++ piece
  pub place : new.place ≡ old.place + length piece
  pub some : (0 < length piece) ⊎ (new.over ≡ true)

-- ---- its lines

-- the next line has so many bytes, and its end was read or is that of the text
pub record IsLine (len : ℕ) (unread : Unread) : Type 0 where
  pub some : 0 < length unread.bytes
  pub within : len ≤ length unread.bytes
  pub is : len ≡ len_before 10 unread.bytes
  pub ends : length unread.bytes ≤ len → unread.over ≡ true

-- that is the next line, or none is left
abbrev pub IsFound : Option ℕ → Unread → Type 0
IsFound None unread = (unread.bytes ≡ []) × (unread.over ≡ true)
IsFound (Some len) unread = IsLine len unread

-- what is left behind it
abbrev pub passed : ℕ → Unread → Unread
passed len unread = record {
  bytes = drop (len + 1) unread.bytes;
  place = unread.place;
  over = unread.over;
}

-- it holds the byte after the limit
abbrev pub is_past : ℕ → Unread → Bool
is_past len unread = nat_lt 67108864 unread.place && nat_le (length unread.bytes) (len + 1)

-- what is left of a script behind so many lines, with the frames that are left
abbrev pub reading_after : ℕ → List (List ℕ) → List ℕ → Unread → Reading
reading_after lines frames text unread =
    reading_from (nat_lt 67108864 (length text)) (lines + 1) (lines_of (left_of text unread)) frames
