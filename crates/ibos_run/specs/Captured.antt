-- A capture of whose file one piece is in memory, and the frames of it that are left.
use Rattle.std.specs.Prelude.{◌≡◌, ◌≤◌, ℕ, ◌+◌, List, [], ◌∷◌, length, take, drop, min}
use Rattle.std.specs.Prelude.{Option, Some, None, Result, Ok, Err}
use Rattle.std.specs.Option.{option_map}
use Rattle.ibos_capture.specs.declared.fault.CaptureFault.{CaptureFault}
use Rattle.ibos_capture.specs.declared.index.Entry.{Entry}
use Rattle.ibos_capture.specs.Captures.{frames_at}
use Rattle.ibos_capture.specs.Reads.{Reads}
use Rattle.ibos_run.specs.Inputs.{frames_in}

-- ---- a piece of a file

-- bytes, and the place of the first
pub record Piece : Type 0 where
  pub place : ℕ
  pub bytes : List ℕ

abbrev pub no_piece : Piece
no_piece = record { place = 0; bytes = [] }

-- the file has them there
abbrev pub IsPieceOf : List ℕ → Piece → Type 0
IsPieceOf file piece = piece.bytes ≡ take (length piece.bytes) (drop piece.place file)

-- the place is that of one of them, or right behind them
pub record IsAt (place : ℕ) (piece : Piece) : Type 0 where
  pub from : piece.place ≤ place
  pub to : place ≤ piece.place + length piece.bytes

-- from the place on it has so many bytes of the file, or all that the file has
pub record Shows (file : List ℕ) (place least : ℕ) (piece : Piece) : Type 0 where
  pub of : IsPieceOf file piece
  pub enough : min (place + least) (length file) ≤ piece.place + length piece.bytes

-- so many more were read behind it; none are at the file's end
pub record ReadsMore (file : List ℕ) (got : ℕ) (piece : Piece) : Type 0 where
  pub of : IsPieceOf file piece
  pub ends : got ≡ 0 → length file ≤ piece.place + length piece.bytes

-- it lies in a window of 65,536 bytes, and begins where a capture may still have bytes
pub record IsFilled (place len room : ℕ) : Type 0 where
  pub limit : place ≤ 67108864
  pub within : len ≤ room
  pub whole : room ≡ 65536

-- ---- a capture

-- the file's name, where its frames lie, how many of them were taken, and the piece in memory
pub record Captured : Type 0 where
  pub name : List ℕ
  pub entries : List Entry
  pub used : ℕ
  pub piece : Piece

-- the file's name, where a capture is named
abbrev pub named : Option Captured → Option (List ℕ)
named capture = option_map (λ c. c.name) capture

-- where a capture is named, this is its file, and the piece is of it
abbrev pub IsHeld : (List ℕ → Option (List ℕ)) → List ℕ → Option Captured → Type 0
IsHeld holds file None = Unit {0}
IsHeld holds file (Some c) = (holds c.name ≡ Some file) × IsPieceOf file c.piece

-- the frames that are left; where no capture is named, there are none
abbrev pub frames_left : List ℕ → Option Captured → List (List ℕ)
frames_left file None = []
frames_left file (Some c) = drop c.used (frames_at file c.entries)

-- the next of them was taken, or none is left
abbrev pub Takes : Option (List ℕ) → List (List ℕ) → List (List ℕ) → Type 0
Takes None left after = (left ≡ []) × (after ≡ [])
Takes (Some frame) left after = left ≡ frame ∷ after

-- what was read of a file is its capture, of which all frames are left, or its first fault
abbrev pub IsReadAs : List ℕ → Result Captured CaptureFault → Type 0
IsReadAs file (Ok c) = (frames_in file ≡ Ok (frames_left file (Some c))) × IsPieceOf file c.piece
IsReadAs file (Err fault) = Reads {T = List (List ℕ)} (Err fault) (frames_in file)
