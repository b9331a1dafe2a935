-- What a capture is (pcap 2.4): its header, and its entries one after the other.
use Rattle.std.specs.Prelude.{◌≡◌, ◌≤◌, ◌⊎◌, ◌↔◌, ℕ, List, [], ◌∷◌, ◌++◌, length, drop, Ok}
use Rattle.ibos_kinds.specs.Frames.{IsBytes}
use Rattle.ibos_capture.specs.declared.fields.Endian.{Endian}
use Rattle.ibos_capture.specs.Fields.{number}
use Rattle.ibos_capture.specs.Captures.{capture_in}

-- The bytes are entries with these frames: each has a time, the captured length, the original
-- length and the frame.
pub data Entries (endian : Endian) : List ℕ → List (List ℕ) → Type 0 where
  Nothing : Entries endian [] []
  Before : (time captured original frame rest : List ℕ) (frames : List (List ℕ))
      (time_len : length time ≡ 8) (captured_len : length captured ≡ 4)
      (original_len : length original ≡ 4) (says : number endian 4 captured ≡ length frame)
      (fits : length frame ≤ 262144) (behind : Entries endian rest frames)
      → Entries endian (time ++ captured ++ original ++ frame ++ rest) (frame ∷ frames)

-- The header's fields, in a byte order: magic number, version 2.4, link type Ethernet.
pub record HasHeader (endian : Endian) (bytes : List ℕ) : Type 0 where
  pub len : 24 ≤ length bytes
  pub magic : (number endian 4 bytes ≡ 0xA1B2C3D4) ⊎ (number endian 4 bytes ≡ 0xA1B23C4D)
  pub major : number endian 2 (drop 4 bytes) ≡ 2
  pub minor : number endian 2 (drop 6 bytes) ≡ 4
  pub link : number endian 4 (drop 20 bytes) ≡ 1

-- The bytes are a capture with these frames.
pub record IsCapture (bytes : List ℕ) (frames : List (List ℕ)) : Type 0 where
  pub limit : length bytes ≤ 67108864
  -- the byte order of all fields
  pub endian : Endian
  pub header : HasHeader endian bytes
  pub entries : Entries endian (drop 24 bytes) frames

-- captures, and nothing else, are read without a fault, and give their frames
abbrev pub IsWholeGrammar : Type 0
IsWholeGrammar =
    (bytes : List ℕ) (frames : List (List ℕ)) → IsBytes bytes →
    (capture_in bytes ≡ Ok frames) ↔ IsCapture bytes frames
