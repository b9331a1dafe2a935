-- How origins and names are hashed.
use Rattle.std.specs.Prelude.{ℕ, ◌+◌, ◌*◌, ◌%◌, ◌^◌, List, fold, bit_xor}
use Rattle.std.specs.Int.{rotate_left, w64}
use Rattle.ibos_text.specs.declared.hash.TextHasher.{TextHasher}

-- the bytes of one write as a number
abbrev pub number_of : List ℕ → ℕ
number_of bytes = fold (λ n b. (n * 256 + b) % 2 ^ 64) 0 bytes

-- the state after one write
abbrev pub write : TextHasher → List ℕ → TextHasher
write s bytes = record { state = bit_xor (rotate_left w64 s.state 7) (number_of bytes) }

-- what a state tells
abbrev pub finish : TextHasher → ℕ
finish s = (s.state * 0x9e3779b97f4a7c15) % 2 ^ 64
