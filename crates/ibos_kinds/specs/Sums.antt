-- Internet checksums (RFC 1071): sums of 16-bit words in ones' complement arithmetic.
use Rattle.std.specs.Prelude.{ℕ, ◌+◌, ◌-◌, ◌*◌, ◌%◌, ◌==◌, if◌then◌else◌, List, [], ◌∷◌}

-- the plain sum of the words in some bytes, the first byte of each word the higher; an odd last
-- byte is padded by zero
abbrev pub plain_sum : List ℕ → ℕ
plain_sum [] = 0
plain_sum (a ∷ []) = 256 * a
plain_sum (a ∷ b ∷ rest) = 256 * a + b + plain_sum rest

-- a plain sum in 16 bits: what carries out at the high end is added in at the low end
abbrev pub carried : ℕ → ℕ
carried total = if total == 0 then 0 else 1 + (total - 1) % 65535

-- the ones' complement sum of a word and of the words in some bytes
unfoldable pub sum_words : ℕ → List ℕ → ℕ
sum_words start bytes = carried (start + plain_sum bytes)

-- the checksum of some bytes: the complement of their sum
unfoldable pub sum16 : List ℕ → ℕ
sum16 bytes = 65535 - sum_words 0 bytes
