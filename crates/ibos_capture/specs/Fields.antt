-- The numbers of a capture, in its byte order.
use Rattle.std.specs.Prelude.{ℕ, List}
use Rattle.byteorder.specs.Endian.{big_number, little_number}
use Rattle.ibos_capture.specs.declared.fields.Endian.{Endian}
use Rattle.ibos_capture.specs.declared.fields.Endian.TheVariants.{Big, Little}

-- the number in the first n bytes, the highest byte first, or the lowest
unfoldable pub number : Endian → ℕ → List ℕ → ℕ
number Big n bytes = big_number n bytes
number Little n bytes = little_number n bytes
