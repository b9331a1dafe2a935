-- The fields of a line, each read from its word: None where the word is malformed or out of range.
use Rattle.std.specs.Prelude.{ℕ, ◌+◌, ◌*◌, ◌-◌, List, [], ◌∷◌, Bool, ◌&&◌, nat_lt, nat_le, length}
use Rattle.std.specs.Prelude.{take, drop, fold, codes, Option, Some, None, Result, Ok, Err}
use Rattle.std.specs.Prelude.{if◌then◌else◌}
use Rattle.std.specs.Char.{is_digit as is_digit_in}
use Rattle.std.specs.List.{list_all}
use Rattle.std.specs.Str.Parse.{digits_value}
use Rattle.hex.specs.Hex.{decode_of, decode_sized}
use Rattle.hex.specs.declared.error.FromHexError.{FromHexError}
use Rattle.ibos_kinds.specs.declared.names.Instance.{Instance}
use Rattle.ibos_kinds.specs.declared.names.Key.{Key}
use Rattle.ibos_kinds.specs.declared.names.Key.TheVariants.{Byte, Enter, Back}
use Rattle.ibos_text.specs.Parts.{len_before}
use Rattle.ibos_text.specs.Words.{is_word}

abbrev pub is_digit : ℕ → Bool
is_digit b = nat_le 48 b && nat_le b 57

-- the value of decimal digits
abbrev pub value_of : List ℕ → ℕ
value_of digits = fold (λ n b. 10 * n + (b - 48)) 0 digits

-- a decimal number of 1 to 10 digits, below the bound
unfoldable pub number_in : ℕ → List ℕ → Option ℕ
number_in bound word =
    if nat_lt 0 (length word) && nat_le (length word) 10 && list_all is_digit word
    && nat_lt (value_of word) bound
    then Some (value_of word)
    else None

-- 1 to 8 hexadecimal digits
unfoldable pub hex_digits_in : List ℕ → Option ℕ
hex_digits_in digits =
    if nat_lt 0 (length digits) && nat_le (length digits) 8
    && list_all (λ b. is_digit_in b 16) digits
    then Some (digits_value 16 digits)
    else None

-- a register's offset or value: `0x`, and then such digits
unfoldable pub hex_number_in : List ℕ → Option ℕ
hex_number_in word =
    if is_word (codes "0x") (take 2 word) then hex_digits_in (drop 2 word) else None

abbrev pub instance_named : Option ℕ → Option ℕ → Option Instance
instance_named (Some tab) (Some ord) = Some (record { tab = tab; ord = ord })
instance_named tab ord = None

abbrev pub instance_parted : List ℕ → List ℕ → Option Instance
instance_parted tab [] = None
instance_parted tab (dot ∷ ord) = instance_named (number_in 64 tab) (number_in 32 ord)

-- `T.N`: a tab, the first dot, and an ordinal
unfoldable pub instance_in : List ℕ → Option Instance
instance_in word = instance_parted (take (len_before 46 word) word) (drop (len_before 46 word) word)

-- a byte that a key writes
abbrev pub key_named : Result (List ℕ) FromHexError → Option Key
key_named (Ok (byte ∷ [])) = if nat_le 0x20 byte && nat_le byte 0x7e then Some (Byte byte) else None
key_named other = None

-- `enter`, `back`, or two hexadecimal digits from 20 to 7e
unfoldable pub key_in : List ℕ → Option Key
key_in word =
    if is_word (codes "enter") word then Some Enter
    else if is_word (codes "back") word then Some Back
    else key_named (decode_sized word 1)

abbrev pub bytes_named : Result (List ℕ) FromHexError → Option (List ℕ)
bytes_named (Ok bytes) = Some bytes
bytes_named (Err error) = None

-- two hexadecimal digits for each byte, or `-` for none
unfoldable pub hex_in : List ℕ → Option (List ℕ)
hex_in word = if is_word (codes "-") word then Some [] else bytes_named (decode_of word)
