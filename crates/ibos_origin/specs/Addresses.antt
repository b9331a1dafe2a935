-- IPv4 and MAC addresses, as texts.
use Rattle.std.specs.Prelude.{ℕ, ◌+◌, ◌*◌, List, Bool, ◌==◌, ◌&&◌, nat_lt, length, map, fold}
use Rattle.std.specs.Prelude.{bytes_eq, decimal, Option, Some, None, if◌then◌else◌}
use Rattle.std.specs.Char.{is_digit}
use Rattle.std.specs.List.{list_all}
use Rattle.std.specs.Str.Parse.{digits_value}
use Rattle.ibos_text.specs.Parts.{parts_of}

-- the number of these bytes, the first the highest
abbrev pub big_endian : List ℕ → ℕ
big_endian bytes = fold (λ number byte. number * 256 + byte) 0 bytes

-- a decimal number below 256 without leading zeros
abbrev pub is_octet : List ℕ → Bool
is_octet part = nat_lt (digits_value 10 part) 256 && bytes_eq part (decimal (digits_value 10 part))

-- four such numbers with a dot between each two
unfoldable pub addr_in : List ℕ → Option ℕ
addr_in word =
    let octets = parts_of 46 word in
    if length octets == 4 && list_all is_octet octets
    then Some (big_endian (map (digits_value 10) octets)) else None

-- two hexadecimal digits of either case
abbrev pub is_pair : List ℕ → Bool
is_pair part = length part == 2 && list_all (λ b. is_digit b 16) part

-- six such pairs with a colon between each two
unfoldable pub mac_in : List ℕ → Option ℕ
mac_in word =
    let pairs = parts_of 58 word in
    if length pairs == 6 && list_all is_pair pairs
    then Some (big_endian (map (digits_value 16) pairs)) else None
