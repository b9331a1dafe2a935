-- What each line of the host table says.
use Rattle.std.specs.Prelude.{ℕ, List, [], ◌∷◌, Bool, true, ◌==◌, ◌&&◌, ◌||◌, nat_lt, nat_le}
use Rattle.std.specs.Prelude.{length, bytes_eq, codes, Option, Some, None, option_map}
use Rattle.std.specs.Prelude.{if◌then◌else◌}
use Rattle.std.specs.List.{list_all}
use Rattle.ibos_text.specs.Words.{words_of}
use Rattle.ibos_origin.specs.Addresses.{addr_in, mac_in}

pub data HostLine : Type 0 where
  Nothing : HostLine
  Own : (addr mac : ℕ) → HostLine
  Gateway : (mac : ℕ) → HostLine
  Named : (name : List ℕ) (addr : ℕ) → HostLine

-- `a` to `z`, `0` to `9`, `-`, `.` and `_`
abbrev pub is_name_byte : ℕ → Bool
is_name_byte b = (nat_le 97 b && nat_le b 122) || (nat_le 48 b && nat_le b 57) || b == 45 || b == 46
    || b == 95

-- 1 to 253 such bytes
abbrev pub is_name : List ℕ → Bool
is_name word = nat_lt 0 (length word) && nat_le (length word) 253 && list_all is_name_byte word

-- the word, if there is one word
abbrev pub only_word : List (List ℕ) → Option (List ℕ)
only_word (word ∷ []) = Some word
only_word words = None

-- behind `self`: ADDR MAC
abbrev pub own_of : Option ℕ → Option ℕ → Option HostLine
own_of (Some addr) (Some mac) = Some (Own addr mac)
own_of addr mac = None

abbrev pub own_in : List (List ℕ) → Option HostLine
own_in (addr ∷ mac ∷ []) = own_of (addr_in addr) (mac_in mac)
own_in words = None

-- behind `gateway`: MAC
abbrev pub gateway_in : List (List ℕ) → Option HostLine
gateway_in (mac ∷ []) = option_map Gateway (mac_in mac)
gateway_in words = None

-- behind `host`: NAME ADDR
abbrev pub named_in : List (List ℕ) → Option HostLine
named_in (name ∷ addr ∷ []) = if is_name name then option_map (Named name) (addr_in addr) else None
named_in words = None

unfoldable pub host_line_by : List (List ℕ) → Option HostLine
host_line_by [] = None
host_line_by (command ∷ words) =
    if bytes_eq command (codes "self") then own_in words
    else if bytes_eq command (codes "gateway") then gateway_in words
    else if bytes_eq command (codes "host") then named_in words
    else None

-- an empty line, or one that begins with `#`
abbrev pub is_passed_over : List ℕ → Bool
is_passed_over [] = true
is_passed_over (b ∷ bytes) = b == 35

-- what a line says, if it has one of the forms
unfoldable pub host_line_in : List ℕ → Option HostLine
host_line_in line = if is_passed_over line then Some Nothing else host_line_by (words_of line)
