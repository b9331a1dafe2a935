-- Cookies: the text of a set, its rules, and the jar that it makes (RFC 6265, section 4.1.1).
use Rattle.std.specs.Prelude.{ℕ, ◌+◌, ◌-◌, List, [], ◌∷◌, ◌++◌, Bool, ◌==◌, ◌&&◌, ◌||◌, not, nat_lt}
use Rattle.std.specs.Prelude.{nat_le, sum_by, length, take, drop, slice_index, bytes_eq, codes}
use Rattle.std.specs.Prelude.{Option, Some, None, if◌then◌else◌}
use Rattle.std.specs.List.{list_all}
use Rattle.ibos_kinds.specs.declared.cookies.Cookie.{Cookie}
use Rattle.ibos_kinds.specs.declared.rule.Rule.{Rule}
use Rattle.ibos_kinds.specs.declared.rule.Rule.TheVariants.{C1, C2, C3}

-- how many bytes stand before the first equals sign
abbrev pub name_len : List ℕ → ℕ
name_len [] = 0
name_len (b ∷ bytes) = if b == 61 then 0 else name_len bytes + 1

-- the name is what precedes the first equals sign; without one it is empty
unfoldable pub name_in : List ℕ → List ℕ
name_in text = if nat_lt (name_len text) (length text) then take (name_len text) text else []

-- the value is what follows the first equals sign
unfoldable pub value_in : List ℕ → List ℕ
value_in text = if nat_lt (name_len text) (length text) then drop (name_len text + 1) text else text

abbrev pub cookie_in : List ℕ → Cookie
cookie_in text = record { name = name_in text; value = value_in text }

abbrev pub is_letter : ℕ → Bool
is_letter b = (nat_le 65 b && nat_le b 90) || (nat_le 97 b && nat_le b 122)

abbrev pub is_digit : ℕ → Bool
is_digit b = nat_le 48 b && nat_le b 57

-- ! # $ % & ' * + - . ^ _ ` | ~
abbrev pub is_mark : ℕ → Bool
is_mark b = b == 33 || (nat_le 35 b && nat_le b 39) || b == 42 || b == 43 || b == 45 || b == 46
    || (nat_le 94 b && nat_le b 96) || b == 124 || b == 126

abbrev pub is_token_byte : ℕ → Bool
is_token_byte b = is_letter b || is_digit b || is_mark b

-- a token: one or more letters, digits and marks
unfoldable pub is_token : List ℕ → Bool
is_token name = nat_lt 0 (length name) && list_all is_token_byte name

-- a printable byte but the space, the double quote, the comma, the semicolon and the backslash
abbrev pub is_cookie_octet : ℕ → Bool
is_cookie_octet b = b == 33 || (nat_le 35 b && nat_le b 43) || (nat_le 45 b && nat_le b 58)
    || (nat_le 60 b && nat_le b 91) || (nat_le 93 b && nat_le b 126)

-- the text begins and ends in double quotes, which are two
abbrev pub is_quoted : List ℕ → Bool
is_quoted text = nat_le 2 (length text) && slice_index text 0 == 34
    && slice_index text (length text - 1) == 34

abbrev pub unquoted : List ℕ → List ℕ
unquoted text = if is_quoted text then take (length text - 2) (drop 1 text) else text

-- a value: cookie octets, or cookie octets between two double quotes
unfoldable pub is_value : List ℕ → Bool
is_value value = list_all is_cookie_octet (unquoted value)

-- a jar after one more set: the name keeps its place and gets the value, or is the last
abbrev pub put : Cookie → List Cookie → List Cookie
put set [] = set ∷ []
put set (cookie ∷ cookies) = if bytes_eq set.name cookie.name then set ∷ cookies else cookie
    ∷ put set cookies

-- names and values together
abbrev pub jar_bytes : List Cookie → ℕ
jar_bytes cookies = sum_by (λ c. length c.name + length c.value) cookies

-- the jar passes a limit: 20 cookies, or 4,096 bytes of names and values
unfoldable pub is_over : List Cookie → Bool
is_over cookies = nat_lt 20 (length cookies) || nat_lt 4096 (jar_bytes cookies)

-- the first rule that a set breaks, over the jar of its origin
unfoldable pub set_breaks : List ℕ → List Cookie → Option Rule
set_breaks text cookies =
    if not (is_token (name_in text)) then Some C1
    else if not (is_value (value_in text)) then Some C2
    else if is_over (put (cookie_in text) cookies) then Some C3
    else None

abbrev pub pair_text : Cookie → List ℕ
pair_text c = c.name ++ codes "=" ++ c.value

-- the cookies as one text: the pairs, joined by a semicolon and a space
unfoldable pub jar_text : List Cookie → List ℕ
jar_text [] = []
jar_text (c ∷ []) = pair_text c
jar_text (c ∷ d ∷ cookies) = pair_text c ++ codes "; " ++ jar_text (d ∷ cookies)
