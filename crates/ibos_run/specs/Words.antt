-- Command lines.
use Rattle.std.specs.Prelude.{ℕ, List, [], ◌∷◌, Bool, ◌&&◌, nat_lt, nat_le, bytes_eq, length, codes}
use Rattle.std.specs.Prelude.{Option, Some, None, if◌then◌else◌}
use Rattle.std.specs.List.{list_all}
use Rattle.ibos_fields.specs.Fields.{is_digit, value_of}

-- what words ask for
pub data Form : Type 0 where
  -- `run HOSTS SCRIPT`, or `run HOSTS SCRIPT CAPTURE`: the names of files
  Files : (hosts script : List ℕ) (capture : Option (List ℕ)) → Form
  -- `drill SEED ROUNDS`: numbers
  Rounds : (seed rounds : ℕ) → Form

-- a decimal number of at most so many digits, from the first bound on and below the second
unfoldable pub decimal_in : ℕ → ℕ → ℕ → List ℕ → Option ℕ
decimal_in digits least bound word =
    if nat_lt 0 (length word) && nat_le (length word) digits && list_all is_digit word
    && nat_le least (value_of word) && nat_lt (value_of word) bound
    then Some (value_of word)
    else None

-- a number below 2^64 in 1 to 20 digits, and one from 1 to 100,000 in 1 to 6 digits
abbrev pub seed_in : List ℕ → Option ℕ
seed_in word = decimal_in 20 0 18446744073709551616 word

abbrev pub rounds_in : List ℕ → Option ℕ
rounds_in word = decimal_in 6 1 100001 word

abbrev pub drill_with : Option ℕ → Option ℕ → Option Form
drill_with (Some seed) (Some rounds) = Some (Rounds seed rounds)
drill_with seed rounds = None

abbrev pub drill_form : Bool → List ℕ → List ℕ → Option Form
drill_form is_drill seed rounds =
    if is_drill then drill_with (seed_in seed) (rounds_in rounds) else None

abbrev pub three_words : List ℕ → List ℕ → List ℕ → Option Form
three_words verb second third =
    if bytes_eq verb (codes "run") then Some (Files second third None)
    else drill_form (bytes_eq verb (codes "drill")) second third

abbrev pub four_words : List ℕ → List ℕ → List ℕ → List ℕ → Option Form
four_words verb hosts script capture =
    if bytes_eq verb (codes "run") then Some (Files hosts script (Some capture)) else None

abbrev pub form_in : List (List ℕ) → Option Form
form_in (verb ∷ second ∷ third ∷ []) = three_words verb second third
form_in (verb ∷ hosts ∷ script ∷ capture ∷ []) = four_words verb hosts script capture
form_in words = None

-- the files that a form names, in the order in which they are read
abbrev pub with_capture : Option (List ℕ) → List (List ℕ) → List (List ℕ)
with_capture None names = names
with_capture (Some capture) names = capture ∷ names

abbrev pub files_of : Form → List (List ℕ)
files_of (Files hosts script capture) = hosts ∷ with_capture capture (script ∷ [])
files_of (Rounds seed rounds) = []

-- the line that any other list of words is answered with
unfoldable pub usage_line : List ℕ
usage_line = codes "usage: ibos run HOSTS SCRIPT [CAPTURE] | ibos drill SEED ROUNDS\n"
