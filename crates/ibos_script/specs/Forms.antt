-- What stands behind the words that name actor and command: the fields of an act, in the order in
-- which the act has them.
use Rattle.std.specs.Prelude.{ℕ, List, Bool, true, not, ◌&&◌, Option, Some, None, Result, Ok, Err}
use Rattle.std.specs.Prelude.{if◌then◌else◌}
use Rattle.ibos_kinds.specs.declared.act.Act.{Act}
use Rattle.ibos_kinds.specs.declared.names.Instance.{Instance}
use Rattle.ibos_kinds.specs.declared.names.Key.{Key}
use Rattle.ibos_script.specs.declared.fault.LineFault.{LineFault}
use Rattle.ibos_script.specs.declared.fault.LineFault.TheVariants.{Count, Number, Hex}
use Rattle.ibos_script.specs.declared.lines.Line.{Line}
use Rattle.ibos_script.specs.declared.lines.Line.TheVariants.{Act as ActLine}
use Rattle.ibos_text.specs.Words.{after_spaces, first_word, after_word, has_word}
use Rattle.ibos_fields.specs.Fields.{number_in, hex_number_in, instance_in, key_in, hex_in}

-- The fields that an A wants to be an act.
pub record Fields (A : Type 0) : Type 0 where
  -- whether the right number of words stands there
  pub counts : List ℕ → Bool
  -- the act, or its first fault from left to right
  pub reads : A → List ℕ → Result Line LineFault

-- a field that was read, and then what follows from it
abbrev pub read_field : {A : Type 0} → LineFault → Option A → (A → Result Line LineFault)
    → Result Line LineFault
read_field fault None next = Err fault
read_field fault (Some x) next = next x

-- no field, and no word
abbrev pub nothing : Fields Act
nothing = record { counts = λ line. not (has_word line); reads = λ act line. Ok (ActLine act) }

-- the rest of the line after its first spaces, which may be empty
abbrev pub rest : Fields (List ℕ → Act)
rest = record { counts = λ line. true; reads = λ act line. Ok (ActLine (act (after_spaces line))) }

-- one word, and then more fields
abbrev pub field : {A B : Type 0} → LineFault → (List ℕ → Option B) → Fields A → Fields (B → A)
field fault reader more = record {
  counts = λ line. has_word line && more.counts (after_word line);
  reads = λ act line.
      read_field fault (reader (first_word line)) (λ x. more.reads (act x) (after_word line));
}

-- a tab
abbrev pub tab : {A : Type 0} → Fields A → Fields (ℕ → A)
tab = field Number (number_in 64)

-- a number below 2^32
abbrev pub number : {A : Type 0} → Fields A → Fields (ℕ → A)
number = field Number (number_in 4294967296)

-- a flow of an instance
abbrev pub flow : {A : Type 0} → Fields A → Fields (ℕ → A)
flow = field Number (number_in 16)

-- a transmit buffer of an instance
abbrev pub buffer : {A : Type 0} → Fields A → Fields (ℕ → A)
buffer = field Number (number_in 4)

-- the name of a receive buffer
abbrev pub name : {A : Type 0} → Fields A → Fields (ℕ → A)
name = field Number (number_in 256)

-- the offset or the value of a register
abbrev pub hex_number : {A : Type 0} → Fields A → Fields (ℕ → A)
hex_number = field Number hex_number_in

abbrev pub key : {A : Type 0} → Fields A → Fields (Key → A)
key = field Number key_in

-- an instance that isn't the actor
abbrev pub instance : {A : Type 0} → Fields A → Fields (Instance → A)
instance = field Number instance_in

-- one word as it stands, which is never at fault
abbrev pub word : {A : Type 0} → Fields A → Fields (List ℕ → A)
word = field Number Some

-- bytes in hexadecimal digits
abbrev pub hex : {A : Type 0} → Fields A → Fields (List ℕ → A)
hex = field Hex hex_in

-- the act of those fields
abbrev pub form : {A : Type 0} → Fields A → A → List ℕ → Result Line LineFault
form fields act line = if fields.counts line then fields.reads act line else Err Count

-- the act of an instance, whose name is a word, with those fields
abbrev pub form_of : {A : Type 0} → Fields A → (Instance → A) → List ℕ → List ℕ
    → Result Line LineFault
form_of fields act who line =
    if fields.counts line
    then read_field Number (instance_in who) (λ who. fields.reads (act who) line)
    else Err Count
