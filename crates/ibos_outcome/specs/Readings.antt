-- What a line of an outcome's text says, field by field. It is read freely: whether it says so in
-- the very words in which it is printed is seen when it is printed again.
use Rattle.std.specs.Prelude.{ℕ, ◌≡◌, ◌≤◌, ◌+◌, List, [], ◌∷◌, ◌&&◌, not, nat_lt, nat_le, length}
use Rattle.std.specs.Prelude.{take, drop, codes}
use Rattle.std.specs.Prelude.{find, Option, Some, None, option_map, Result, Ok as Done, Err}
use Rattle.std.specs.Prelude.{All, if◌then◌else◌}
use Rattle.std.specs.Int.{from_be_bytes, w32}
use Rattle.std.specs.List.{list_all}
use Rattle.hex.specs.Hex.{decode_sized}
use Rattle.hex.specs.declared.error.FromHexError.{FromHexError}
use Rattle.ibos_kinds.specs.declared.names.Instance.{Instance}
use Rattle.ibos_kinds.specs.declared.names.Verdict.TheVariants.{Filtered, Missed, Heard}
use Rattle.ibos_kinds.specs.declared.rule.Rule.{Rule}
use Rattle.ibos_kinds.specs.declared.rule.Rule.TheVariants.{M1, M2, M3, M4, M5, M6, M7, M8, M9, F1}
use Rattle.ibos_kinds.specs.declared.rule.Rule.TheVariants.{F2, F3, F4, F5, F6, F7, F8, F9, F10}
use Rattle.ibos_kinds.specs.declared.rule.Rule.TheVariants.{F11, F12, F13, F14, F15, N1, N2, N3, N4}
use Rattle.ibos_kinds.specs.declared.rule.Rule.TheVariants.{N5, N6, U1, U2, U3, U4, U5, U6, U7, U8}
use Rattle.ibos_kinds.specs.declared.rule.Rule.TheVariants.{U9, U10, U11, U12, P1, P2, P3, P4, C1}
use Rattle.ibos_kinds.specs.declared.rule.Rule.TheVariants.{C2, C3, S1, S2, S3, S4, S5, S6, S7, S8}
use Rattle.ibos_kinds.specs.declared.rule.Rule.TheVariants.{S9}
use Rattle.ibos_kinds.specs.declared.outcome.Head.{Head}
use Rattle.ibos_kinds.specs.declared.outcome.Head.TheVariants.{Ok, Denied}
use Rattle.ibos_kinds.specs.declared.outcome.Item.{Item}
use Rattle.ibos_kinds.specs.declared.outcome.Item.TheVariants.{Opened, Moved, Ended, KeyTo, ClickTo}
use Rattle.ibos_kinds.specs.declared.outcome.Item.TheVariants.{Cookies, RowIs, FlowIs}
use Rattle.ibos_kinds.specs.declared.outcome.Item.TheVariants.{Arrived, ValueIs, LentIs, VerdictIs}
use Rattle.ibos_kinds.specs.declared.outcome.Item.TheVariants.{Dropped, Home, SendIs, Returned}
use Rattle.ibos_kinds.specs.declared.outcome.Item.TheVariants.{SentIs, Idle, Accepted, VersionIs}
use Rattle.ibos_kinds.specs.declared.outcome.Item.TheVariants.{RequestIs, Object, NoObject}
use Rattle.ibos_kinds.specs.declared.outcome.Item.TheVariants.{StorePut, StoreAsk}
use Rattle.ibos_kinds.specs.Texts.{code_of}
use Rattle.ibos_text.specs.Parts.{len_before}
use Rattle.ibos_text.specs.Words.{is_word}
use Rattle.ibos_fields.specs.Fields.{number_in, instance_in, hex_in}
use Rattle.ibos_fields.specs.Printable.{is_printable, is_graph}
use Rattle.ibos_outcome.specs.Printed.{line_text, item_text, items_text}
use Rattle.ibos_outcome.specs.Canonical.{ends_in_space, IsCanonicalItem, IsFront}

-- ---- words

-- what stands before the first such byte
unfoldable pub word_of : ℕ → List ℕ → List ℕ
word_of stop line = take (len_before stop line) line

abbrev pub after_first : List ℕ → List ℕ
after_first [] = []
after_first (b ∷ bytes) = bytes

-- what stands behind it
unfoldable pub rest_of : ℕ → List ℕ → List ℕ
rest_of stop line = after_first (drop (len_before stop line) line)

-- ---- fields

abbrev pub read_field : {A B : Type 0} → Option A → (A → Option B) → Option B
read_field None next = None
read_field (Some x) next = next x

unfoldable pub printable_in : List ℕ → Option (List ℕ)
printable_in text = if list_all is_printable text then Some text else None

unfoldable pub word_in : List ℕ → Option (List ℕ)
word_in word = if nat_lt 0 (length word) && list_all is_graph word then Some word else None

-- cookies, `-` for none
unfoldable pub cookies_in : List ℕ → Option (List ℕ)
cookies_in text = if is_word (codes "-") text then Some [] else printable_in text

abbrev pub cells_named : List ℕ → Option (List ℕ)
cells_named text =
    if nat_le (length text) 80 && not (ends_in_space text) then printable_in text else None

-- a row of the screen, behind a bar
unfoldable pub cells_in : List ℕ → Option (List ℕ)
cells_in text = cells_named (after_first text)

abbrev pub byte_named : Result (List ℕ) FromHexError → Option ℕ
byte_named (Done (byte ∷ [])) = Some byte
byte_named other = None

-- a byte in two digits
unfoldable pub byte_in : List ℕ → Option ℕ
byte_in word = byte_named (decode_sized word 1)

abbrev pub value_named : Result (List ℕ) FromHexError → Option ℕ
value_named (Done bytes) = Some (from_be_bytes w32 bytes)
value_named (Err error) = None

-- a register's value in eight digits, the highest first
unfoldable pub value_in : List ℕ → Option ℕ
value_in word = value_named (decode_sized word 4)

abbrev pub octets_in : List ℕ → List ℕ → List ℕ → List ℕ → Option ℕ
octets_in a b c d =
    read_field (number_in 256 a) (λ a. read_field (number_in 256 b) (λ b.
    read_field (number_in 256 c) (λ c. read_field (number_in 256 d) (λ d.
    Some (from_be_bytes w32 (a ∷ b ∷ c ∷ d ∷ []))))))

-- an IPv4 address in dotted decimal
unfoldable pub addr_in : List ℕ → Option ℕ
addr_in word =
    octets_in (word_of 46 word) (word_of 46 (rest_of 46 word))
    (word_of 46 (rest_of 46 (rest_of 46 word))) (rest_of 46 (rest_of 46 (rest_of 46 word)))

abbrev pub rules : List Rule
rules =
    M1 ∷ M2 ∷ M3 ∷ M4 ∷ M5 ∷ M6 ∷ M7 ∷ M8 ∷ M9
    ∷ F1 ∷ F2 ∷ F3 ∷ F4 ∷ F5 ∷ F6 ∷ F7 ∷ F8 ∷ F9 ∷ F10 ∷ F11 ∷ F12 ∷ F13 ∷ F14 ∷ F15
    ∷ N1 ∷ N2 ∷ N3 ∷ N4 ∷ N5 ∷ N6
    ∷ U1 ∷ U2 ∷ U3 ∷ U4 ∷ U5 ∷ U6 ∷ U7 ∷ U8 ∷ U9 ∷ U10 ∷ U11 ∷ U12
    ∷ P1 ∷ P2 ∷ P3 ∷ P4 ∷ C1 ∷ C2 ∷ C3 ∷ S1 ∷ S2 ∷ S3 ∷ S4 ∷ S5 ∷ S6 ∷ S7 ∷ S8 ∷ S9 ∷ []

-- a rule by its code
unfoldable pub rule_in : List ℕ → Option Rule
rule_in word = find (λ rule. is_word word (code_of rule)) rules

-- ---- items

-- one word, and then more fields
abbrev pub field : {A B : Type 0} → (List ℕ → Option B) → (A → List ℕ → Option Item) → (B → A)
    → List ℕ → Option Item
field reader more item line =
    read_field (reader (word_of 32 line)) (λ x. more (item x) (rest_of 32 line))

-- a field that has all that is left
abbrev pub last : {B : Type 0} → (List ℕ → Option B) → (B → Item) → List ℕ → Option Item
last reader item line = read_field (reader line) (λ x. Some (item x))

-- no more fields, whatever is left
abbrev pub nothing : Item → List ℕ → Option Item
nothing item line = Some item

-- a number below 2^8, 2^16 and 2^32
abbrev pub small_in : List ℕ → Option ℕ
small_in = number_in 256

abbrev pub port_in : List ℕ → Option ℕ
port_in = number_in 65536

abbrev pub count_in : List ℕ → Option ℕ
count_in = number_in 4294967296

-- a flow of an instance
abbrev pub flow_in : List ℕ → Option ℕ
flow_in = number_in 16

-- items whose fields are in records of their own
abbrev pub flow_item : Instance → ℕ → ℕ → ℕ → ℕ → Item
flow_item who flow port addr other = FlowIs who flow port (record { addr = addr; port = other })

abbrev pub lent_item : ℕ → ℕ → Item
lent_item name turn = LentIs (record { name = name; turn = turn })

-- to an instance
unfoldable pub told_in : Instance → List ℕ → List ℕ → Option Item
told_in who kind line =
    if is_word (codes "opened") kind then last printable_in (Opened who) line
    else if is_word (codes "at") kind then last printable_in (Moved who) line
    else if is_word (codes "ended") kind then Some (Ended who)
    else if is_word (codes "key") kind then last byte_in (KeyTo who) line
    else if is_word (codes "click") kind then field small_in (last small_in) (ClickTo who) line
    else if is_word (codes "cookies") kind then last cookies_in (Cookies who) line
    else if is_word (codes "flow") kind
    then field flow_in (field port_in (field addr_in (last port_in))) (flow_item who) line
    else if is_word (codes "frame") kind then field flow_in (last hex_in) (Arrived who) line
    else if is_word (codes "home") kind then last small_in (Home who) line
    else if is_word (codes "version") kind then last count_in (VersionIs who) line
    else if is_word (codes "request") kind then last count_in (RequestIs who) line
    else if is_word (codes "object") kind
    then field count_in (field count_in (last hex_in)) (Object who) line
    else if is_word (codes "none") kind then last count_in (NoObject who) line
    else None

-- to the driver
unfoldable pub dev_in : List ℕ → List ℕ → Option Item
dev_in kind line =
    if is_word (codes "value") kind then last value_in ValueIs line
    else if is_word (codes "lent") kind then field small_in (last count_in) lent_item line
    else if is_word (codes "send") kind then last count_in SendIs line
    else if is_word (codes "returned") kind then last count_in Returned line
    else None

-- to the wire
unfoldable pub wire_in : List ℕ → List ℕ → Option Item
wire_in kind line =
    if is_word (codes "filtered") kind then Some (VerdictIs Filtered)
    else if is_word (codes "missed") kind then Some (VerdictIs Missed)
    else if is_word (codes "heard") kind then Some (VerdictIs Heard)
    else if is_word (codes "sent") kind then last count_in SentIs line
    else if is_word (codes "idle") kind then Some Idle
    else None

-- to the log
unfoldable pub log_in : List ℕ → List ℕ → Option Item
log_in kind line =
    if is_word (codes "drop") kind then field rule_in nothing Dropped line
    else if is_word (codes "frame") kind
    then field count_in (field instance_in (last hex_in)) Accepted line
    else None

-- to the user
unfoldable pub user_in : List ℕ → List ℕ → Option Item
user_in kind line =
    if is_word (codes "row") kind then field small_in (last cells_in) RowIs line else None

-- to the storage process
unfoldable pub store_in : List ℕ → List ℕ → Option Item
store_in kind line =
    if is_word (codes "put") kind
    then field word_in (field word_in (field count_in (last count_in))) StorePut line
    else if is_word (codes "ask") kind
    then field instance_in (field count_in (field word_in (last word_in))) StoreAsk line
    else None

unfoldable pub other_in : List ℕ → List ℕ → List ℕ → Option Item
other_in addressee kind line =
    if is_word (codes "dev") addressee then dev_in kind line
    else if is_word (codes "wire") addressee then wire_in kind line
    else if is_word (codes "log") addressee then log_in kind line
    else if is_word (codes "user") addressee then user_in kind line
    else if is_word (codes "store") addressee then store_in kind line
    else None

abbrev pub item_to : Option Instance → List ℕ → List ℕ → List ℕ → Option Item
item_to (Some who) addressee kind line = told_in who kind line
item_to None addressee kind line = other_in addressee kind line

-- addressee, kind, and fields
unfoldable pub item_in : List ℕ → Option Item
item_in said =
    item_to (instance_in (word_of 32 said)) (word_of 32 said) (word_of 32 (rest_of 32 said))
    (rest_of 32 (rest_of 32 said))

-- ---- heads, and lines

-- `ok`, or a word and a rule's code
unfoldable pub head_in : List ℕ → Option Head
head_in said =
    if is_word (codes "ok") said then Some Ok
    else option_map Denied (rule_in (word_of 32 (rest_of 32 said)))

-- what the first line of a text says behind its first word of that length
unfoldable pub said_of : ℕ → List ℕ → List ℕ
said_of len text = drop (len + 1) (word_of 10 text)

-- a text begins with the lines of these canonical items, which have that many bytes, and goes on
-- with no such line
pub record HasItems (digits text : List ℕ) (items : List Item) (len : ℕ) : Type 0 where
  pub within : len ≤ length text
  pub canonical : All IsCanonicalItem items
  pub told : items_text digits items ≡ take len text
  pub ends : (item : Item) → IsCanonicalItem item
      → IsFront (line_text digits (item_text item)) (drop len text) → ⊥
