-- The text of an outcome: one line for its head and one for each item, each with the act's number.
use Rattle.std.specs.Prelude.{◌≡◌, ℕ, List, [], ◌∷◌, ◌++◌, codes, decimal, Result, Ok as Done, Err}
use Rattle.std.specs.Borrow.{Bor}
use Rattle.std.specs.Int.{byte_at, bytes_high_first}
use Rattle.std.specs.List.{flat_map}
use Rattle.hex.specs.Hex.{encode_lower}
use Rattle.ibos_kinds.specs.declared.names.Instance.{Instance}
use Rattle.ibos_kinds.specs.declared.names.Verdict.{Verdict}
use Rattle.ibos_kinds.specs.declared.names.Verdict.TheVariants.{Filtered, Missed, Heard}
use Rattle.ibos_kinds.specs.declared.outcome.Head.{Head}
use Rattle.ibos_kinds.specs.declared.outcome.Head.TheVariants.{Ok, Denied}
use Rattle.ibos_kinds.specs.declared.outcome.Item.{Item}
use Rattle.ibos_kinds.specs.declared.outcome.Item.TheVariants.{Opened, Moved, Ended, KeyTo, ClickTo}
use Rattle.ibos_kinds.specs.declared.outcome.Item.TheVariants.{Cookies, RowIs, FlowIs}
use Rattle.ibos_kinds.specs.declared.outcome.Item.TheVariants.{Arrived, ValueIs, LentIs, VerdictIs}
use Rattle.ibos_kinds.specs.declared.outcome.Item.TheVariants.{Dropped, Home, SendIs, Returned}
use Rattle.ibos_kinds.specs.declared.outcome.Item.TheVariants.{SentIs, Idle, Accepted, VersionIs}
use Rattle.ibos_kinds.specs.declared.outcome.Item.TheVariants.{RequestIs, Object, NoObject}
use Rattle.ibos_kinds.specs.declared.outcome.Item.TheVariants.{StorePut, StoreAsk}
use Rattle.ibos_kinds.specs.declared.outcome.Outcome.{Outcome}
use Rattle.ibos_kinds.specs.declared.party.Party.{Party}
use Rattle.ibos_kinds.specs.declared.party.Party.TheVariants.{Page, Driver, Store, User, Wire, Log}
use Rattle.ibos_kinds.specs.Parties.{addressee}
use Rattle.ibos_kinds.specs.Texts.{code_of, name_of}

-- a line: the number, a space, what it says, and the line's end
unfoldable pub line_text : List ℕ → List ℕ → List ℕ
line_text number said = number ++ codes " " ++ said ++ codes "\n"

-- `T.N`
unfoldable pub instance_text : Instance → List ℕ
instance_text who = decimal who.tab ++ codes "." ++ decimal who.ord

unfoldable pub head_text : Head → List ℕ
head_text Ok = codes "ok"
head_text (Denied rule) = codes "denied " ++ code_of rule ++ codes " " ++ name_of rule

-- a text, or `-` where it is empty
unfoldable pub or_dash : List ℕ → List ℕ
or_dash [] = codes "-"
or_dash (b ∷ bytes) = b ∷ bytes

-- bytes: two lower-case digits for each, or `-` for none
unfoldable pub hex_text : List ℕ → List ℕ
hex_text bytes = or_dash (encode_lower bytes)

-- a register's value: eight digits, the highest first
unfoldable pub value_text : ℕ → List ℕ
value_text value = encode_lower (bytes_high_first 4 value)

-- an IPv4 address in dotted decimal, its highest byte first
unfoldable pub addr_text : ℕ → List ℕ
addr_text addr =
    decimal (byte_at 3 addr) ++ codes "." ++ decimal (byte_at 2 addr) ++ codes "."
    ++ decimal (byte_at 1 addr) ++ codes "." ++ decimal (byte_at 0 addr)

abbrev pub verdict_text : Verdict → List ℕ
verdict_text Filtered = codes "filtered"
verdict_text Missed = codes "missed"
verdict_text Heard = codes "heard"

-- a party's name
abbrev pub party_text : Party → List ℕ
party_text (Page who) = instance_text who
party_text Driver = codes "dev"
party_text Store = codes "store"
party_text User = codes "user"
party_text Wire = codes "wire"
party_text Log = codes "log"

-- what an item tells
abbrev pub told_text : Item → List ℕ
told_text (Opened who url) = codes " opened " ++ url
told_text (Moved who url) = codes " at " ++ url
told_text (Ended who) = codes " ended"
told_text (KeyTo who byte) = codes " key " ++ encode_lower (byte ∷ [])
told_text (ClickTo who row col) = codes " click " ++ decimal row ++ codes " " ++ decimal col
told_text (Cookies who text) = codes " cookies " ++ or_dash text
told_text (RowIs row text) = codes " row " ++ decimal row ++ codes " |" ++ text
told_text (FlowIs who flow port remote) = codes " flow " ++ decimal flow ++ codes " "
    ++ decimal port ++ codes " " ++ addr_text remote.addr ++ codes " " ++ decimal remote.port
told_text (Arrived who flow bytes) = codes " frame " ++ decimal flow ++ codes " " ++ hex_text bytes
told_text (ValueIs value) = codes " value " ++ value_text value
told_text (LentIs handle) = codes " lent " ++ decimal handle.name ++ codes " "
    ++ decimal handle.turn
told_text (VerdictIs verdict) = codes " " ++ verdict_text verdict
told_text (Dropped rule) = codes " drop " ++ code_of rule ++ codes " " ++ name_of rule
told_text (Home who buffer) = codes " home " ++ decimal buffer
told_text (SendIs send) = codes " send " ++ decimal send
told_text (Returned send) = codes " returned " ++ decimal send
told_text (SentIs send) = codes " sent " ++ decimal send
told_text Idle = codes " idle"
told_text (Accepted send who bytes) = codes " frame " ++ decimal send ++ codes " "
    ++ instance_text who ++ codes " " ++ hex_text bytes
told_text (VersionIs who version) = codes " version " ++ decimal version
told_text (RequestIs who request) = codes " request " ++ decimal request
told_text (Object who request version bytes) = codes " object " ++ decimal request ++ codes " "
    ++ decimal version ++ codes " " ++ hex_text bytes
told_text (NoObject who request) = codes " none " ++ decimal request
told_text (StorePut origin key version len) = codes " put " ++ origin ++ codes " " ++ key
    ++ codes " " ++ decimal version ++ codes " " ++ decimal len
told_text (StoreAsk who request origin key) = codes " ask " ++ instance_text who ++ codes " "
    ++ decimal request ++ codes " " ++ origin ++ codes " " ++ key

-- whom an item is for, and what it tells
unfoldable pub item_text : Item → List ℕ
item_text item = party_text (addressee item) ++ told_text item

-- one line for each item
abbrev pub items_text : List ℕ → List Item → List ℕ
items_text number items = flat_map (λ item. line_text number (item_text item)) items

-- one line for the head, and then those of the items
unfoldable pub outcome_text : ℕ → Outcome → List ℕ
outcome_text number outcome =
    line_text (decimal number) (head_text outcome.head) ++ items_text (decimal number) outcome.items

-- pieces, one after another
abbrev pub pieces_text : List (Bor (List ℕ)) → List ℕ
pieces_text pieces = flat_map (λ piece. piece.now) pieces

-- after want of memory: a front of the wanted text stands behind the old text
pub record IsCutShort (old new wanted : List ℕ) : Type 0 where
  pub front : List ℕ
  pub rest : List ℕ
  pub written : new ≡ old ++ front
  pub whole : front ++ rest ≡ wanted

-- a text was appended, or a front of it
abbrev pub Appends : {T E : Type 0} → Result T E → List ℕ → List ℕ → List ℕ → Type 0
Appends (Done x) old new wanted = new ≡ old ++ wanted
Appends (Err e) old new wanted = IsCutShort old new wanted
