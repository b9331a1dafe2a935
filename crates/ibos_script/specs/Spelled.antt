-- How an act is written as a line, word by word. Reading it gives the act back.
use Rattle.std.specs.Prelude.{◌≡◌, ℕ, ◌^◌, ◌<◌, List, [], ◌∷◌, ◌++◌, true}
use Rattle.std.specs.Prelude.{codes, decimal}
use Rattle.std.specs.List.{list_all}
use Rattle.hex.specs.Hex.{IsBytes, encode_lower}
use Rattle.ibos_kinds.specs.declared.act.Act.{Act}
use Rattle.ibos_kinds.specs.declared.act.Act.TheVariants.{Start, Switch, Close, Press, Click, Look}
use Rattle.ibos_kinds.specs.declared.act.Act.TheVariants.{Go, Draw, CookieSet, CookieGet}
use Rattle.ibos_kinds.specs.declared.act.Act.TheVariants.{Bind, Unbind, Done, RegRead, RegWrite}
use Rattle.ibos_kinds.specs.declared.act.Act.TheVariants.{RxPost, RxBell, WireIn}
use Rattle.ibos_kinds.specs.declared.act.Act.TheVariants.{Fill, Submit, TxPost, TxBell, WireOut}
use Rattle.ibos_kinds.specs.declared.act.Act.TheVariants.{Put, Ask, StoreAnswer, StoreNone}
use Rattle.ibos_kinds.specs.declared.act.Act.TheVariants.{StoreLose}
use Rattle.ibos_kinds.specs.declared.names.Key.{Key}
use Rattle.ibos_kinds.specs.declared.names.Key.TheVariants.{Byte, Enter, Back}
use Rattle.ibos_kinds.specs.declared.names.Proto.{Proto}
use Rattle.ibos_kinds.specs.declared.names.Proto.TheVariants.{Tcp, Udp}
use Rattle.ibos_kinds.specs.declared.names.Side.{Side}
use Rattle.ibos_kinds.specs.declared.names.Side.TheVariants.{Page, Net}
use Rattle.ibos_text.specs.Words.{after_spaces}
use Rattle.ibos_fields.specs.Printable.{IsWord, is_printable}
use Rattle.ibos_outcome.specs.Printed.{instance_text, hex_text, value_text}

-- words with a space behind each, and then the last word or the rest of the line
abbrev pub spaced : List (List ℕ) → List ℕ → List ℕ
spaced [] text = text
spaced (word ∷ words) text = word ++ 32 ∷ spaced words text

abbrev pub key_text : Key → List ℕ
key_text (Byte byte) = encode_lower (byte ∷ [])
key_text Enter = codes "enter"
key_text Back = codes "back"

abbrev pub side_text : Side → List ℕ
side_text Page = codes "page"
side_text Net = codes "net"

abbrev pub proto_text : Proto → List ℕ
proto_text Tcp = codes "tcp"
proto_text Udp = codes "udp"

-- a register's offset or value, in eight digits
unfoldable pub hex_number_text : ℕ → List ℕ
hex_number_text n = codes "0x" ++ value_text n

abbrev pub spelled : Act → List ℕ
spelled (Start tab url) = spaced (codes "user" ∷ codes "open" ∷ decimal tab ∷ []) url
spelled (Switch tab) = spaced (codes "user" ∷ codes "switch" ∷ []) (decimal tab)
spelled (Close tab) = spaced (codes "user" ∷ codes "close" ∷ []) (decimal tab)
spelled (Press key) = spaced (codes "user" ∷ codes "key" ∷ []) (key_text key)
spelled (Click row col) = spaced (codes "user" ∷ codes "click" ∷ decimal row ∷ []) (decimal col)
spelled Look = spaced (codes "user" ∷ []) (codes "look")
spelled (Go who url) = spaced (codes "page" ∷ instance_text who ∷ codes "go" ∷ []) url
spelled (Draw who row col height width pixels) =
    spaced (codes "page" ∷ instance_text who ∷ codes "draw" ∷ decimal row ∷ decimal col
    ∷ decimal height ∷ decimal width ∷ []) (hex_text pixels)
spelled (CookieSet side who text) =
    spaced (side_text side ∷ instance_text who ∷ codes "cookie" ∷ codes "set" ∷ []) text
spelled (CookieGet side who) = spaced (side_text side ∷ instance_text who ∷ codes "cookie"
    ∷ []) (codes "get")
spelled (Bind who proto) = spaced (codes "net" ∷ instance_text who ∷ codes "flow" ∷ [])
    (proto_text proto)
spelled (Unbind who flow) = spaced (codes "net" ∷ instance_text who ∷ codes "close" ∷ [])
    (decimal flow)
spelled (Done who) = spaced (codes "net" ∷ instance_text who ∷ []) (codes "done")
spelled (RegRead offset) = spaced (codes "dev" ∷ codes "read" ∷ []) (hex_number_text offset)
spelled (RegWrite offset value) = spaced (codes "dev" ∷ codes "write" ∷ hex_number_text offset
    ∷ []) (hex_number_text value)
spelled (RxPost slot handle) = spaced (codes "dev" ∷ codes "rx" ∷ decimal slot
    ∷ decimal handle.name ∷ []) (decimal handle.turn)
spelled RxBell = spaced (codes "dev" ∷ codes "bell" ∷ []) (codes "rx")
spelled (WireIn frame) = spaced (codes "wire" ∷ codes "in" ∷ []) (hex_text frame)
spelled (Fill who buffer place bytes) = spaced (codes "net" ∷ instance_text who ∷ codes "fill"
    ∷ decimal buffer ∷ decimal place ∷ []) (hex_text bytes)
spelled (Submit who buffer len) = spaced (codes "net" ∷ instance_text who ∷ codes "submit"
    ∷ decimal buffer ∷ []) (decimal len)
spelled (TxPost slot send) = spaced (codes "dev" ∷ codes "tx" ∷ decimal slot ∷ []) (decimal send)
spelled TxBell = spaced (codes "dev" ∷ codes "bell" ∷ []) (codes "tx")
spelled WireOut = spaced (codes "wire" ∷ []) (codes "out")
spelled (Put who key bytes) = spaced (codes "page" ∷ instance_text who ∷ codes "put" ∷ key ∷ [])
    (hex_text bytes)
spelled (Ask who key) = spaced (codes "page" ∷ instance_text who ∷ codes "ask" ∷ []) key
spelled (StoreAnswer who request origin key version) = spaced (codes "store" ∷ codes "answer"
    ∷ instance_text who ∷ decimal request ∷ origin ∷ key ∷ []) (decimal version)
spelled (StoreNone who request) = spaced (codes "store" ∷ codes "none" ∷ instance_text who ∷ [])
    (decimal request)
spelled (StoreLose origin key version) = spaced (codes "store" ∷ codes "lose" ∷ origin ∷ key ∷ [])
    (decimal version)

-- the rest of a line: printable, and no space first
abbrev pub IsRest : List ℕ → Type 0
IsRest text = (list_all is_printable text ≡ true) × (after_spaces text ≡ text)

-- the fields have the values of their types, and can stand in a line
abbrev pub IsSpellable : Act → Type 0
IsSpellable (Start tab url) = IsRest url
IsSpellable (Switch tab) = Unit {0}
IsSpellable (Close tab) = Unit {0}
IsSpellable (Press key) = Unit {0}
IsSpellable (Click row col) = (row < 2 ^ 32) × (col < 2 ^ 32)
IsSpellable Look = Unit {0}
IsSpellable (Go who url) = IsRest url
IsSpellable (Draw who row col height width pixels) =
    (row < 2 ^ 32) × (col < 2 ^ 32) × (height < 2 ^ 32) × (width < 2 ^ 32) × IsBytes pixels
IsSpellable (CookieSet side who text) = IsRest text
IsSpellable (CookieGet side who) = Unit {0}
IsSpellable (Bind who proto) = Unit {0}
IsSpellable (Unbind who flow) = Unit {0}
IsSpellable (Done who) = Unit {0}
IsSpellable (RegRead offset) = offset < 2 ^ 32
IsSpellable (RegWrite offset value) = (offset < 2 ^ 32) × (value < 2 ^ 32)
IsSpellable (RxPost slot handle) =
    (slot < 2 ^ 32) × (handle.name < 256) × (handle.turn < 2 ^ 32)
IsSpellable RxBell = Unit {0}
IsSpellable (WireIn frame) = IsBytes frame
IsSpellable (Fill who buffer place bytes) = (place < 2 ^ 32) × IsBytes bytes
IsSpellable (Submit who buffer len) = len < 2 ^ 32
IsSpellable (TxPost slot send) = (slot < 2 ^ 32) × (send < 2 ^ 32)
IsSpellable TxBell = Unit {0}
IsSpellable WireOut = Unit {0}
IsSpellable (Put who key bytes) = IsWord key × IsBytes bytes
IsSpellable (Ask who key) = IsWord key
IsSpellable (StoreAnswer who request origin key version) =
    (request < 2 ^ 32) × IsWord origin × IsWord key × (version < 2 ^ 32)
IsSpellable (StoreNone who request) = request < 2 ^ 32
IsSpellable (StoreLose origin key version) = IsWord origin × IsWord key × (version < 2 ^ 32)
