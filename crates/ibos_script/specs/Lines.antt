-- What a line of a script says: its act, nothing, or its first fault. The words that name actor and
-- command decide first, then how many words follow, then the fields from left to right.
use Rattle.std.specs.Prelude.{ℕ, List, [], ◌∷◌, Bool, false, not, ◌==◌, ◌||◌, nat_lt}
use Rattle.std.specs.Prelude.{length, codes, Option, Some, None, option_map, Result, Ok, Err}
use Rattle.std.specs.Prelude.{if◌then◌else◌}
use Rattle.std.specs.List.{list_all}
use Rattle.ibos_kinds.specs.declared.names.Proto.TheVariants.{Tcp, Udp}
use Rattle.ibos_kinds.specs.declared.names.Side.{Side}
use Rattle.ibos_kinds.specs.declared.names.Side.TheVariants.{Page, Net}
use Rattle.ibos_kinds.specs.declared.party.Party.{Party}
use Rattle.ibos_kinds.specs.declared.party.Party.TheVariants.{Page as PageParty, Driver}
use Rattle.ibos_kinds.specs.declared.party.Party.TheVariants.{Store, User, Wire}
use Rattle.ibos_kinds.specs.declared.act.Act.{Act}
use Rattle.ibos_kinds.specs.declared.act.Act.TheVariants.{Start, Switch, Close, Press, Click, Look}
use Rattle.ibos_kinds.specs.declared.act.Act.TheVariants.{Go, Draw, CookieSet, CookieGet}
use Rattle.ibos_kinds.specs.declared.act.Act.TheVariants.{Bind, Unbind, Done, RegRead, RegWrite}
use Rattle.ibos_kinds.specs.declared.act.Act.TheVariants.{RxPost, RxBell, WireIn}
use Rattle.ibos_kinds.specs.declared.act.Act.TheVariants.{Fill, Submit, TxPost, TxBell, WireOut}
use Rattle.ibos_kinds.specs.declared.act.Act.TheVariants.{Put, Ask, StoreAnswer, StoreNone}
use Rattle.ibos_kinds.specs.declared.act.Act.TheVariants.{StoreLose}
use Rattle.ibos_kinds.specs.Limits.{Fits}
use Rattle.ibos_script.specs.declared.fault.LineFault.{LineFault}
use Rattle.ibos_script.specs.declared.fault.LineFault.TheVariants.{Long, Byte, Word, Count}
use Rattle.ibos_script.specs.declared.lines.Line.{Line}
use Rattle.ibos_script.specs.declared.lines.Line.TheVariants.{Act as ActLine, NextFrame}
use Rattle.ibos_text.specs.Words.{first_word, after_word, has_word, is_word}
use Rattle.ibos_fields.specs.Fields.{instance_in}
use Rattle.ibos_fields.specs.Printable.{is_printable}
use Rattle.ibos_script.specs.Forms.{nothing, rest, tab, number, flow, buffer, name, hex_number}
use Rattle.ibos_script.specs.Forms.{key, instance, word, hex, form, form_of}

-- the act that a line says is in its ranges
abbrev pub LineFits : Line → Type 0
LineFits (ActLine act) = Fits act
LineFits NextFrame = Unit {0}

-- behind `user`
unfoldable pub user_in : List ℕ → List ℕ → Result Line LineFault
user_in command line =
    if is_word (codes "open") command then form (tab rest) Start line
    else if is_word (codes "switch") command then form (tab nothing) Switch line
    else if is_word (codes "close") command then form (tab nothing) Close line
    else if is_word (codes "key") command then form (key nothing) Press line
    else if is_word (codes "click") command then form (number (number nothing)) Click line
    else if is_word (codes "look") command then form nothing Look line
    else Err Word

-- behind `dev bell`
unfoldable pub bell_in : List ℕ → List ℕ → Result Line LineFault
bell_in ring line =
    if is_word (codes "rx") ring then form nothing RxBell line
    else if is_word (codes "tx") ring then form nothing TxBell line
    else Err Word

-- a receive buffer's post, its handle in two fields
abbrev pub posted : ℕ → ℕ → ℕ → Act
posted slot name turn = RxPost slot (record { name = name; turn = turn })

-- behind `dev`
unfoldable pub dev_in : List ℕ → List ℕ → Result Line LineFault
dev_in command line =
    if is_word (codes "read") command then form (hex_number nothing) RegRead line
    else if is_word (codes "write") command
    then form (hex_number (hex_number nothing)) RegWrite line
    else if is_word (codes "rx") command then form (number (name (number nothing))) posted line
    else if is_word (codes "tx") command then form (number (number nothing)) TxPost line
    else if is_word (codes "bell") command then bell_in (first_word line) (after_word line)
    else Err Word

-- behind `wire next`
abbrev pub next_frame : List ℕ → Result Line LineFault
next_frame line = if has_word line then Err Count else Ok NextFrame

-- behind `wire`
unfoldable pub wire_in : List ℕ → List ℕ → Result Line LineFault
wire_in command line =
    if is_word (codes "in") command then form (hex nothing) WireIn line
    else if is_word (codes "next") command then next_frame line
    else if is_word (codes "out") command then form nothing WireOut line
    else Err Word

-- behind `store`
unfoldable pub store_in : List ℕ → List ℕ → Result Line LineFault
store_in command line =
    if is_word (codes "answer") command
    then form (instance (number (word (word (number nothing))))) StoreAnswer line
    else if is_word (codes "none") command then form (instance (number nothing)) StoreNone line
    else if is_word (codes "lose") command
    then form (word (word (number nothing))) StoreLose line
    else Err Word

-- behind `page` or `net` and an instance's name: `cookie`
unfoldable pub cookie_in : Side → List ℕ → List ℕ → List ℕ → Result Line LineFault
cookie_in side who command line =
    if is_word (codes "set") command then form_of rest (CookieSet side) who line
    else if is_word (codes "get") command then form_of nothing (CookieGet side) who line
    else Err Word

-- behind `page` and an instance's name
unfoldable pub page_in : List ℕ → List ℕ → List ℕ → Result Line LineFault
page_in who command line =
    if is_word (codes "go") command then form_of rest Go who line
    else if is_word (codes "draw") command
    then form_of (number (number (number (number (hex nothing))))) Draw who line
    else if is_word (codes "cookie") command
    then cookie_in Page who (first_word line) (after_word line)
    else if is_word (codes "put") command then form_of (word (hex nothing)) Put who line
    else if is_word (codes "ask") command then form_of (word nothing) Ask who line
    else Err Word

-- behind `net` and an instance's name: `flow`
unfoldable pub flow_in : List ℕ → List ℕ → List ℕ → Result Line LineFault
flow_in who proto line =
    if is_word (codes "tcp") proto then form_of nothing (λ who. Bind who Tcp) who line
    else if is_word (codes "udp") proto then form_of nothing (λ who. Bind who Udp) who line
    else Err Word

-- behind `net` and an instance's name
unfoldable pub net_in : List ℕ → List ℕ → List ℕ → Result Line LineFault
net_in who command line =
    if is_word (codes "flow") command then flow_in who (first_word line) (after_word line)
    else if is_word (codes "close") command then form_of (flow nothing) Unbind who line
    else if is_word (codes "done") command then form_of nothing Done who line
    else if is_word (codes "cookie") command
    then cookie_in Net who (first_word line) (after_word line)
    else if is_word (codes "fill") command
    then form_of (buffer (number (hex nothing))) Fill who line
    else if is_word (codes "submit") command
    then form_of (buffer (number nothing)) Submit who line
    else Err Word

-- behind an actor's kind and name
abbrev pub named_in : (List ℕ → List ℕ → List ℕ → Result Line LineFault) → List ℕ
    → Result Line LineFault
named_in next line =
    next (first_word line) (first_word (after_word line)) (after_word (after_word line))

-- the actor's kind, and what follows it
unfoldable pub act_in : List ℕ → List ℕ → Result Line LineFault
act_in actor line =
    if is_word (codes "user") actor then user_in (first_word line) (after_word line)
    else if is_word (codes "dev") actor then dev_in (first_word line) (after_word line)
    else if is_word (codes "wire") actor then wire_in (first_word line) (after_word line)
    else if is_word (codes "store") actor then store_in (first_word line) (after_word line)
    else if is_word (codes "page") actor then named_in page_in line
    else if is_word (codes "net") actor then named_in net_in line
    else Err Word

-- the party that the first words of a line name: `user`, `dev`, `wire` or `store`, or `page` or
-- `net` and an instance
unfoldable pub party_in : List ℕ → Option Party
party_in line =
    if is_word (codes "user") (first_word line) then Some User
    else if is_word (codes "dev") (first_word line) then Some Driver
    else if is_word (codes "wire") (first_word line) then Some Wire
    else if is_word (codes "store") (first_word line) then Some Store
    else if is_word (codes "page") (first_word line) || is_word (codes "net") (first_word line)
    then option_map PageParty (instance_in (first_word (after_word line)))
    else None

-- a line begins with `#`
abbrev pub is_comment : List ℕ → Bool
is_comment [] = false
is_comment (b ∷ bytes) = b == 35

abbrev pub some_line : Result Line LineFault → Result (Option Line) LineFault
some_line (Ok line) = Ok (Some line)
some_line (Err fault) = Err fault

-- any bytes
unfoldable pub line_in : List ℕ → Result (Option Line) LineFault
line_in line =
    if nat_lt 8192 (length line) then Err Long
    else if not (list_all is_printable line) then Err Byte
    else if is_comment line || not (has_word line) then Ok None
    else some_line (act_in (first_word line) (after_word line))
