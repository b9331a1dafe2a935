-- The party that a line names is the actor of its act.
use Rattle.std.proofs.Common.{◌≡◌, ℕ, List, Bool, true, false, Option, Some, None, Ok, Err, Result, refl, ap, subst}
use Rattle.std.specs.Prelude.{if◌then◌else◌, option_map, not, nat_lt, ◌||◌, length, codes}
use Rattle.std.specs.List.{list_all}
use Rattle.ibos_kinds.specs.declared.act.Act.{Act}
use Rattle.ibos_kinds.specs.declared.act.Act.TheVariants.{Start, Switch, Close, Press, Click, Look, Go, Draw, CookieSet, CookieGet, Bind, Unbind, Done, RegRead, RegWrite, RxBell, WireIn, Fill, Submit, TxPost, TxBell, WireOut, Put, Ask, StoreAnswer, StoreNone, StoreLose}
use Rattle.ibos_kinds.specs.declared.names.Instance.{Instance}
use Rattle.ibos_kinds.specs.declared.names.Proto.TheVariants.{Tcp, Udp}
use Rattle.ibos_kinds.specs.declared.names.Side.{Side}
use Rattle.ibos_kinds.specs.declared.names.Side.TheVariants.{Page as PageSide, Net}
use Rattle.ibos_kinds.specs.declared.party.Party.{Party}
use Rattle.ibos_kinds.specs.declared.party.Party.TheVariants.{Page, Driver, Store, User, Wire}
use Rattle.ibos_kinds.specs.Parties.{actor}
use Rattle.ibos_text.specs.Words.{first_word, after_word, has_word, is_word}
use Rattle.ibos_script.specs.declared.fault.LineFault.{LineFault}
use Rattle.ibos_script.specs.declared.fault.LineFault.TheVariants.{Long, Byte, Word, Count, Number}
use Rattle.ibos_script.specs.declared.lines.Line.{Line}
use Rattle.ibos_script.specs.declared.lines.Line.TheVariants.{Act as ActLine, NextFrame}
use Rattle.ibos_fields.specs.Fields.{instance_in}
use Rattle.ibos_script.specs.Forms.{Fields, read_field, nothing, rest, tab, number, flow, buffer, name, hex_number, key, instance, word, hex, form, form_of}
use Rattle.ibos_fields.specs.Printable.{is_printable}
use Rattle.ibos_script.specs.Lines.{user_in, bell_in, posted, dev_in, wire_in, store_in, cookie_in, page_in, flow_in, net_in, named_in, act_in, party_in, is_comment, some_line, line_in}

abbrev IsActorOf : Option Party → Result Line LineFault → Type 0
IsActorOf p (Ok (ActLine act)) = p ≡ Some (actor act)
IsActorOf p (Ok NextFrame) = p ≡ Some Wire
IsActorOf p (Err fault) = Unit {0}

-- an act that was read is the party's
record By (p : Option Party) (r : Result Line LineFault) : Type 0 where
  pub holds : IsActorOf p r

none_by : (p : Option Party) (fault : LineFault) → By p (Err fault)
none_by p fault = record { holds = tt }

act_by : (p : Option Party) (act : Act) → p ≡ Some (actor act) → By p (Ok (ActLine act))
act_by p act is = record { holds = is }

next_by : (p : Option Party) → p ≡ Some Wire → By p (Ok NextFrame)
next_by p is = record { holds = is }

field_by : {A : Type 0} (p : Option Party) (fault : LineFault) (x : Option A) (next : A → Result Line LineFault) → ((a : A) → By p (next a)) → By p (read_field fault x next)
field_by p fault (Some a) next each = each a
field_by p fault None next each = none_by p fault

-- of two readings one is chosen
either : (p : Option Party) (first : Bool) (r s : Result Line LineFault) → By p r → By p s → By p (if first then r else s)
either p true r s one other = one
either p false r s one other = other

form_by : {A : Type 0} (p : Option Party) (fields : Fields A) (act : A) (line : List ℕ) → By p (fields.reads act line) → By p (form fields act line)
form_by p fields act line reads = either p (fields.counts line) (fields.reads act line) (Err Count) reads (none_by p Count)

abbrev named : List ℕ → Option Party
named who = option_map Page (instance_in who)

form_of_by : {A : Type 0} (fields : Fields A) (act : Instance → A) (who line : List ℕ) → ((q : Instance) → named who ≡ Some (Page q) → By (named who) (fields.reads (act q) line)) → By (named who) (form_of fields act who line)
form_of_by fields act who line reads =
    either (named who) (fields.counts line) (read_field Number (instance_in who) (λ q. fields.reads (act q) line)) (Err Count) (by_who (instance_in who) refl) (none_by (named who) Count)
  where
    by_who : (x : Option Instance) → instance_in who ≡ x → By (named who) (read_field Number x (λ q. fields.reads (act q) line))
    by_who (Some q) is = reads q (ap (option_map Page) is)
    by_who None is = none_by (named who) Number

user_by : (command line : List ℕ) → By (Some User) (user_in command line)
unfolding user_in
user_by command line =
    let p : Option Party = Some User in
    either p _ _ _ (form_by p (tab rest) Start line (field_by p _ _ _ (λ n. act_by p _ refl)))
    (either p _ _ _ (form_by p (tab nothing) Switch line (field_by p _ _ _ (λ n. act_by p _ refl)))
    (either p _ _ _ (form_by p (tab nothing) Close line (field_by p _ _ _ (λ n. act_by p _ refl)))
    (either p _ _ _ (form_by p (key nothing) Press line (field_by p _ _ _ (λ k. act_by p _ refl)))
    (either p _ _ _ (form_by p (number (number nothing)) Click line (search (field_by, act_by)))
    (either p _ _ _ (form_by p nothing Look line (act_by p _ refl)) (none_by p Word))))))

bell_by : (ring line : List ℕ) → By (Some Driver) (bell_in ring line)
unfolding bell_in
bell_by ring line =
    let p : Option Party = Some Driver in
    either p _ _ _ (form_by p nothing RxBell line (act_by p _ refl))
    (either p _ _ _ (form_by p nothing TxBell line (act_by p _ refl)) (none_by p Word))

dev_by : (command line : List ℕ) → By (Some Driver) (dev_in command line)
unfolding dev_in
dev_by command line =
    let p : Option Party = Some Driver in
    either p _ _ _ (form_by p (hex_number nothing) RegRead line (field_by p _ _ _ (λ n. act_by p _ refl)))
    (either p _ _ _ (form_by p (hex_number (hex_number nothing)) RegWrite line (search (field_by, act_by)))
    (either p _ _ _ (form_by p (number (name (number nothing))) posted line (search (field_by, act_by)))
    (either p _ _ _ (form_by p (number (number nothing)) TxPost line (search (field_by, act_by)))
    (either p _ _ _ (bell_by (first_word line) (after_word line)) (none_by p Word)))))

wire_by : (command line : List ℕ) → By (Some Wire) (wire_in command line)
unfolding wire_in
wire_by command line =
    let p : Option Party = Some Wire in
    either p _ _ _ (form_by p (hex nothing) WireIn line (field_by p _ _ _ (λ w. act_by p _ refl)))
    (either p _ _ _ (either p (has_word line) (Err Count) (Ok NextFrame) (none_by p Count) (next_by p refl))
    (either p _ _ _ (form_by p nothing WireOut line (act_by p _ refl)) (none_by p Word)))

store_by : (command line : List ℕ) → By (Some Store) (store_in command line)
unfolding store_in
store_by command line =
    let p : Option Party = Some Store in
    either p _ _ _ (form_by p (instance (number (word (word (number nothing))))) StoreAnswer line (search (field_by, act_by) depth 12))
    (either p _ _ _ (form_by p (instance (number nothing)) StoreNone line (search (field_by, act_by)))
    (either p _ _ _ (form_by p (word (word (number nothing))) StoreLose line (field_by p _ _ _ (λ n. act_by p _ refl))) (none_by p Word)))

cookie_by : (side : Side) (who command line : List ℕ) → By (named who) (cookie_in side who command line)
unfolding cookie_in
cookie_by side who command line =
    let p = named who in
    either p _ _ _ (form_of_by rest (CookieSet side) who line (λ q is. act_by p _ is))
    (either p _ _ _ (form_of_by nothing (CookieGet side) who line (λ q is. act_by p _ is)) (none_by p Word))

page_by : (who command line : List ℕ) → By (named who) (page_in who command line)
unfolding page_in
page_by who command line =
    let p = named who in
    either p _ _ _ (form_of_by rest Go who line (λ q is. act_by p _ is))
    (either p _ _ _ (form_of_by (number (number (number (number (hex nothing))))) Draw who line
    (λ q is. search (field_by, act_by, is) depth 12))
    (either p _ _ _ (cookie_by PageSide who (first_word line) (after_word line))
    (either p _ _ _ (form_of_by (word (hex nothing)) Put who line (λ q is. field_by p _ _ _ (λ bytes. act_by p _ is)))
    (either p _ _ _ (form_of_by (word nothing) Ask who line (λ q is. act_by p _ is)) (none_by p Word)))))

flow_by : (who proto line : List ℕ) → By (named who) (flow_in who proto line)
unfolding flow_in
flow_by who proto line =
    let p = named who in
    either p _ _ _ (form_of_by nothing (λ q. Bind q Tcp) who line (λ q is. act_by p _ is))
    (either p _ _ _ (form_of_by nothing (λ q. Bind q Udp) who line (λ q is. act_by p _ is)) (none_by p Word))

net_by : (who command line : List ℕ) → By (named who) (net_in who command line)
unfolding net_in
net_by who command line =
    let p = named who in
    either p _ _ _ (flow_by who (first_word line) (after_word line))
    (either p _ _ _ (form_of_by (flow nothing) Unbind who line (λ q is. field_by p _ _ _ (λ n. act_by p _ is)))
    (either p _ _ _ (form_of_by nothing Done who line (λ q is. act_by p _ is))
    (either p _ _ _ (cookie_by Net who (first_word line) (after_word line))
    (either p _ _ _ (form_of_by (buffer (number (hex nothing))) Fill who line (λ q is. search (field_by, act_by, is) depth 12))
    (either p _ _ _ (form_of_by (buffer (number nothing)) Submit who line (λ q is. search (field_by, act_by, is) depth 12)) (none_by p Word))))))

words_by : (actor line : List ℕ) → By (if is_word (codes "user") actor then Some User else if is_word (codes "dev") actor then Some Driver else if is_word (codes "wire") actor then Some Wire else if is_word (codes "store") actor then Some Store else if is_word (codes "page") actor || is_word (codes "net") actor then named (first_word line) else None) (act_in actor line)
unfolding act_in
words_by actor line = by_actor (is_word (codes "user") actor) (is_word (codes "dev") actor) (is_word (codes "wire") actor) (is_word (codes "store") actor) (is_word (codes "page") actor) (is_word (codes "net") actor)
  where
    by_actor : (user dev wire store page net : Bool) → By (if user then Some User else if dev then Some Driver else if wire then Some Wire else if store then Some Store else if page || net then named (first_word line) else None)
        (if user then user_in (first_word line) (after_word line) else if dev then dev_in (first_word line) (after_word line) else if wire then wire_in (first_word line) (after_word line) else if store then store_in (first_word line) (after_word line) else if page then named_in page_in line else if net then named_in net_in line else Err Word)
    by_actor true dev wire store page net = user_by (first_word line) (after_word line)
    by_actor false true wire store page net = dev_by (first_word line) (after_word line)
    by_actor false false true store page net = wire_by (first_word line) (after_word line)
    by_actor false false false true page net = store_by (first_word line) (after_word line)
    by_actor false false false false true net = page_by (first_word line) (first_word (after_word line)) (after_word (after_word line))
    by_actor false false false false false true = net_by (first_word line) (first_word (after_word line)) (after_word (after_word line))
    by_actor false false false false false false = none_by None Word

abbrev LineBy : Option Party → Result (Option Line) LineFault → Type 0
LineBy p (Ok (Some line)) = IsActorOf p (Ok line)
LineBy p (Ok None) = Unit {0}
LineBy p (Err fault) = Unit {0}

some_by : (p : Option Party) (r : Result Line LineFault) → By p r → LineBy p (some_line r)
some_by p (Ok line) is = is.holds
some_by p (Err fault) is = tt

line_by : (line : List ℕ) → LineBy (party_in line) (line_in line)
unfolding line_in party_in
line_by line = by_tests (nat_lt 8192 (length line)) (list_all is_printable line) (is_comment line || not (has_word line))
  where
    by_tests : (long printable none : Bool) → LineBy (party_in line) (if long then Err Long else if not printable then Err Byte else if none then Ok None else some_line (act_in (first_word line) (after_word line)))
    by_tests true printable none = tt
    by_tests false false none = tt
    by_tests false true true = tt
    by_tests false true false = some_by _ (act_in (first_word line) (after_word line)) (words_by (first_word line) (after_word line))

pub named_actor : (line : List ℕ) (act : Act) → line_in line ≡ Ok (Some (ActLine act)) → party_in line ≡ Some (actor act)
named_actor line act is = let P : Result (Option Line) LineFault → Type 0 = λ r. LineBy (party_in line) r in subst P is (line_by line)

pub named_next : (line : List ℕ) → line_in line ≡ Ok (Some NextFrame) → party_in line ≡ Some Wire
named_next line is = let P : Result (Option Line) LineFault → Type 0 = λ r. LineBy (party_in line) r in subst P is (line_by line)
