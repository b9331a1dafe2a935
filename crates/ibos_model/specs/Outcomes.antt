-- The outcome of each act: its first broken rule, or its items.
use Rattle.std.specs.Prelude.{ℕ, ◌+◌, ◌-◌, zero, suc, List, [], ◌∷◌, Bool, not, nat_lt, length}
use Rattle.std.specs.Prelude.{take, Ok, Err, Result}
use Rattle.std.specs.Prelude.{Option, Some, None, bytes_eq, if◌then◌else◌}
use Rattle.ibos_kinds.specs.declared.names.Instance.{Instance}
use Rattle.ibos_kinds.specs.declared.party.Party.{Party}
use Rattle.ibos_kinds.specs.declared.party.Party.TheVariants.{Page as PageOf}
use Rattle.ibos_kinds.specs.Parties.{actor}
use Rattle.ibos_kinds.specs.declared.rule.Rule.{Rule}
use Rattle.ibos_kinds.specs.declared.rule.Rule.TheVariants.{U1, U2, U3, U10, U12, P1, P2, N6}
use Rattle.ibos_kinds.specs.declared.names.Endpoint.{Endpoint}
use Rattle.ibos_kinds.specs.declared.names.Handle.{Handle}
use Rattle.ibos_kinds.specs.declared.names.Local.{Local}
use Rattle.ibos_kinds.specs.Flows.{Bound, bind_answer, close_answer}
use Rattle.ibos_kinds.specs.Ports.{port_of}
use Rattle.ibos_nic.specs.declared.reg.Reg.{Reg}
use Rattle.ibos_nic.specs.Parts.{reg_at}
use Rattle.ibos_nic.specs.Rules.{read_rule, receive_rule, transmit_rule, write_rule}
use Rattle.ibos_kinds.specs.declared.names.Key.{Key}
use Rattle.ibos_kinds.specs.declared.names.Key.TheVariants.{Enter}
use Rattle.ibos_kinds.specs.declared.act.Act.{Act}
use Rattle.ibos_kinds.specs.declared.act.Act.TheVariants.{Start, Switch, Close, Press, Click, Look}
use Rattle.ibos_kinds.specs.declared.act.Act.TheVariants.{Go, Draw, CookieSet, CookieGet}
use Rattle.ibos_kinds.specs.declared.act.Act.TheVariants.{Bind, Unbind, Done, RegRead, RegWrite}
use Rattle.ibos_kinds.specs.declared.act.Act.TheVariants.{RxPost, RxBell, WireIn, Fill, Submit}
use Rattle.ibos_kinds.specs.declared.act.Act.TheVariants.{TxPost, TxBell, WireOut, Put, Ask}
use Rattle.ibos_kinds.specs.declared.act.Act.TheVariants.{StoreAnswer, StoreNone, StoreLose}
use Rattle.ibos_kinds.specs.declared.outcome.Head.TheVariants.{Ok as Fine, Denied}
use Rattle.ibos_kinds.specs.declared.outcome.Item.{Item}
use Rattle.ibos_kinds.specs.declared.outcome.Item.TheVariants.{Opened, Moved, Ended, KeyTo, ClickTo}
use Rattle.ibos_kinds.specs.declared.outcome.Item.TheVariants.{Cookies, RowIs, FlowIs}
use Rattle.ibos_kinds.specs.declared.outcome.Item.TheVariants.{ValueIs, VerdictIs, SendIs, Accepted}
use Rattle.ibos_kinds.specs.declared.outcome.Item.TheVariants.{SentIs, Idle, VersionIs, StorePut}
use Rattle.ibos_kinds.specs.declared.outcome.Item.TheVariants.{RequestIs, StoreAsk, Object}
use Rattle.ibos_kinds.specs.declared.outcome.Item.TheVariants.{NoObject}
use Rattle.ibos_kinds.specs.declared.outcome.Outcome.{Outcome}
use Rattle.ibos_kinds.specs.declared.cookies.Cookie.{Cookie}
use Rattle.ibos_kinds.specs.Cookies.{set_breaks, jar_text}
use Rattle.ibos_kinds.specs.Labels.{ask_answer, label_answer, lose_answer, none_answer, put_answer}
use Rattle.ibos_kinds.specs.Objects.{KeyObject, newest_in}
use Rattle.ibos_kinds.specs.Requests.{Requests}
use Rattle.ibos_kinds.specs.Sends.{fill_rule, submit_rule}
use Rattle.ibos_kinds.specs.Keyboard.{key_breaks, key_byte}
use Rattle.ibos_kinds.specs.Screens.{chrome_rows, content_rows, draw_breaks, is_on_screen}
use Rattle.ibos_origin.specs.Hosts.{HostTable}
use Rattle.ibos_origin.specs.Pages.{Page, allowed}
use Rattle.ibos_model.specs.Journal.{Journal}
use Rattle.ibos_model.specs.Focus.{Focus, focus_of}
use Rattle.ibos_model.specs.Tabs.{Tabs, Life, Unborn, Alive, Gone, tabs, next_in, life_of}
use Rattle.ibos_model.specs.Tabs.{origin_in, origin_of, active_of}
use Rattle.ibos_model.specs.Jars.{jar, sets_of}
use Rattle.ibos_model.specs.Network.{Network, bell_items, bound_to, endpoint_for, network, over_in}
use Rattle.ibos_model.specs.Network.{return_items, waits}
use Rattle.ibos_model.specs.Rings.{Rings, can_send, next_send, register, values_in, verdict_at}
use Rattle.ibos_model.specs.Stored.{objects_of, open_key, requests_of}
use Rattle.ibos_model.specs.Screen.{screen, seen_row}

abbrev pub denied : Rule → Outcome
denied rule = record { head = Denied rule; items = [] }

abbrev pub accepted : List Item → Outcome
accepted items = record { head = Fine; items = items }

-- an act of an instance is denied before its start and after its end
abbrev pub admitted : Life → Outcome → Outcome
admitted Unborn row = denied P1
admitted Alive row = row
admitted Gone row = denied P2

abbrev pub answer : Option Rule → Outcome
answer None = accepted []
answer (Some rule) = denied rule

-- a set, over the sets of its origin so far
abbrev pub set_outcome : List ℕ → List Cookie → Outcome
set_outcome text sets = answer (set_breaks text (jar sets))

abbrev pub get_outcome : Instance → List Cookie → Outcome
get_outcome who sets = accepted (Cookies who (jar_text (jar sets)) ∷ [])

abbrev pub open_outcome : Instance → Result Page Rule → Outcome
open_outcome next (Ok page) = accepted (Opened next page.url ∷ [])
open_outcome next (Err rule) = denied rule

-- a tab has one live instance at a time, and 32 in a run
abbrev pub start_outcome : Option Instance → Instance → Result Page Rule → Outcome
start_outcome (Some live) next r = denied U1
start_outcome None next r = if nat_lt next.ord 32 then open_outcome next r else denied U3

abbrev pub switch_outcome : Option Instance → Outcome
switch_outcome None = denied U2
switch_outcome (Some who) = accepted []

abbrev pub close_outcome : Option Instance → Outcome
close_outcome None = denied U2
close_outcome (Some who) = accepted (Ended who ∷ [])

-- an instance leaves its origin: it ends, and the tab's next one opens, if there is one
abbrev pub leave_outcome : Instance → Instance → Page → Outcome
leave_outcome who next page = if nat_lt who.ord 31
    then accepted (Ended who ∷ Opened next page.url ∷ []) else denied U3

-- an instance goes to a page of its origin or of another
abbrev pub go_outcome : Instance → List ℕ → Instance → Result Page Rule → Outcome
go_outcome who origin next (Ok page) = if bytes_eq page.origin origin
    then accepted (Moved who page.url ∷ []) else leave_outcome who next page
go_outcome who origin next (Err rule) = denied rule

-- a key with the focus at the content goes to the active instance
abbrev pub page_key_outcome : Option Instance → Key → Outcome
page_key_outcome None key = accepted []
page_key_outcome (Some who) key = accepted (KeyTo who (key_byte key) ∷ [])

-- Enter at the entry line: the active instance goes to the page that stands there
abbrev pub enter_outcome : Tabs → Option Instance → Result Page Rule → Outcome
enter_outcome t None r = denied U10
enter_outcome t (Some who) r = go_outcome who (origin_in t who) (next_in t who.tab) r

-- a key with the focus at the entry line
abbrev pub entry_key_outcome : HostTable → Tabs → List ℕ → Option Instance → Key → Outcome
entry_key_outcome H t entry active Enter = enter_outcome t active (allowed H entry)
entry_key_outcome H t entry active key = answer (key_breaks entry key)

abbrev pub press_outcome : HostTable → Tabs → Focus → Option Instance → Key → Outcome
press_outcome H t f active key = if f.at_entry_line
    then entry_key_outcome H t f.entry_line active key else page_key_outcome active key

-- a click on the content goes to the active instance, by the content's own rows
abbrev pub content_click_outcome : Option Instance → ℕ → ℕ → Outcome
content_click_outcome None row col = denied U10
content_click_outcome (Some who) row col = accepted (ClickTo who row col ∷ [])

abbrev pub click_outcome : Option Instance → ℕ → ℕ → Outcome
click_outcome active row col =
    if not (is_on_screen row col) then denied U12
    else if nat_lt row chrome_rows then accepted []
    else content_click_outcome active (row - chrome_rows) col

-- rows of the screen, from one of that number on
abbrev pub rows_from : ℕ → ℕ → (ℕ → List ℕ) → List Item
rows_from r zero f = []
rows_from r (suc n) f = RowIs r (f r) ∷ rows_from (r + 1) n f

abbrev pub look_outcome : (ℕ → List ℕ) → Outcome
look_outcome f = accepted (rows_from 0 (chrome_rows + content_rows) f)

abbrev pub draw_outcome : ℕ → ℕ → ℕ → ℕ → List ℕ → Outcome
draw_outcome row col height width pixels = answer (draw_breaks row col height width pixels)

-- a flow is bound: its number, its port and the other end
abbrev pub bound_outcome : Instance → Endpoint → Result ℕ Rule → Outcome
bound_outcome who remote (Ok flow) = accepted (FlowIs who flow (port_of who flow) remote ∷ [])
bound_outcome who remote (Err rule) = denied rule

abbrev pub bind_outcome : Instance → Bound → Outcome
bind_outcome who bound = bound_outcome who bound.remote (bind_answer bound)

abbrev pub unless_denied : Result Unit Rule → Outcome
unless_denied (Ok x) = accepted []
unless_denied (Err rule) = denied rule

abbrev pub unbind_outcome : Bound → ℕ → Outcome
unbind_outcome bound flow = unless_denied (close_answer flow bound)

abbrev pub done_outcome : List (List ℕ) → Outcome
done_outcome [] = denied N6
done_outcome (w ∷ unread) = accepted []

abbrev pub value_at : (Reg → ℕ) → Option Reg → ℕ
value_at registers None = 0
value_at registers (Some reg) = registers reg

-- where no rule is broken, the value of the register
abbrev pub value_outcome : Option Rule → ℕ → Outcome
value_outcome None value = accepted (ValueIs value ∷ [])
value_outcome (Some rule) value = denied rule

abbrev pub read_outcome : (Reg → ℕ) → ℕ → Outcome
read_outcome registers offset = value_outcome (read_rule offset)
    (value_at registers (reg_at offset))

abbrev pub post_outcome : Rings → ℕ → Handle → Outcome
post_outcome r slot handle = answer (receive_rule r.receive r.names r.turns slot handle)

abbrev pub fill_outcome : Bool → ℕ → List ℕ → Outcome
fill_outcome away place bytes = answer (fill_rule away place (length bytes))

-- a send is accepted: the driver may post it, and its frame is written down
abbrev pub submit_outcome : ℕ → Instance → List ℕ → Option Rule → Outcome
submit_outcome number who bytes None = accepted (SendIs number ∷ Accepted number who bytes ∷ [])
submit_outcome number who bytes (Some rule) = denied rule

-- the frame is what the buffer begins with
abbrev pub submitted_outcome : Local → ℕ → Instance → Bound → Bool → ℕ → List ℕ → Outcome
submitted_outcome local number who bound away len buffer =
    submit_outcome number who (take len buffer) (submit_rule local who (Some bound) away len buffer)

abbrev pub send_post_outcome : Network → ℕ → ℕ → Outcome
send_post_outcome n slot send =
    answer (transmit_rule n.rings.transmit (waits n send) slot)

abbrev pub wire_out_outcome : Rings → Outcome
wire_out_outcome r = if can_send r then accepted (SentIs (next_send r) ∷ [])
    else accepted (Idle ∷ [])

-- an object is stored, in one version more; the storage process is told its label and its length
abbrev pub version_outcome : Instance → List ℕ → List ℕ → List ℕ → Result ℕ Rule → Outcome
version_outcome who origin key bytes (Ok version) =
    accepted (VersionIs who version ∷ StorePut origin key version (length bytes) ∷ [])
version_outcome who origin key bytes (Err rule) = denied rule

abbrev pub put_outcome : Instance → List ℕ → List ℕ → List ℕ → List KeyObject → Outcome
put_outcome who origin key bytes objects =
    version_outcome who origin key bytes (put_answer key bytes objects)

abbrev pub request_outcome : Instance → List ℕ → List ℕ → Result ℕ Rule → Outcome
request_outcome who origin key (Ok request) =
    accepted (RequestIs who request ∷ StoreAsk who request origin key ∷ [])
request_outcome who origin key (Err rule) = denied rule

abbrev pub ask_outcome : Instance → List ℕ → List ℕ → Requests → Outcome
ask_outcome who origin key requests =
    request_outcome who origin key (ask_answer key requests)

abbrev pub object_outcome : Instance → ℕ → ℕ → Result (List ℕ) Rule → Outcome
object_outcome who request version (Ok bytes) = accepted (Object who request version bytes ∷ [])
object_outcome who request version (Err rule) = denied rule

abbrev pub none_outcome : Instance → ℕ → Result Unit Rule → Outcome
none_outcome who request (Ok x) = accepted (NoObject who request ∷ [])
none_outcome who request (Err rule) = denied rule

-- the key of a request of an instance that lives
abbrev pub asked_key : HostTable → Journal → Instance → ℕ → Option (List ℕ)
asked_key H J who request = open_key (life_of H J who) (requests_of J who) request

-- what an instance has bound
abbrev pub bound_in : HostTable → Journal → Instance → Bound
bound_in H J who = bound_to (endpoint_for H (origin_of H J who)) ((network J).flows who)

-- the outcome of an act after a journal, where its actor may act
abbrev pub act_outcome : HostTable → Journal → Act → Outcome
act_outcome H J (Start tab url) = start_outcome ((tabs H J).live tab) (next_in (tabs H J) tab)
    (allowed H url)
act_outcome H J (Switch tab) = switch_outcome ((tabs H J).live tab)
act_outcome H J (Close tab) = close_outcome ((tabs H J).live tab)
act_outcome H J (Press key) = press_outcome H (tabs H J) (focus_of J) (active_of H J) key
act_outcome H J (Click row col) = click_outcome (active_of H J) row col
act_outcome H J Look = look_outcome (seen_row (screen H J))
act_outcome H J (Draw who row col height width pixels) = draw_outcome row col height width pixels
act_outcome H J (Go who url) = go_outcome who (origin_of H J who) (next_in (tabs H J) who.tab)
    (allowed H url)
act_outcome H J (CookieSet side who text) = set_outcome text (sets_of H J (origin_of H J who))
act_outcome H J (CookieGet side who) = get_outcome who (sets_of H J (origin_of H J who))
act_outcome H J (Bind who proto) = bind_outcome who (bound_in H J who)
act_outcome H J (Unbind who flow) = unbind_outcome (bound_in H J who) flow
act_outcome H J (Done who) = done_outcome ((network J).unread who)
act_outcome H J (RegRead offset) = read_outcome (register H.local (network J).rings) offset
act_outcome H J (RegWrite offset value) =
    answer (write_rule (values_in (network J).rings) offset value)
act_outcome H J (RxPost slot handle) = post_outcome (network J).rings slot handle
act_outcome H J RxBell = accepted (bell_items H (tabs H J) (network J))
act_outcome H J (WireIn frame) =
    accepted (VerdictIs (verdict_at H.local (network J).rings frame) ∷ [])
act_outcome H J (Fill who buffer place bytes) =
    fill_outcome ((network J).away who buffer) place bytes
act_outcome H J (Submit who buffer len) = submitted_outcome H.local (length (network J).sends) who
    (bound_in H J who) ((network J).away who buffer) len ((network J).buffers who buffer)
act_outcome H J (TxPost slot send) = send_post_outcome (network J) slot send
act_outcome H J TxBell = accepted (return_items (over_in (tabs H J)) (network J))
act_outcome H J WireOut = wire_out_outcome (network J).rings
act_outcome H J (Put who key bytes) =
    put_outcome who (origin_of H J who) key bytes (objects_of H J (origin_of H J who))
act_outcome H J (Ask who key) = ask_outcome who (origin_of H J who) key (requests_of J who)
act_outcome H J (StoreAnswer who request origin key version) = object_outcome who request version
    (label_answer (asked_key H J who request) (origin_of H J who) origin key version
    (newest_in (objects_of H J origin) key))
act_outcome H J (StoreNone who request) =
    none_outcome who request (none_answer (asked_key H J who request))
act_outcome H J (StoreLose origin key version) =
    unless_denied (lose_answer version (newest_in (objects_of H J origin) key))

-- an instance acts while it lives, and all others always
abbrev pub life_of_party : (Instance → Life) → Party → Life
life_of_party life (PageOf who) = life who
life_of_party life other = Alive

-- the outcome of an act after a journal
abbrev pub out : HostTable → Journal → Act → Outcome
out H J a = admitted (life_of_party (life_of H J) (actor a)) (act_outcome H J a)
