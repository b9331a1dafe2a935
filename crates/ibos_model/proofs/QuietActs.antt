-- Which acts have to do with the device's log.
use Rattle.std.proofs.Common.{◌≡◌, ℕ, List, [], ◌∷◌, Bool, true, false, Option, Some, None, Ok, Err, Result, refl}
use Rattle.std.specs.Prelude.{if◌then◌else◌, bytes_eq, length, nat_lt, not, take, ◌-◌}
use Rattle.ibos_kinds.specs.declared.act.Act.TheVariants.{Start, Switch, Close, Press, Click, Look, Go, Draw, CookieSet, CookieGet, Bind, Unbind, Done, RegRead, RegWrite, RxPost, RxBell, WireIn, Fill, Submit, TxPost, TxBell, WireOut, Put, Ask, StoreAnswer, StoreNone, StoreLose}
use Rattle.ibos_kinds.specs.declared.names.Endpoint.{Endpoint}
use Rattle.ibos_kinds.specs.declared.names.Handle.{Handle}
use Rattle.ibos_kinds.specs.declared.names.Instance.{Instance}
use Rattle.ibos_kinds.specs.declared.names.Key.{Key}
use Rattle.ibos_kinds.specs.declared.names.Key.TheVariants.{Byte, Enter, Back}
use Rattle.ibos_kinds.specs.declared.names.Local.{Local}
use Rattle.ibos_kinds.specs.declared.outcome.Item.TheVariants.{Opened, Moved, Ended}
use Rattle.ibos_kinds.specs.declared.outcome.Outcome.{Outcome}
use Rattle.ibos_kinds.specs.declared.rule.Rule.{Rule}
use Rattle.ibos_kinds.specs.declared.rule.Rule.TheVariants.{U3, U12}
use Rattle.ibos_kinds.specs.Bells.{bell}
use Rattle.ibos_kinds.specs.Cookies.{set_breaks}
use Rattle.ibos_kinds.specs.Flows.{Bound, bind_answer, close_answer}
use Rattle.ibos_kinds.specs.Keyboard.{key_breaks}
use Rattle.ibos_kinds.specs.Labels.{ask_answer, label_answer, lose_answer, none_answer, put_answer}
use Rattle.ibos_kinds.specs.Objects.{newest_in}
use Rattle.ibos_kinds.specs.Screens.{chrome_rows, draw_breaks, is_on_screen}
use Rattle.ibos_kinds.specs.Sends.{Send, fill_rule, returned_items, submit_rule}
use Rattle.ibos_nic.specs.Parts.{reg_at}
use Rattle.ibos_nic.specs.Rules.{read_rule, receive_rule, transmit_rule, write_rule}
use Rattle.ibos_origin.specs.Hosts.{HostTable}
use Rattle.ibos_origin.specs.Pages.{Page, allowed}
use Rattle.ibos_model.specs.Focus.{focus_of}
use Rattle.ibos_model.specs.Jars.{jar, sets_of}
use Rattle.ibos_model.specs.Journal.{Nothing, kind_of}
use Rattle.ibos_model.specs.Laws.{AreLoggedAlone}
use Rattle.ibos_model.specs.Network.{ear_in, network, over_in, unread_count, waits}
use Rattle.ibos_model.specs.Outcomes.{accepted, admitted, answer, asked_key, bound_in, bound_outcome, close_outcome, content_click_outcome, denied, done_outcome, enter_outcome, entry_key_outcome, get_outcome, go_outcome, leave_outcome, none_outcome, object_outcome, open_outcome, page_key_outcome, request_outcome, start_outcome, submit_outcome, switch_outcome, unless_denied, value_at, value_outcome, version_outcome}
use Rattle.ibos_model.specs.Rings.{handles_after, outbound, register, values_in}
use Rattle.ibos_model.specs.Stored.{objects_of, requests_of}
use Rattle.ibos_model.specs.Tabs.{Life, Unborn, Alive, Gone, Tabs, active_of, life_of, next_in, origin_in, origin_of, tabs}

abbrev IsQuiet : Outcome → Type 0
IsQuiet outcome = kind_of outcome ≡ Nothing

admitted_quiet : (life : Life) (outcome : Outcome) → IsQuiet outcome → IsQuiet (admitted life outcome)
admitted_quiet Unborn outcome is = refl
admitted_quiet Alive outcome is = is
admitted_quiet Gone outcome is = refl

answer_quiet : (rule : Option Rule) → IsQuiet (answer rule)
answer_quiet None = refl
answer_quiet (Some rule) = refl

-- ---- the user, and renderers

open_quiet : (next : Instance) (r : Result Page Rule) → IsQuiet (open_outcome next r)
open_quiet next (Ok page) = refl
open_quiet next (Err rule) = refl

start_quiet : (live : Option Instance) (next : Instance) (r : Result Page Rule) → IsQuiet (start_outcome live next r)
start_quiet (Some who) next r = refl
start_quiet None next r = by_room (nat_lt next.ord 32)
  where
    by_room : (room : Bool) → IsQuiet (if room then open_outcome next r else denied U3)
    by_room true = open_quiet next r
    by_room false = refl

switch_quiet : (live : Option Instance) → IsQuiet (switch_outcome live)
switch_quiet None = refl
switch_quiet (Some who) = refl

close_quiet : (live : Option Instance) → IsQuiet (close_outcome live)
close_quiet None = refl
close_quiet (Some who) = refl

leave_quiet : (who next : Instance) (page : Page) → IsQuiet (leave_outcome who next page)
leave_quiet who next page = by_room (nat_lt who.ord 31)
  where
    by_room : (room : Bool) → IsQuiet (if room then accepted (Ended who ∷ Opened next page.url ∷ []) else denied U3)
    by_room true = refl
    by_room false = refl

go_quiet : (who : Instance) (origin : List ℕ) (next : Instance) (r : Result Page Rule) → IsQuiet (go_outcome who origin next r)
go_quiet who origin next (Err rule) = refl
go_quiet who origin next (Ok page) = by_origin (bytes_eq page.origin origin)
  where
    by_origin : (within : Bool) → IsQuiet (if within then accepted (Moved who page.url ∷ []) else leave_outcome who next page)
    by_origin true = refl
    by_origin false = leave_quiet who next page

page_key_quiet : (active : Option Instance) (key : Key) → IsQuiet (page_key_outcome active key)
page_key_quiet None key = refl
page_key_quiet (Some who) key = refl

enter_quiet : (t : Tabs) (active : Option Instance) (r : Result Page Rule) → IsQuiet (enter_outcome t active r)
enter_quiet t None r = refl
enter_quiet t (Some who) r = go_quiet who (origin_in t who) (next_in t who.tab) r

entry_key_quiet : (H : HostTable) (t : Tabs) (entry : List ℕ) (active : Option Instance) (key : Key) → IsQuiet (entry_key_outcome H t entry active key)
entry_key_quiet H t entry active Enter = enter_quiet t active (allowed H entry)
entry_key_quiet H t entry active (Byte byte) = answer_quiet (key_breaks entry (Byte byte))
entry_key_quiet H t entry active Back = answer_quiet (key_breaks entry Back)

press_quiet : (H : HostTable) (t : Tabs) (entry : List ℕ) (at_entry_line : Bool) (active : Option Instance) (key : Key)
    → IsQuiet (if at_entry_line then entry_key_outcome H t entry active key else page_key_outcome active key)
press_quiet H t entry true active key = entry_key_quiet H t entry active key
press_quiet H t entry false active key = page_key_quiet active key

content_click_quiet : (active : Option Instance) (row col : ℕ) → IsQuiet (content_click_outcome active row col)
content_click_quiet None row col = refl
content_click_quiet (Some who) row col = refl

click_quiet : (active : Option Instance) (row col : ℕ) (off chrome : Bool) → IsQuiet (if off then denied U12 else if chrome then accepted [] else content_click_outcome active row col)
click_quiet active row col true chrome = refl
click_quiet active row col false true = refl
click_quiet active row col false false = content_click_quiet active row col

-- ---- network processes and the driver

bound_quiet : (who : Instance) (remote : Endpoint) (r : Result ℕ Rule) → IsQuiet (bound_outcome who remote r)
bound_quiet who remote (Ok flow) = refl
bound_quiet who remote (Err rule) = refl

unless_quiet : (r : Result Unit Rule) → IsQuiet (unless_denied r)
unless_quiet (Ok x) = refl
unless_quiet (Err rule) = refl

done_quiet : (unread : List (List ℕ)) → IsQuiet (done_outcome unread)
done_quiet [] = refl
done_quiet (w ∷ ws) = refl

value_quiet : (rule : Option Rule) (value : ℕ) → IsQuiet (value_outcome rule value)
value_quiet None value = refl
value_quiet (Some rule) value = refl

bell_quiet : (local : Local) (ears : Instance → Option Bound) (unread : Instance → ℕ) (hs : List Handle) (ws : List (List ℕ)) → IsQuiet (accepted (bell local ears unread hs ws))
unfolding bell
bell_quiet local ears unread hs [] = refl
bell_quiet local ears unread hs (w ∷ ws) = refl

submit_quiet : (number : ℕ) (who : Instance) (bytes : List ℕ) (rule : Option Rule) → IsQuiet (submit_outcome number who bytes rule)
submit_quiet number who bytes None = refl
submit_quiet number who bytes (Some rule) = refl

return_quiet : (ended : Instance → Bool) (sends : List Send) (numbers : List ℕ) → IsQuiet (accepted (returned_items ended sends numbers))
unfolding returned_items
return_quiet ended sends [] = refl
return_quiet ended sends (number ∷ numbers) = refl

-- ---- stored objects

version_quiet : (who : Instance) (origin key bytes : List ℕ) (r : Result ℕ Rule) → IsQuiet (version_outcome who origin key bytes r)
version_quiet who origin key bytes (Ok version) = refl
version_quiet who origin key bytes (Err rule) = refl

request_quiet : (who : Instance) (origin key : List ℕ) (r : Result ℕ Rule) → IsQuiet (request_outcome who origin key r)
request_quiet who origin key (Ok request) = refl
request_quiet who origin key (Err rule) = refl

object_quiet : (who : Instance) (request version : ℕ) (r : Result (List ℕ) Rule) → IsQuiet (object_outcome who request version r)
object_quiet who request version (Ok bytes) = refl
object_quiet who request version (Err rule) = refl

none_quiet : (who : Instance) (request : ℕ) (r : Result Unit Rule) → IsQuiet (none_outcome who request r)
none_quiet who request (Ok x) = refl
none_quiet who request (Err rule) = refl

-- ---- all acts

pub logged_alone : AreLoggedAlone
logged_alone H J (Start tab url) is = start_quiet ((tabs H J).live tab) (next_in (tabs H J) tab) (allowed H url)
logged_alone H J (Switch tab) is = switch_quiet ((tabs H J).live tab)
logged_alone H J (Close tab) is = close_quiet ((tabs H J).live tab)
logged_alone H J (Press key) is = press_quiet H (tabs H J) (focus_of J).entry_line (focus_of J).at_entry_line (active_of H J) key
logged_alone H J (Click row col) is = click_quiet (active_of H J) (row - chrome_rows) col (not (is_on_screen row col)) (nat_lt row chrome_rows)
logged_alone H J Look is = refl
logged_alone H J (Go who url) is = admitted_quiet (life_of H J who) _ (go_quiet who (origin_of H J who) (next_in (tabs H J) who.tab) (allowed H url))
logged_alone H J (Draw who row col height width pixels) is = admitted_quiet (life_of H J who) _ (answer_quiet (draw_breaks row col height width pixels))
logged_alone H J (CookieSet side who text) is = admitted_quiet (life_of H J who) _ (answer_quiet (set_breaks text (jar (sets_of H J (origin_of H J who)))))
logged_alone H J (CookieGet side who) is = admitted_quiet (life_of H J who) (get_outcome who (sets_of H J (origin_of H J who))) refl
logged_alone H J (Bind who proto) is = admitted_quiet (life_of H J who) _ (bound_quiet who (bound_in H J who).remote (bind_answer (bound_in H J who)))
logged_alone H J (Unbind who flow) is = admitted_quiet (life_of H J who) _ (unless_quiet (close_answer flow (bound_in H J who)))
logged_alone H J (Done who) is = admitted_quiet (life_of H J who) _ (done_quiet ((network J).unread who))
logged_alone H J (RegRead offset) is = value_quiet (read_rule offset) (value_at (register H.local (network J).rings) (reg_at offset))
logged_alone H J (RegWrite offset value) is = answer_quiet (write_rule (values_in (network J).rings) offset value)
logged_alone H J (RxPost slot handle) is = let r = (network J).rings in answer_quiet (receive_rule r.receive r.names r.turns slot handle)
logged_alone H J RxBell is = let n = network J in bell_quiet H.local (ear_in H (tabs H J) n) (unread_count n) (handles_after n.rings) n.pending
logged_alone H J (WireIn frame) is = cc
logged_alone H J WireOut is = cc
logged_alone H J (Fill who buffer place bytes) is = admitted_quiet (life_of H J who) _ (answer_quiet (fill_rule ((network J).away who buffer) place (length bytes)))
logged_alone H J (Submit who buffer len) is =
    let n = network J in
    admitted_quiet (life_of H J who) _ (submit_quiet (length n.sends) who (take len (n.buffers who buffer)) (submit_rule H.local who (Some (bound_in H J who)) (n.away who buffer) len (n.buffers who buffer)))
logged_alone H J (TxPost slot send) is = let n = network J in answer_quiet (transmit_rule n.rings.transmit (waits n send) slot)
logged_alone H J TxBell is = let n = network J in return_quiet (over_in (tabs H J)) n.sends (outbound n.rings)
logged_alone H J (Put who key bytes) is =
    let origin = origin_of H J who in
    admitted_quiet (life_of H J who) _ (version_quiet who origin key bytes (put_answer key bytes (objects_of H J origin)))
logged_alone H J (Ask who key) is =
    admitted_quiet (life_of H J who) _ (request_quiet who (origin_of H J who) key (ask_answer key (requests_of J who)))
logged_alone H J (StoreAnswer who request origin key version) is =
    object_quiet who request version (label_answer (asked_key H J who request) (origin_of H J who) origin key version (newest_in (objects_of H J origin) key))
logged_alone H J (StoreNone who request) is = none_quiet who request (none_answer (asked_key H J who request))
logged_alone H J (StoreLose origin key version) is = unless_quiet (lose_answer version (newest_in (objects_of H J origin) key))
