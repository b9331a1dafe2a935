-- An act of the net half leaves the half of the pages, and both halves go on to the journal with
-- its entry.
use Rattle.std.proofs.Common.{◌≡◌, ℕ, Bool, true, false, List, ◌∷◌, Option, Some, None, Result, Ok, Err, OnErr, refl, sym, ◌∙◌, ap, subst}
use Rattle.std.specs.Prelude.{nat_lt, if◌then◌else◌}
use Rattle.ibos_kinds.specs.declared.act.Act.{Act}
use Rattle.ibos_kinds.specs.declared.act.Act.TheVariants.{Bind, Unbind, Done, RegRead, RegWrite, RxPost, RxBell, WireIn, Fill, Submit, TxPost, TxBell, WireOut}
use Rattle.ibos_kinds.specs.declared.names.Endpoint.{Endpoint}
use Rattle.ibos_kinds.specs.declared.names.Instance.{Instance}
use Rattle.ibos_kinds.specs.declared.names.Local.{Local}
use Rattle.ibos_kinds.specs.declared.outcome.Outcome.{Outcome}
use Rattle.ibos_kinds.specs.declared.party.Party.{Party}
use Rattle.ibos_kinds.specs.declared.party.Party.TheVariants.{Page, Driver, Store, User, Wire, Log}
use Rattle.ibos_kinds.specs.declared.rule.Rule.{Rule}
use Rattle.ibos_kinds.specs.declared.rule.Rule.TheVariants.{P1, P2}
use Rattle.ibos_kinds.specs.Parties.{actor}
use Rattle.ibos_nic.specs.declared.log.LogEntry.{LogEntry}
use Rattle.ibos_nic.specs.Registers.{Registers}
use Rattle.ibos_origin.specs.Hosts.{HostTable}
use Rattle.ibos_page.specs.Tabs.{TabTable, admission, admitted_by, is_live_in, seat_at}
use Rattle.ibos_route.specs.Parties.{admission_by, admission_of}
use Rattle.ibos_model.specs.Focus.{Focus, focus_of}
use Rattle.ibos_model.specs.Jars.{sets_of}
use Rattle.ibos_model.specs.Journal.{Entry, Journal, frame_of, is_ok}
use Rattle.ibos_model.specs.Laws.{AreSentInTurn, IsUnchanged, Views}
use Rattle.ibos_model.specs.Logs.{Loses, got_for, log_after}
use Rattle.ibos_model.specs.Network.{Network, network, next_frame, sent_frames}
use Rattle.ibos_model.specs.Outcomes.{act_outcome, admitted, denied, life_of_party, out}
use Rattle.ibos_model.specs.Runs.{Follows}
use Rattle.ibos_model.specs.Stored.{objects_of, requests_of}
use Rattle.ibos_model.specs.Screen.{cell_of}
use Rattle.ibos_model.specs.Tabs.{Life, Unborn, Alive, Gone, Tabs, life_of, tabs}
use Rattle.ibos_net.specs.NetStanding.{AreRegisters, IsWithLife, NetMakes, NetState, NetStands, is_net, net_outcome}
use Rattle.ibos_kernel.specs.Tables.{Parts, let_in}
use Rattle.ibos_kernel.specs.Standing.{Agrees, NetStandsFor, PartsStand, TabsStand, entry, life_at, remote_of}
use Rattle.ibos_kernel.specs.Halves.{GoOn, HalvesStand}
use Rattle.ibos_kernel.proofs.LogsGrow.{sent_grows, written_fits, written_grows}
use Rattle.ibos_kernel.proofs.Outcomes.{let_in_by}

-- ---- the pages' half

-- an act that changes no view of the pages' half
stays : (J : Journal) (t : Parts) (e : Entry) → PartsStand J t → Follows t.hosts J e → tabs t.hosts (e ∷ J) ≡ tabs t.hosts J → focus_of (e ∷ J) ≡ focus_of J
    → ((o : List ℕ) → sets_of t.hosts (e ∷ J) o ≡ sets_of t.hosts J o) → ((q : Instance) (r c : ℕ) → cell_of (e ∷ J) q r c ≡ cell_of J q r c)
    → ((o : List ℕ) → objects_of t.hosts (e ∷ J) o ≡ objects_of t.hosts J o) → ((q : Instance) → requests_of (e ∷ J) q ≡ requests_of J q) → PartsStand (e ∷ J) t
stays J t e stands follows same_tabs same_focus same_sets same_cells same_objects same_requests = record {
  run = (follows, stands.run);
  tabs = let P : Tabs → Type 0 = λ T. TabsStand T t.tabs in subst P (sym same_tabs) stands.tabs;
  active = ap (λ (f : Focus). f.tab) same_focus ∙ stands.active;
  jars = λ o. rw (same_sets o) (stands.jars o);
  objects = λ o. stands.objects o ∙ sym (same_objects o);
  requests = λ q. rw (same_requests q) (stands.requests q);
  displays = record {
    spot = ap (λ (f : Focus). f.at_entry_line) same_focus ∙ stands.displays.spot;
    entry_line = ap (λ (f : Focus). f.entry_line) same_focus ∙ stands.displays.entry_line;
    cells = λ q r c low left live. stands.displays.cells q r c low left live ∙ sym (same_cells q r c);
    blank = λ q r c past. same_cells q r c ∙ stands.displays.blank q r c past;
    tied = stands.displays.tied;
  };
}

pub net_keeps : (J : Journal) (t : Parts) (act : Act) (outcome : Outcome) (log : List LogEntry) → is_net act ≡ true → PartsStand J t → outcome ≡ out t.hosts J act
    → PartsStand (entry act outcome log ∷ J) t
unfolding tabs focus_of sets_of cell_of objects_of requests_of
net_keeps J t (Bind who proto) outcome log net stands is = stays J t _ stands (record { outcome = is; written = written_fits outcome log }) refl refl (λ o. refl) (λ q r c. refl) (λ o. refl) (λ q. refl)
net_keeps J t (Unbind who flow) outcome log net stands is = stays J t _ stands (record { outcome = is; written = written_fits outcome log }) refl refl (λ o. refl) (λ q r c. refl) (λ o. refl) (λ q. refl)
net_keeps J t (Done who) outcome log net stands is = stays J t _ stands (record { outcome = is; written = written_fits outcome log }) refl refl (λ o. refl) (λ q r c. refl) (λ o. refl) (λ q. refl)
net_keeps J t (RegRead offset) outcome log net stands is = stays J t _ stands (record { outcome = is; written = written_fits outcome log }) refl refl (λ o. refl) (λ q r c. refl) (λ o. refl) (λ q. refl)
net_keeps J t (RegWrite offset value) outcome log net stands is = stays J t _ stands (record { outcome = is; written = written_fits outcome log }) refl refl (λ o. refl) (λ q r c. refl) (λ o. refl) (λ q. refl)
net_keeps J t (RxPost slot handle) outcome log net stands is = stays J t _ stands (record { outcome = is; written = written_fits outcome log }) refl refl (λ o. refl) (λ q r c. refl) (λ o. refl) (λ q. refl)
net_keeps J t RxBell outcome log net stands is = stays J t _ stands (record { outcome = is; written = written_fits outcome log }) refl refl (λ o. refl) (λ q r c. refl) (λ o. refl) (λ q. refl)
net_keeps J t (WireIn frame) outcome log net stands is = stays J t _ stands (record { outcome = is; written = written_fits outcome log }) refl refl (λ o. refl) (λ q r c. refl) (λ o. refl) (λ q. refl)
net_keeps J t (Fill who buffer place bytes) outcome log net stands is = stays J t _ stands (record { outcome = is; written = written_fits outcome log }) refl refl (λ o. refl) (λ q r c. refl) (λ o. refl) (λ q. refl)
net_keeps J t (Submit who buffer len) outcome log net stands is = stays J t _ stands (record { outcome = is; written = written_fits outcome log }) refl refl (λ o. refl) (λ q r c. refl) (λ o. refl) (λ q. refl)
net_keeps J t (TxPost slot send) outcome log net stands is = stays J t _ stands (record { outcome = is; written = written_fits outcome log }) refl refl (λ o. refl) (λ q r c. refl) (λ o. refl) (λ q. refl)
net_keeps J t TxBell outcome log net stands is = stays J t _ stands (record { outcome = is; written = written_fits outcome log }) refl refl (λ o. refl) (λ q r c. refl) (λ o. refl) (λ q. refl)
net_keeps J t WireOut outcome log net stands is = stays J t _ stands (record { outcome = is; written = written_fits outcome log }) refl refl (λ o. refl) (λ q r c. refl) (λ o. refl) (λ q. refl)
net_keeps J t other outcome log net stands is = absurd (cc net)

-- ---- who may act

-- a party is let in as the journal admits it
admits : (H : HostTable) (J : Journal) (t : TabTable) (party : Party) (row : Outcome) → TabsStand (tabs H J) t
    → admitted (life_of_party (life_of H J) party) row ≡ let_in (admission_by t party) row
admits H J t (Page who) row shows = let_in_by (tabs H J) t who row shows
admits H J t Driver row shows = refl
admits H J t Store row shows = refl
admits H J t User row shows = refl
admits H J t Wire row shows = refl
admits H J t Log row shows = refl

-- who is admitted is alive
alive_if : (t : TabTable) (who : Instance) → admission t who ≡ None → life_at t who ≡ Alive
alive_if t who free = by_tests (is_live_in who (seat_at t who.tab)) (nat_lt who.ord (seat_at t who.tab).count) free
  where
    by_tests : (live past : Bool) → (if live then None else if past then Some P2 else Some P1) ≡ None → (if live then Alive else if past then Gone else Unborn) ≡ Alive
    by_tests true past h = refl
    by_tests false true h = absurd (cc h)
    by_tests false false h = absurd (cc h)

pub with_life_if : (J : Journal) (t : Parts) (act : Act) → PartsStand J t → admission_of t.tabs act ≡ None → IsWithLife (life_of t.hosts J) act
with_life_if J t (Bind who proto) stands free = stands.tabs.life who ∙ alive_if t.tabs who free
with_life_if J t (Unbind who flow) stands free = stands.tabs.life who ∙ alive_if t.tabs who free
with_life_if J t (Done who) stands free = stands.tabs.life who ∙ alive_if t.tabs who free
with_life_if J t (Fill who buffer place bytes) stands free = stands.tabs.life who ∙ alive_if t.tabs who free
with_life_if J t (Submit who buffer len) stands free = stands.tabs.life who ∙ alive_if t.tabs who free
with_life_if J t other stands free = tt

-- ---- the outcome

net_act : (H : HostTable) (J : Journal) (act : Act) → is_net act ≡ true → act_outcome H J act ≡ net_outcome H.local (life_of H J) (remote_of H J) (network J) act
net_act H J (Bind who proto) net = refl
net_act H J (Unbind who flow) net = refl
net_act H J (Done who) net = refl
net_act H J (RegRead offset) net = refl
net_act H J (RegWrite offset value) net = refl
net_act H J (RxPost slot handle) net = refl
net_act H J RxBell net = refl
net_act H J (WireIn frame) net = refl
net_act H J (Fill who buffer place bytes) net = refl
net_act H J (Submit who buffer len) net = refl
net_act H J (TxPost slot send) net = refl
net_act H J TxBell net = refl
net_act H J WireOut net = refl
net_act H J other net = absurd (cc net)

admitted_as : (J : Journal) (t : Parts) (act : Act) (rule : Option Rule) → PartsStand J t → admission_of t.tabs act ≡ rule → out t.hosts J act ≡ let_in rule (act_outcome t.hosts J act)
admitted_as J t act rule stands is = admits t.hosts J t.tabs (actor act) (act_outcome t.hosts J act) stands.tabs ∙ ap (λ r. let_in r (act_outcome t.hosts J act)) is

pub net_out : (J : Journal) (t : Parts) (act : Act) → PartsStand J t → is_net act ≡ true → admission_of t.tabs act ≡ None
    → out t.hosts J act ≡ net_outcome t.hosts.local (life_of t.hosts J) (remote_of t.hosts J) (network J) act
net_out J t act stands net free = admitted_as J t act None stands free ∙ net_act t.hosts J act net

-- ---- the net half

-- an act that makes a network of the one before, and changes no life
net_after : (J : Journal) (H : HostTable) (act : Act) (outcome : Outcome) (log : List LogEntry) (net : NetState) → is_net act ≡ true
    → NetStands (life_of H J) (remote_of H J) (network (entry act outcome log ∷ J)) net → NetStandsFor H (entry act outcome log ∷ J) net
unfolding tabs
net_after J H (Bind who proto) outcome log net is stands = stands
net_after J H (Unbind who flow) outcome log net is stands = stands
net_after J H (Done who) outcome log net is stands = stands
net_after J H (RegRead offset) outcome log net is stands = stands
net_after J H (RegWrite offset value) outcome log net is stands = stands
net_after J H (RxPost slot handle) outcome log net is stands = stands
net_after J H RxBell outcome log net is stands = stands
net_after J H (WireIn frame) outcome log net is stands = stands
net_after J H (Fill who buffer place bytes) outcome log net is stands = stands
net_after J H (Submit who buffer len) outcome log net is stands = stands
net_after J H (TxPost slot send) outcome log net is stands = stands
net_after J H TxBell outcome log net is stands = stands
net_after J H WireOut outcome log net is stands = stands
net_after J H other outcome log net is stands = absurd (cc is)

-- an act that was made
pub made_goes : AreSentInTurn → (J : Journal) (t : Parts) (net net' : NetState) (act : Act) (outcome : Outcome) (f f' : Registers) (l l' : List LogEntry) → is_net act ≡ true → admission_of t.tabs act ≡ None
    → HalvesStand J t net → Agrees t.hosts J f l
    → NetMakes t.hosts.local (life_of t.hosts J) (remote_of t.hosts J) (network J) act outcome net' f' l l' → GoOn J t act outcome t net' f' l'
unfolding network
made_goes law J t net net' act outcome f f' l l' is free stand agrees makes =
    let told : outcome ≡ out t.hosts J act = makes.outcome ∙ sym (net_out J t act stand.pages_stand is free) in
    record {
      outcome_is = told;
      pages_stand = net_keeps J t act outcome l' is stand.pages_stand told;
      net_stands = net_after J t.hosts act outcome l' net' is makes.stands;
      agrees = record {
        registers = makes.registers;
        written = written_grows J act outcome (next_frame (network J)) l l' agrees.written makes.log;
        sent = sent_grows t.hosts J act outcome (got_for outcome l') l l' law (record { outcome = told; written = written_fits outcome l' }, stand.pages_stand.run) agrees.sent makes.log;
      };
    }

-- an act that was denied
pub denied_goes : IsUnchanged → (J : Journal) (t : Parts) (net : NetState) (act : Act) (outcome : Outcome) (rule : Rule) (f : Registers) (l : List LogEntry) → is_net act ≡ true → admission_of t.tabs act ≡ Some rule
    → outcome ≡ denied rule → HalvesStand J t net → Agrees t.hosts J f l → GoOn J t act outcome t net f l
denied_goes law J t net act outcome rule f l is breaks denied_is stand agrees =
    let told : outcome ≡ out t.hosts J act = denied_is ∙ sym (admitted_as J t act (Some rule) stand.pages_stand breaks) in
    let same = law t.hosts J (entry act outcome l) (ap (λ (o : Outcome). is_ok o.head) denied_is) in
    let same_network : network (entry act outcome l ∷ J) ≡ network J = ap (λ (v : Views). v.network) same in
    let P : Network → Type 0 = λ n. NetStands (life_of t.hosts J) (remote_of t.hosts J) n net in
    let Q : Network → Type 0 = λ n. AreRegisters t.hosts.local n f in
    let quiet : l ≡ log_after outcome (frame_of act) (got_for outcome l) (next_frame (network J)) l = rw denied_is refl in
    record {
      outcome_is = told;
      pages_stand = net_keeps J t act outcome l is stand.pages_stand told;
      net_stands = net_after J t.hosts act outcome l net is (subst P (sym same_network) stand.net_stands);
      agrees = record {
        registers = subst Q (sym same_network) agrees.registers;
        written = written_grows J act outcome (next_frame (network J)) l l agrees.written quiet;
        sent = agrees.sent ∙ ap sent_frames (sym same_network);
      };
    }

-- what is denied leaves the log
pub denied_log : (outcome : Outcome) (rule : Rule) (frame w b : List ℕ) (l : List LogEntry) → outcome ≡ denied rule → l ≡ log_after outcome frame w b l
denied_log outcome rule frame w b l is = rw is refl

-- ---- as the code says it

pub breaks_if : (rule : Option Rule) (broken : Rule) → admitted_by rule ≡ Err broken → rule ≡ Some broken
breaks_if None broken h = absurd (cc h)
breaks_if (Some rule) broken h = ap Some (ap rule_of h)
  where
    rule_of : Result Unit Rule → Rule
    rule_of (Ok x) = broken
    rule_of (Err r) = r

pub free_if : (rule : Option Rule) (x : Unit) → admitted_by rule ≡ Ok x → rule ≡ None
free_if None x h = refl
free_if (Some rule) x h = absurd (cc h)

-- what the net half makes of an act, whatever it stood for
abbrev pub Made : Local → Act → Outcome → NetState → NetState → Registers → Registers → List LogEntry → List LogEntry → Type 0
Made local act outcome net net' f f' l l' = (life : Instance → Life) (remote : Instance → Endpoint) (n : Network) → NetStands life remote n net
    → AreRegisters local n f → IsWithLife life act → NetMakes local life remote n act outcome net' f' l l'

made_at : (J : Journal) (t : Parts) (net net' : NetState) (act : Act) (outcome : Outcome) (f f' : Registers) (l l' : List LogEntry) (local : Local) → local ≡ t.hosts.local → admission_of t.tabs act ≡ None
    → HalvesStand J t net → Agrees t.hosts J f l → Made local act outcome net net' f f' l l' → NetMakes t.hosts.local (life_of t.hosts J) (remote_of t.hosts J) (network J) act outcome net' f' l l'
made_at J t net net' act outcome f f' l l' local same free stand agrees made =
    let P : Local → Type 0 = λ x. Made x act outcome net net' f f' l l' in
    subst P same made (life_of t.hosts J) (remote_of t.hosts J) (network J) stand.net_stands agrees.registers (with_life_if J t act stand.pages_stand free)

pub serve_goes : AreSentInTurn → (J : Journal) (t : Parts) (net net' : NetState) (act : Act) (outcome : Outcome) (f f' : Registers) (l l' : List LogEntry) (local : Local) → local ≡ t.hosts.local → is_net act ≡ true → admission_of t.tabs act ≡ None
    → HalvesStand J t net → Agrees t.hosts J f l → Made local act outcome net net' f f' l l' → GoOn J t act outcome t net' f' l'
serve_goes law J t net net' act outcome f f' l l' local same is free stand agrees made =
    made_goes law J t net net' act outcome f f' l l' is free stand agrees (made_at J t net net' act outcome f f' l l' local same free stand agrees made)

pub serve_log : (J : Journal) (t : Parts) (net net' : NetState) (act : Act) (outcome : Outcome) (f f' : Registers) (l l' : List LogEntry) (local : Local) → local ≡ t.hosts.local → admission_of t.tabs act ≡ None
    → HalvesStand J t net → Agrees t.hosts J f l → Made local act outcome net net' f f' l l' → l' ≡ log_after outcome (frame_of act) (got_for outcome l') (next_frame (network J)) l
serve_log J t net net' act outcome f f' l l' local same free stand agrees made = (made_at J t net net' act outcome f f' l l' local same free stand agrees made).log

-- what is lost where it runs out of memory
abbrev pub Lost : Local → Act → NetState → Registers → List LogEntry → List LogEntry → Type 0
Lost local act net f l l' = (life : Instance → Life) (remote : Instance → Endpoint) (n : Network) → NetStands life remote n net
    → AreRegisters local n f → IsWithLife life act → Loses (net_outcome local life remote n act) act (next_frame n) l l'

pub serve_loses : (J : Journal) (t : Parts) (net : NetState) (act : Act) (f : Registers) (l l' : List LogEntry) (local : Local) → local ≡ t.hosts.local → is_net act ≡ true → admission_of t.tabs act ≡ None
    → HalvesStand J t net → Agrees t.hosts J f l → Lost local act net f l l' → Loses (out t.hosts J act) act (next_frame (network J)) l l'
serve_loses J t net act f l l' local same is free stand agrees lost =
    let P : Local → Type 0 = λ x. Lost x act net f l l' in
    let Q : Outcome → Type 0 = λ o. Loses o act (next_frame (network J)) l l' in
    subst Q (sym (net_out J t act stand.pages_stand is free)) (subst P same lost (life_of t.hosts J) (remote_of t.hosts J) (network J) stand.net_stands agrees.registers (with_life_if J t act stand.pages_stand free))

pub on_err : {T E : Type 0} (r : Result T E) (P : Type 0) → P → OnErr r P
on_err (Ok x) P p = tt
on_err (Err e) P p = p
