-- After an act of the pages' half the net half stands for the journal with its entry.
use Rattle.std.proofs.Common.{◌≡◌, ℕ, ◌+◌, ◌<◌, ◌≤◌, true, false, List, ◌∷◌, Option, Some, None, Ok, IfSome, refl, sym, ◌∙◌, ap, subst, arith}
use Rattle.std.specs.Prelude.{if◌then◌else◌}
use Rattle.std.proofs.lemmas.Bool.Decides.{nat_tests}
use Rattle.ibos_kinds.specs.declared.act.Act.{Act}
use Rattle.ibos_kinds.specs.declared.act.Act.TheVariants.{Start, Switch, Close, Press, Click, Look, Go, Draw, CookieSet, CookieGet, Put, Ask, StoreAnswer, StoreNone, StoreLose}
use Rattle.ibos_kinds.specs.declared.names.Endpoint.{Endpoint}
use Rattle.ibos_kinds.specs.declared.names.Instance.{Instance}
use Rattle.ibos_kinds.specs.declared.outcome.Outcome.{Outcome}
use Rattle.ibos_kinds.specs.Limits.{Fits, IsNamed}
use Rattle.ibos_nic.specs.declared.log.LogEntry.{LogEntry}
use Rattle.ibos_nic.specs.Registers.{Registers}
use Rattle.ibos_origin.specs.Endpoints.{origin_endpoint}
use Rattle.ibos_origin.specs.Hosts.{HostTable}
use Rattle.ibos_origin.specs.Pages.{Page, allowed, endpoint_of}
use Rattle.ibos_origin.specs.Tables.{HasPlainNames}
use Rattle.ibos_page.specs.Seats.{Seat}
use Rattle.ibos_page.specs.Tabs.{TabTable, live_at, live_in, seat_at}
use Rattle.ibos_model.specs.Focus.{focus_of}
use Rattle.ibos_model.specs.Journal.{Journal, frame_of, is_ok, same}
use Rattle.ibos_model.specs.Laws.{AreSetsPut, AreUnbornBare, AreUnbornQuiet}
use Rattle.ibos_model.specs.Logs.{got_for, log_after, log_by}
use Rattle.ibos_model.specs.Network.{Network, network, next_frame, sent_frames}
use Rattle.ibos_model.specs.Runs.{IsRun}
use Rattle.ibos_model.specs.Tabs.{Unborn, Alive, Gone, Life, Tabs, changes, life_in, life_of, tabs}
use Rattle.ibos_net.specs.NetStanding.{AreRegisters, IsBare, NetStands, NetState, areas_of, is_net, with_life, with_remote}
use Rattle.ibos_kernel.specs.Tables.{Parts, Serves, started, tabs_after}
use Rattle.ibos_kernel.specs.Standing.{Agrees, IsCounted, NetStandsFor, PartsStand, entry, remote_of}
use Rattle.ibos_kernel.specs.Halves.{GoOn, HalvesStand, IsNew, begun, ended_in, endpoint_with, opened_in, remotes_with, with_begun, with_ended}
use Rattle.ibos_kernel.proofs.Outcomes.{outcome-seen, outcome_seen}
use Rattle.ibos_kernel.proofs.ActsStand.{step_holds, step_told}
use Rattle.ibos_kernel.proofs.LogsGrow.{written_grows}
use Rattle.ibos_kernel.proofs.Turns.{Turn, turn_kind, turn_seen}
use Rattle.ibos_kernel.proofs.Turned.{AreAtOrigins, Starting, Turned, turned}

-- the law of endpoints, of one host table
pub origins_of : (H hosts : HostTable) → hosts ≡ H → HasPlainNames hosts → ((T : HostTable) (text : List ℕ) (page : Page) → HasPlainNames T → allowed T text ≡ Ok page → origin_endpoint T page.origin ≡ Some (endpoint_of page))
    → AreAtOrigins H
origins_of H hosts is plain law =
    let P : HostTable → Type 0 = HasPlainNames in
    let here = subst P is plain in
    λ text page allows. law H text page here allows

-- flows, frames and rings stay
pub page_network : (J : Journal) (act : Act) (outcome : Outcome) (log : List LogEntry) → is_net act ≡ false → network (entry act outcome log ∷ J) ≡ network J
unfolding network
page_network J (Start tab url) outcome log page = refl
page_network J (Switch tab) outcome log page = refl
page_network J (Close tab) outcome log page = refl
page_network J (Press key) outcome log page = refl
page_network J (Click row col) outcome log page = refl
page_network J Look outcome log page = refl
page_network J (Go who url) outcome log page = refl
page_network J (Draw who row col height width pixels) outcome log page = refl
page_network J (CookieSet side who text) outcome log page = refl
page_network J (CookieGet side who) outcome log page = refl
page_network J (Put who key bytes) outcome log page = refl
page_network J (Ask who key) outcome log page = refl
page_network J (StoreAnswer who request origin key version) outcome log page = refl
page_network J (StoreNone who request) outcome log page = refl
page_network J (StoreLose origin key version) outcome log page = refl
page_network J other outcome log page = absurd (cc page)

turn_served : (J : Journal) (old new : Parts) (act : Act) (outcome : Outcome) → is_net act ≡ false → PartsStand J old → Fits act → Serves old act outcome new
    → Turn old.hosts old.tabs new.tabs outcome.items (changes old.hosts (tabs old.hosts J) (focus_of J) (is_ok outcome.head) act)
turn_served J old new act outcome page stands fits serves =
    let outcome_is : outcome ≡ outcome_seen old act = serves.outcome_is ∙ outcome-seen J old act stands in
    let P : Outcome → Type 0 = λ o. Turn old.hosts old.tabs (tabs_after old (is_ok o.head) act) o.items (changes old.hosts (tabs old.hosts J) (focus_of J) (is_ok o.head) act) in
    let Q : TabTable → Type 0 = λ t. Turn old.hosts old.tabs t outcome.items (changes old.hosts (tabs old.hosts J) (focus_of J) (is_ok outcome.head) act) in
    subst Q (sym serves.tabs_are) (subst P (sym outcome_is) (turn_seen J old act page stands fits))

-- what became of the instances
pub turn_made : (J : Journal) (old new : Parts) (act : Act) (outcome : Outcome) (log : List LogEntry) (ended opened : Option Instance) → AreAtOrigins old.hosts → is_net act ≡ false
    → PartsStand J old → Fits act → ((tab : ℕ) → (seat_at old.tabs tab).count ≤ 32) → Serves old act outcome new → ended ≡ ended_in outcome.items → opened ≡ opened_in outcome.items
    → Turned old.hosts (tabs old.hosts J) (tabs old.hosts (entry act outcome log ∷ J)) old.tabs new.tabs ended opened
unfolding tabs
turn_made J old new act outcome log ended opened law page stands fits few serves ended_is opened_is =
    rw (ended_is, opened_is) (turned old.hosts (tabs old.hosts J) old.tabs new.tabs outcome.items _ law stands.tabs few (turn_served J old new act outcome page stands fits serves))

if_some : {A : Type 0} (P Q : A → Type 0) (o : Option A) → ((x : A) → P x → Q x) → IfSome o P → IfSome o Q
if_some P Q None law p = tt
if_some P Q (Some x) law p = law x p

-- ---- what the net half asks

pub named_if : (H : HostTable) (T U : Tabs) (old new : TabTable) (ended opened : Option Instance) → Turned H T U old new ended opened → IfSome opened IsNamed
named_if H T U old new ended opened turn = if_some (Starting T old new ended) IsNamed opened (λ who starts. starts.named) turn.begins

pub lives_if : (H : HostTable) (T U : Tabs) (old new table : TabTable) (ended opened : Option Instance) → table ≡ new → Turned H T U old new ended opened → IfSome opened (λ who. live_at table who.tab ≡ Some who)
lives_if H T U old new table ended opened is turn = rw is (if_some (Starting T old new ended) (λ who. live_at new who.tab ≡ Some who) opened (λ who starts. starts.lives) turn.begins)

pub room_if : (H : HostTable) (T U : Tabs) (old new : TabTable) (ended opened : Option Instance) (areas : ℕ) → areas ≡ 1 + started old.seats → Turned H T U old new ended opened → IfSome opened (λ who. areas < 2049)
room_if H T U old new ended opened areas is turn = if_some (Starting T old new ended) (λ who. areas < 2049) opened (λ who starts. omega (arith, is, starts.room)) turn.begins

pub new_if : AreUnbornBare → AreUnbornQuiet → (H : HostTable) (J K : Journal) (old new : TabTable) (ended opened : Option Instance) → IsRun H J → Turned H (tabs H J) (tabs H K) old new ended opened
    → IfSome opened (IsNew (with_ended ended (life_of H J)) (network J))
new_if law quiet H J K old new ended opened run turn = if_some (Starting (tabs H J) old new ended) (IsNew (with_ended ended (life_of H J)) (network J)) opened (λ who starts.
    let bare = law H J who run starts.unborn in
    let still = quiet H J who run starts.unborn in
    record { unborn = starts.yet; bare = record { flows = bare.0; unread = bare.1; buffers = still.2; home = still.1 } }) turn.begins

-- ---- one begins

endpoint_is : (tab : ℕ) (seat : Seat) (who : Instance) (place : Endpoint) → live_in tab seat ≡ Some who → IfSome seat.page (λ page. (place.addr ≡ page.addr) × (place.port ≡ page.port)) → endpoint_with seat.page ≡ place
endpoint_is tab seat who place lives told = by_page seat.page seat.count lives told
  where
    by_page : (page : Option Page) (count : ℕ) → live_in tab (record { count = count; page = page }) ≡ Some who → IfSome page (λ p. (place.addr ≡ p.addr) × (place.port ≡ p.port)) → endpoint_with page ≡ place
    by_page None count h same = absurd (cc h)
    by_page (Some page) count h same = rw (sym same.0, sym same.1) refl

pub begun_stands : (opened : Option Instance) (who : Instance) → opened ≡ Some who → (t : TabTable) (place : Endpoint) (life : Instance → Life) (remotes : Instance → Endpoint) (n : Network) (net : NetState)
    → IfSome opened (λ q. live_at t q.tab ≡ Some q) → IfSome (seat_at t who.tab).page (λ page. (place.addr ≡ page.addr) × (place.port ≡ page.port)) → IfSome opened (IsNew life n)
    → (life who ≡ Unborn → IsBare n who → NetStands (with_life who Alive life) (with_remote who place remotes) n net)
    → NetStands (with_begun opened life) (remotes_with t opened remotes) n net
begun_stands opened who is t place life remotes n net lives told fresh stands =
    let P : Option Instance → Type 0 = λ o. IfSome o (λ q. live_at t q.tab ≡ Some q) → IfSome o (IsNew life n) → NetStands (with_begun o life) (remotes_with t o remotes) n net in
    subst P (sym is) here lives fresh
  where
    here : live_at t who.tab ≡ Some who → IsNew life n who → NetStands (with_begun (Some who) life) (remotes_with t (Some who) remotes) n net
    here live new =
        let Q : Endpoint → Type 0 = λ e. NetStands (with_life who Alive life) (with_remote who e remotes) n net in
        subst Q (sym (endpoint_is who.tab (seat_at t who.tab) who place live told)) (stands new.unborn new.bare)

pub ended_stands : (ended : Option Instance) (who : Instance) → ended ≡ Some who → (life : Instance → Life) (remotes : Instance → Endpoint) (n : Network) (net : NetState)
    → NetStands (with_life who Gone life) remotes n net → NetStands (with_ended ended life) remotes n net
ended_stands ended who is life remotes n net stands =
    let P : Option Instance → Type 0 = λ o. NetStands (with_ended o life) remotes n net in
    subst P (sym is) stands

-- an act that leaves the tabs ends no instance and starts none
pub none_turned : (H : HostTable) (T U : Tabs) (old new : TabTable) (ended opened : Option Instance) → Turned H T U old new ended opened → U ≡ T → new ≡ old → (ended ≡ None) × (opened ≡ None)
none_turned H T U old new None None turn still kept = (refl, refl)
none_turned H T U old new (Some who) None turn still kept =
    let here : same who who ≡ true = grind (arith, nat_tests) in
    let gone : (if same who who then Gone else life_in T who) ≡ Gone = rw here refl in
    let clash : Alive ≡ Gone = sym turn.ends ∙ (sym (ap (λ t. life_in t who) still) ∙ (turn.life who ∙ gone)) in
    absurd (cc clash)
none_turned H T U old new ended (Some who) turn still kept =
    let more : started old.seats ≡ started old.seats + 1 = ap (λ (t : TabTable). started t.seats) (sym kept) ∙ turn.counted in
    absurd (omega arith)

-- ---- the net half after it

-- of each instance the relation asks only what its life is, and where it is if it lives
abbrev pub MayChange : Type 0
MayChange = (life life' : Instance → Life) (remote remote' : Instance → Endpoint) (n : Network) (t : NetState) → ((p : Instance) → life' p ≡ life p)
    → ((p : Instance) → life p ≡ Alive → remote' p ≡ remote p) → NetStands life remote n t → NetStands life' remote' n t

pub net_goes : MayChange → (J : Journal) (H : HostTable) (act : Act) (outcome : Outcome) (log : List LogEntry) (old new table : TabTable) (ended opened : Option Instance) (net : NetState) → is_net act ≡ false → table ≡ new
    → Turned H (tabs H J) (tabs H (entry act outcome log ∷ J)) old new ended opened
    → NetStands (with_begun opened (with_ended ended (life_of H J))) (remotes_with table opened (remote_of H J)) (network J) net → NetStandsFor H (entry act outcome log ∷ J) net
net_goes law J H act outcome log old new table ended opened net page is turn stands =
    let life = with_begun opened (with_ended ended (life_of H J)) in
    let P : TabTable → Type 0 = λ t. NetStands (with_begun opened (with_ended ended (life_of H J))) (remotes_with t opened (remote_of H J)) (network J) net in
    let Q : Network → Type 0 = λ n. NetStands (life_of H (entry act outcome log ∷ J)) (remote_of H (entry act outcome log ∷ J)) n net in
    subst Q (sym (page_network J act outcome log page))
    (law life (life_of H (entry act outcome log ∷ J)) (remotes_with new opened (remote_of H J)) (remote_of H (entry act outcome log ∷ J)) (network J) net
    (λ p. turn.life p) (λ p alive. turn.remote p) (subst P is stands))

pub counted_after : (H : HostTable) (T U : Tabs) (old new : TabTable) (ended opened : Option Instance) (net net' : NetState) → IsCounted old net → Turned H T U old new ended opened
    → areas_of net' ≡ areas_of net + begun opened → IsCounted new net'
counted_after H T U old new ended opened net net' counted turn areas = record {
  few = turn.few;
  areas = omega (arith, counted.areas, turn.counted, areas);
}

-- ---- both halves after it

-- the log stays
pub page_log : (J : Journal) (old new : Parts) (act : Act) (outcome : Outcome) (frame w b : List ℕ) (log : List LogEntry) → is_net act ≡ false → PartsStand J old → Fits act → Serves old act outcome new
    → log ≡ log_after outcome frame w b log
page_log J old new act outcome frame w b log page stands fits serves =
    let kind = turn_kind old.hosts old.tabs new.tabs outcome.items _ (turn_served J old new act outcome page stands fits serves) in
    ap (λ k. log_by k frame w b log) (sym kind)

pub page_goes : AreSetsPut → AreUnbornQuiet → (J : Journal) (old new : Parts) (net net' : NetState) (act : Act) (outcome : Outcome) (f : Registers) (log : List LogEntry) → is_net act ≡ false → Fits act
    → HalvesStand J old net → Agrees old.hosts J f log → Serves old act outcome new → NetStandsFor old.hosts (entry act outcome log ∷ J) net' → GoOn J old act outcome new net' f log
page_goes law quiet J old new net net' act outcome f log page fits stand agrees serves net_stands =
    let P : Network → Type 0 = λ n. AreRegisters old.hosts.local n f in
    record {
      outcome_is = step_told J old new act outcome page stand.pages_stand serves;
      pages_stand = step_holds law quiet J old new act outcome log page stand.pages_stand fits serves;
      net_stands = net_stands;
      agrees = record {
        registers = subst P (sym (page_network J act outcome log page)) agrees.registers;
        written = written_grows J act outcome (next_frame (network J)) log log agrees.written (page_log J old new act outcome (frame_of act) (got_for outcome log) (next_frame (network J)) log page stand.pages_stand fits serves);
        sent = agrees.sent ∙ ap sent_frames (sym (page_network J act outcome log page));
      };
    }
