-- What both halves stand for, as the kernel says it.
use Rattle.std.proofs.Common.{◌≡◌, ℕ, ◌+◌, ◌<◌, ◌≤◌, ◌^◌, Bool, true, List, [], ◌∷◌, suc, refl, sym, ◌∙◌, ap, subst, arith}
use Rattle.std.specs.List.{All}
use Rattle.std.specs.Prelude.{slice_index_or}
use Rattle.ibos_kinds.specs.declared.act.Act.{Act}
use Rattle.ibos_kinds.specs.declared.names.Endpoint.{Endpoint}
use Rattle.ibos_kinds.specs.declared.names.Instance.{Instance}
use Rattle.ibos_kinds.specs.declared.names.Local.{Local}
use Rattle.ibos_kinds.specs.declared.outcome.Outcome.{Outcome}
use Rattle.ibos_nic.specs.declared.log.LogEntry.{LogEntry}
use Rattle.ibos_nic.specs.Registers.{Registers}
use Rattle.ibos_origin.specs.Hosts.{HostTable}
use Rattle.ibos_page.specs.Seats.{Seat}
use Rattle.ibos_page.specs.Tabs.{TabTable, empty_seat, seat_at}
use Rattle.ibos_frame.specs.ScreenStates.{seen_at}
use Rattle.ibos_model.specs.Journal.{Journal, frame_of}
use Rattle.ibos_model.specs.Laws.{AreSentRightly, IsCarried, IsCarriedAlways, IsOfASend}
use Rattle.ibos_model.specs.Logs.{Loses, got_for, log_after, sent_in, written_in}
use Rattle.ibos_model.specs.Network.{Network, network, next_frame, no_network}
use Rattle.ibos_model.specs.Runs.{IsRun}
use Rattle.ibos_model.specs.Outcomes.{out}
use Rattle.ibos_model.specs.Screen.{screen}
use Rattle.ibos_model.specs.Tabs.{Life, Unborn, Alive, life_of, tabs}
use Rattle.ibos_net.specs.NetStanding.{AreRegisters, NetState, NetStands, areas_of, posts_of}
use Rattle.ibos_kernel.specs.Tables.{Parts, Tables, started}
use Rattle.ibos_kernel.specs.Standing.{Agrees, IsCounted, IsSound, NetStandsFor, PartsStand, Stands, entry, life_at, remote_of}
use Rattle.ibos_kernel.specs.Halves.{GoOn, HalvesStand}
use Rattle.ibos_kernel.proofs.LogsGrow.{written_fits}
use Rattle.ibos_kernel.proofs.Outcomes.{seen_screen}
use Rattle.ibos_kernel.proofs.StoredStand.{few_of}
use Rattle.ibos_kernel.specs.Storage.{IsFew}

abbrev pub view_of : Parts → NetState → ℕ → Bool → Tables
view_of parts net acts usable = record { hosts = parts.hosts; tabs = parts.tabs; jars = parts.jars; store = parts.store; screen = parts.screen; focus = parts.focus; net = net; acts = acts; usable = usable }

-- the halves of what the kernel is seen as
pub held : (J : Journal) (t : Tables) (parts : Parts) (net : NetState) (acts : ℕ) (usable : Bool) → view_of parts net acts usable ≡ t → Stands J t → HalvesStand J parts net
held J t parts net acts usable view stands =
    let P : Tables → Type 0 = Stands J in
    let here : Stands J (view_of parts net acts usable) = subst P (sym view) stands in
    record { pages_stand = here.parts; net_stands = here.net }

-- ---- a kernel that has made no act

none_started : (seats : List Seat) → ((tab : ℕ) → slice_index_or seats tab empty_seat ≡ empty_seat) → started seats ≡ 0
none_started [] empty = refl
none_started (seat ∷ seats) empty =
    let first : seat ≡ empty_seat = empty 0 in
    let count : seat.count ≡ 0 = ap (λ (s : Seat). s.count) first in
    let rest : started seats ≡ 0 = none_started seats (λ tab. empty (suc tab)) in
    omega (arith, count, rest)

pub new_counted : (t table : TabTable) (net : NetState) → t ≡ table → ((tab : ℕ) → seat_at table tab ≡ empty_seat) → areas_of net ≡ 1 → IsCounted t net
new_counted t table net is empty areas = record {
  few = λ tab. let none : (seat_at t tab).count ≡ 0 = rw is (ap (λ (s : Seat). s.count) (empty tab)) in omega (arith, none);
  areas = let none : started t.seats ≡ 0 = rw is (none_started table.seats empty) in omega (arith, none, areas);
}

pub new_net : (H : HostTable) (net : NetState) → ((life : Instance → Life) (remote : Instance → Endpoint) → ((p : Instance) → life p ≡ Unborn) → NetStands life remote no_network net) → NetStandsFor H [] net
unfolding tabs network
new_net H net law = law (life_of H []) (remote_of H []) (λ p. refl)

pub new_agrees : (H : HostTable) (f : Registers) (log : List LogEntry) (local : Local) → local ≡ H.local → AreRegisters local no_network f → log ≡ [] → Agrees H [] f log
unfolding network
new_agrees H f log local same registers none =
    let P : Local → Type 0 = λ x. AreRegisters x no_network f in
    record { registers = subst P same registers; written = ap written_in none; sent = ap sent_in none }

pub new_stands : (parts : Parts) (net : NetState) → PartsStand [] parts → NetStandsFor parts.hosts [] net → Stands [] (view_of parts net 0 true)
new_stands parts net pages net_stands = record { parts = pages; net = net_stands; acts = refl }

pub new_sound : (parts : Parts) (net : NetState) → PartsStand [] parts → NetStandsFor parts.hosts [] net → IsCounted parts.tabs net → posts_of net ≡ 0 → IsSound (view_of parts net 0 true)
new_sound parts net pages net_stands counted posts = record {
  counted = counted;
  posts = omega (arith, posts);
  stood = ([], new_stands parts net pages net_stands);
}

-- ---- one step

pub record Steps (J : Journal) (t t' : Tables) (act : Act) (outcome : Outcome) (f : Registers) (log : List LogEntry) : Type 0 where
  pub outcome_is : outcome ≡ out t.hosts J act
  pub stands : Stands (entry act outcome log ∷ J) t'
  pub agrees : Agrees t.hosts (entry act outcome log ∷ J) f log
  pub carried : IsCarried t.hosts J (entry act outcome log)
  pub sends : All (IsOfASend t.hosts (entry act outcome log ∷ J)) (sent_in log)

-- each frame in the log is that of a right send
pub step_sends : AreSentRightly → (H : HostTable) (J : Journal) (f : Registers) (l : List LogEntry) → IsRun H J → Agrees H J f l → All (IsOfASend H J) (sent_in l)
step_sends law H J f l run agrees =
    let P : List (List ℕ) → Type 0 = All (IsOfASend H J) in
    subst P (sym agrees.sent) (law H J run)

pub steps : IsCarriedAlways → AreSentRightly → (J : Journal) (t : Tables) (old new : Parts) (net net' : NetState) (acts : ℕ) (usable : Bool) (act : Act) (outcome : Outcome) (f f' : Registers) (l l' : List LogEntry)
    → view_of old net acts usable ≡ t → Stands J t → Agrees t.hosts J f l → new.hosts ≡ old.hosts
    → ((K : Journal) → HalvesStand K old net → Agrees old.hosts K f l → GoOn K old act outcome new net' f' l')
    → Steps J t (view_of new net' (acts + 1) usable) act outcome f' l'
steps law right J t old new net net' acts usable act outcome f f' l l' view stands agrees hosts goes =
    let P : Tables → Type 0 = λ k. Stands J k → Agrees k.hosts J f l → Steps J k (view_of new net' (acts + 1) usable) act outcome f' l' in
    subst P view here stands agrees
  where
    here : Stands J (view_of old net acts usable) → Agrees old.hosts J f l → Steps J (view_of old net acts usable) (view_of new net' (acts + 1) usable) act outcome f' l'
    here stood agreed =
        let gone = goes J (record { pages_stand = stood.parts; net_stands = stood.net }) agreed in
        let P : HostTable → Type 0 = λ H. NetStandsFor H (entry act outcome l' ∷ J) net' in
        record {
          outcome_is = gone.outcome_is;
          stands = record {
            parts = gone.pages_stand;
            net = subst P (sym hosts) gone.net_stands;
            acts = omega (arith, stood.acts);
          };
          agrees = gone.agrees;
          carried = law old.hosts J (entry act outcome l') (record { outcome = gone.outcome_is; written = written_fits outcome l' }, stood.parts.run);
          sends = step_sends right old.hosts (entry act outcome l' ∷ J) f' l' (record { outcome = gone.outcome_is; written = written_fits outcome l' }, stood.parts.run) gone.agrees;
        }

-- the kernel may step again
pub step_sound : IsCarriedAlways → AreSentRightly → (J : Journal) (t : Tables) (old new : Parts) (net net' : NetState) (acts : ℕ) (usable : Bool) (act : Act) (outcome : Outcome) (f f' : Registers) (l l' : List LogEntry)
    → view_of old net acts usable ≡ t → Stands J t → Agrees t.hosts J f l → new.hosts ≡ old.hosts
    → ((K : Journal) → HalvesStand K old net → Agrees old.hosts K f l → GoOn K old act outcome new net' f' l')
    → IsSound (view_of old net acts usable) → IsCounted new.tabs net' → posts_of net' ≤ posts_of net + 1 → IsSound (view_of new net' (acts + 1) usable)
step_sound law right J t old new net net' acts usable act outcome f f' l l' view stands agrees hosts goes was counted posts = record {
  counted = counted;
  posts = omega (arith, was.posts, posts);
  stood = (entry act outcome l' ∷ J, (steps law right J t old new net net' acts usable act outcome f f' l l' view stands agrees hosts goes).stands);
}

pub step_loses : (J : Journal) (t : Tables) (old : Parts) (net : NetState) (acts : ℕ) (usable : Bool) (act : Act) (f : Registers) (l l' : List LogEntry)
    → view_of old net acts usable ≡ t → Stands J t → Agrees t.hosts J f l
    → ((K : Journal) → HalvesStand K old net → Agrees old.hosts K f l → Loses (out old.hosts K act) act (next_frame (network K)) l l')
    → Loses (out t.hosts J act) act (next_frame (network J)) l l'
step_loses J t old net acts usable act f l l' view stands agrees loses =
    let P : Tables → Type 0 = λ k. Stands J k → Agrees k.hosts J f l → Loses (out k.hosts J act) act (next_frame (network J)) l l' in
    subst P view (λ stood agreed. loses J (record { pages_stand = stood.parts; net_stands = stood.net }) agreed) stands agrees

pub step_log : (J : Journal) (t : Tables) (old : Parts) (net : NetState) (acts : ℕ) (usable : Bool) (act : Act) (outcome : Outcome) (f : Registers) (l l' : List LogEntry)
    → view_of old net acts usable ≡ t → Stands J t → Agrees t.hosts J f l
    → ((K : Journal) → HalvesStand K old net → Agrees old.hosts K f l → l' ≡ log_after outcome (frame_of act) (got_for outcome l') (next_frame (network K)) l)
    → l' ≡ log_after outcome (frame_of act) (got_for outcome l') (next_frame (network J)) l
step_log J t old net acts usable act outcome f l l' view stands agrees log =
    let P : Tables → Type 0 = λ k. Stands J k → Agrees k.hosts J f l → l' ≡ log_after outcome (frame_of act) (got_for outcome l') (next_frame (network J)) l in
    subst P view (λ stood agreed. log J (record { pages_stand = stood.parts; net_stands = stood.net }) agreed) stands agrees

-- each act brings one version and one request more at most
pub step_few : (J : Journal) (t : Tables) (old : Parts) (net : NetState) (acts : ℕ) (usable : Bool) → view_of old net acts usable ≡ t → Stands J t → t.acts < 2 ^ 31 → IsFew old.store
step_few J t old net acts usable view stands few =
    let P : ℕ → Type 0 = λ n. n < 2 ^ 31 in
    few_of J old (held J t old net acts usable view stands).pages_stand (subst P (sym stands.acts) few)

-- what is denied changes nothing but the count of acts
pub step_denied : (t : Tables) (old new : Parts) (net net' : NetState) (acts : ℕ) (usable : Bool) → view_of old net acts usable ≡ t → new ≡ old → net' ≡ net
    → view_of new net' (acts + 1) usable ≡ record t { acts = t.acts + 1 }
step_denied t old new net net' acts usable view same same_net =
    ap (λ (parts : Parts). view_of parts net' (acts + 1) usable) same ∙ ap (λ (n : NetState). view_of old n (acts + 1) usable) same_net
    ∙ ap (λ (k : Tables). record k { acts = k.acts + 1 }) view

-- ---- what is seen of a kernel

pub pixels_seen : (J : Journal) (t : Tables) (parts : Parts) (net : NetState) (acts : ℕ) (usable : Bool) → view_of parts net acts usable ≡ t → Stands J t
    → (r c : ℕ) → r < 25 → c < 80 → seen_at parts.screen r c ≡ screen t.hosts J r c
pixels_seen J t parts net acts usable view stands r c low left =
    seen_screen J parts (held J t parts net acts usable view stands).pages_stand r c low left ∙ ap (λ (k : Tables). screen k.hosts J r c) view

-- who lives in the tabs lives by the journal
pub lives_held : (J : Journal) (t : Tables) (who : Instance) → Stands J t → life_at t.tabs who ≡ Alive → life_of t.hosts J who ≡ Alive
lives_held J t who stands lives = stands.parts.tabs.life who ∙ lives

-- what is told of every standing of the net half is told of each journal
pub told_held : {A : Type 0} (result : A) (g : Network → A) (J : Journal) (t : Tables) (who : Instance) (net : NetState) → t.net ≡ net → Stands J t → life_at t.tabs who ≡ Alive
    → ((life : Instance → Life) (remotes : Instance → Endpoint) (n : Network) → NetStands life remotes n net → life who ≡ Alive → result ≡ g n) → result ≡ g (network J)
told_held result g J t who net is stands lives law =
    let P : NetState → Type 0 = NetStandsFor t.hosts J in
    law (life_of t.hosts J) (remote_of t.hosts J) (network J) (subst P is stands.net) (lives_held J t who stands lives)
