-- Tables that stand for a journal.
use Rattle.std.specs.Prelude.{ℕ, ◌≡◌, ◌+◌, ◌<◌, ◌≤◌, List, true, false, length, Some, None}
use Rattle.std.specs.Prelude.{nat_lt}
use Rattle.std.specs.Prelude.{if◌then◌else◌}
use Rattle.ibos_kinds.specs.declared.names.Instance.{Instance}
use Rattle.ibos_kinds.specs.declared.names.Endpoint.{Endpoint}
use Rattle.ibos_nic.specs.declared.log.LogEntry.{LogEntry}
use Rattle.ibos_nic.specs.Registers.{Registers}
use Rattle.ibos_origin.specs.Hosts.{HostTable}
use Rattle.ibos_kinds.specs.declared.act.Act.{Act}
use Rattle.ibos_kinds.specs.declared.outcome.Outcome.{Outcome}
use Rattle.ibos_page.specs.Seats.{Seat}
use Rattle.ibos_page.specs.Tabs.{TabTable, seat_at, live_at, is_live_in}
use Rattle.ibos_cookie.specs.Jars.{jar_of}
use Rattle.ibos_store.specs.Stores.{objects_of as objects_kept, requests_of as requests_kept}
use Rattle.ibos_model.specs.Journal.{Journal, Entry, heard}
use Rattle.ibos_model.specs.Logs.{got_for, sent_in, written_in}
use Rattle.ibos_model.specs.Network.{endpoint_for, network, sent_frames}
use Rattle.ibos_model.specs.Tabs.{Tabs, Life, Unborn, Alive, Gone, tabs, life_in, life_of}
use Rattle.ibos_model.specs.Tabs.{origin_in, origin_of}
use Rattle.ibos_kinds.specs.Screens.{space}
use Rattle.ibos_frame.specs.ScreenStates.{content_at}
use Rattle.ibos_model.specs.Focus.{active_tab, focus_of}
use Rattle.ibos_model.specs.Screen.{cell_of}
use Rattle.ibos_model.specs.Jars.{jar, sets_of}
use Rattle.ibos_model.specs.Runs.{IsRun}
use Rattle.ibos_model.specs.Stored.{objects_of, requests_of}
use Rattle.ibos_net.specs.NetStanding.{AreRegisters, NetState, NetStands, areas_of, posts_of}
use Rattle.ibos_kernel.specs.Tables.{Tables, Parts, IsTied, is_entry, is_live, origin_at, parts_of}
use Rattle.ibos_kernel.specs.Tables.{started}
use Rattle.ibos_kernel.specs.Tables.{url_with}

-- whether an instance lives, by its tab's seat
abbrev pub life_by : Instance → Seat → Life
life_by who seat =
    if is_live_in who seat then Alive
    else if nat_lt who.ord seat.count then Gone
    else Unborn

abbrev pub life_at : TabTable → Instance → Life
life_at t who = life_by who (seat_at t who.tab)

-- the table of tabs stands for what the journal's views of tabs say
pub record TabsStand (T : Tabs) (t : TabTable) : Type 0 where
  pub room : length t.seats ≡ 64
  pub count : (tab : ℕ) → T.count tab ≡ (seat_at t tab).count
  pub live : (tab : ℕ) → T.live tab ≡ live_at t tab
  pub newest : (tab : ℕ) (who : Instance) → live_at t tab ≡ Some who
      → who.ord + 1 ≡ (seat_at t tab).count
  pub life : (who : Instance) → life_in T who ≡ life_at t who
  pub fresh : (who : Instance) → (seat_at t who.tab).count ≤ who.ord → T.is_gone who ≡ false
  pub origin : (who : Instance) → live_at t who.tab ≡ Some who → origin_in T who ≡ origin_at t who
  pub url : (who : Instance) → live_at t who.tab ≡ Some who
      → T.url who ≡ url_with (seat_at t who.tab).page

-- the screen's parts stand for what the journal's views of focus and screen say
pub record Displays (J : Journal) (t : Parts) : Type 0 where
  pub spot : (focus_of J).at_entry_line ≡ is_entry t.focus.spot
  pub entry_line : (focus_of J).entry_line ≡ t.focus.entry_line
  pub cells : (q : Instance) (r c : ℕ) → r < 22 → c < 80 → is_live t.tabs q ≡ true
      → content_at t.screen q r c ≡ cell_of J q r c
  pub blank : (q : Instance) (r c : ℕ) → (seat_at t.tabs q.tab).count ≤ q.ord
      → cell_of J q r c ≡ space
  pub tied : IsTied t.tabs t.screen t.focus

-- the kernel's parts stand for a journal, which is that of a run
pub record PartsStand (J : Journal) (t : Parts) : Type 0 where
  pub run : IsRun t.hosts J
  pub tabs : TabsStand (tabs t.hosts J) t.tabs
  pub active : active_tab J ≡ t.tabs.active
  pub jars : (o : List ℕ) → jar_of t.jars o ≡ jar (sets_of t.hosts J o)
  pub objects : (o : List ℕ) → objects_kept t.store o ≡ objects_of t.hosts J o
  -- the requests of an instance are kept while it lives
  pub requests : (q : Instance) → requests_kept t.store q
      ≡ (if is_live t.tabs q then Some (requests_of J q) else None)
  pub displays : Displays J t

-- where the origin of an instance is
abbrev pub remote_of : HostTable → Journal → Instance → Endpoint
remote_of H J p = endpoint_for H (origin_of H J p)

-- the net half stands for what the journal says of flows, frames and rings
abbrev pub NetStandsFor : HostTable → Journal → NetState → Type 0
NetStandsFor H J net = NetStands (life_of H J) (remote_of H J) (network J) net

-- the kernel stands for a journal
pub record Stands (J : Journal) (t : Tables) : Type 0 where
  pub parts : PartsStand J (parts_of t)
  pub net : NetStandsFor t.hosts J t.net
  pub acts : length J ≡ t.acts

-- The device agrees with a journal: its registers are the journal's, and its log has what was
-- written for the frames heard, and the frames that went out.
pub record Agrees (H : HostTable) (J : Journal) (f : Registers) (log : List LogEntry)
    : Type 0 where
  pub registers : AreRegisters H.local (network J) f
  pub written : written_in log ≡ heard J
  pub sent : sent_in log ≡ sent_frames (network J)

-- the entry of an act, where the log is then this
abbrev pub entry : Act → Outcome → List LogEntry → Entry
entry act outcome log = record { act = act; outcome = outcome; written = got_for outcome log }

-- some journal is the kernel's and the device's
abbrev pub AreTogether : Tables → Registers → List LogEntry → Type 0
AreTogether t f log = (J : Journal) × Stands J t × Agrees t.hosts J f log

-- Each tab has had at most 32 instances, and there is an area of memory for each that started, and
-- one for the rings.
pub record IsCounted (t : TabTable) (net : NetState) : Type 0 where
  pub few : (tab : ℕ) → (seat_at t tab).count ≤ 32
  pub areas : areas_of net ≡ 1 + started t.seats

-- What holds of a kernel that may step. An act posts at most one buffer.
pub record IsSound (t : Tables) : Type 0 where
  pub counted : IsCounted t.tabs t.net
  pub posts : posts_of t.net ≤ t.acts
  pub stood : (J : Journal) × Stands J t
