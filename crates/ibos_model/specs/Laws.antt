-- The laws of journals.
use Rattle.std.specs.Prelude.{ℕ, ◌≡◌, ◌≤◌, ◌+◌, ◌-◌, List, [], ◌∷◌, ◌++◌, Bool, true, false, ◌&&◌}
use Rattle.std.specs.Prelude.{◌||◌, ◌==◌, ◌<◌, length, take, map, drop, Option, Some, None}
use Rattle.std.specs.Prelude.{if◌then◌else◌}
use Rattle.std.specs.List.{All, IsDistinct}
use Rattle.ibos_kinds.specs.declared.names.Instance.{Instance}
use Rattle.ibos_kinds.specs.declared.act.Act.{Act}
use Rattle.ibos_origin.specs.Hosts.{HostTable}
use Rattle.ibos_origin.specs.Pages.{Page as PageValue, endpoint_of}
use Rattle.ibos_origin.specs.Tables.{HasPlainNames}
use Rattle.ibos_kinds.specs.declared.act.Act.TheVariants.{Go}
use Rattle.ibos_model.specs.Journal.{Entry, Journal, Nothing, acts, frames, heard, is_accepted}
use Rattle.ibos_model.specs.Journal.{is_sent, kind_of}
use Rattle.ibos_model.specs.Outcomes.{out}
use Rattle.ibos_kinds.specs.declared.cookies.Cookie.{Cookie}
use Rattle.ibos_model.specs.Focus.{Focus, focus_of, is_active}
use Rattle.ibos_model.specs.Tabs.{Tabs, Unborn, tabs, life_of, origin_of, active_of}
use Rattle.ibos_kinds.specs.Cookies.{put}
use Rattle.ibos_kinds.specs.declared.names.Dir.TheVariants.{Out}
use Rattle.ibos_kinds.specs.Frames.{first_broken, heading_of}
use Rattle.ibos_kinds.specs.Objects.{KeyObject}
use Rattle.ibos_kinds.specs.Ports.{port_of}
use Rattle.ibos_kinds.specs.Requests.{Requests, no_requests}
use Rattle.ibos_kinds.specs.Sends.{Send, fresh_buffer, send_at}
use Rattle.ibos_model.specs.Jars.{jar, sets_of}
use Rattle.ibos_model.specs.Screen.{chrome_of, cell_of, screen}
use Rattle.ibos_nic.specs.declared.reg.Reg.{Reg}
use Rattle.ibos_nic.specs.Device.{verdict_of}
use Rattle.ibos_nic.specs.Registers.{can_transmit, is_enabled}
use Rattle.ibos_nic.specs.Rings.{RingValues}
use Rattle.ibos_model.specs.Rings.{Rings, can_send, handles_after, verdict_at}
use Rattle.ibos_model.specs.Registers.{first_registers, registers_by, registers_of}
use Rattle.ibos_model.specs.Network.{Network, endpoint_for, network, next_frame}
use Rattle.ibos_model.specs.Network.{sent_frames}
use Rattle.ibos_model.specs.Stored.{objects_of, requests_of}
use Rattle.ibos_model.specs.Posts.{done_count, frames_for, next_turn, posts}
use Rattle.ibos_model.specs.Runs.{Follows, GoesOn, IsRun, run, run_from}
use Rattle.ibos_model.specs.Text.{text_of}
use Rattle.ibos_model.specs.Facts.{facts, Suits}
use Rattle.ibos_model.specs.Delivered.{told_at, delivered}
use Rattle.ibos_model.specs.Gives.{gives}
use Rattle.ibos_kinds.specs.declared.party.Party.TheVariants.{Page, User, Wire}
use Rattle.ibos_kinds.specs.Parties.{is_by}

-- What an instance is told depends on the facts that concern it, and on nothing else.
abbrev pub IsIsolated : Type 0
IsIsolated = (H : HostTable) (A : List Act) (W : List (List ℕ)) (p : Instance) (o : List ℕ) →
    Suits H p o (run H A W) → delivered (Page p) (run H A W) ≡ gives H p o (facts H p o (run H A W))

-- The same of one journal.
abbrev pub IsIsolatedIn : HostTable → Journal → Type 0
IsIsolatedIn H J = (p : Instance) (o : List ℕ) → Suits H p o J
    → delivered (Page p) J ≡ gives H p o (facts H p o J)

-- Two runs whose facts agree deliver the same.
abbrev pub IsIsolatedOverTwo : Type 0
IsIsolatedOverTwo = (H : HostTable) (A B : List Act) (V W : List (List ℕ)) (p : Instance)
    (o : List ℕ) →
    Suits H p o (run H A V) → Suits H p o (run H B W)
    → facts H p o (run H A V) ≡ facts H p o (run H B W) →
    delivered (Page p) (run H A V) ≡ delivered (Page p) (run H B W)

-- What one entry tells an instance is what the facts that it adds give.
abbrev pub IsCarried : HostTable → Journal → Entry → Type 0
IsCarried H J e = (p : Instance) (o : List ℕ) → Suits H p o (e ∷ J) →
    gives H p o (facts H p o (e ∷ J)) ≡ gives H p o (facts H p o J) ++ told_at (Page p) e

-- The same of every entry of every run.
abbrev pub IsCarriedAlways : Type 0
IsCarriedAlways = (H : HostTable) (J : Journal) (e : Entry) → IsRun H (e ∷ J) → IsCarried H J e

-- the act is one of the user
abbrev pub is_users : Act → Bool
is_users act = is_by User act

-- the act is the active instance's own going
abbrev pub goes_active : Option Instance → Act → Bool
goes_active active (Go who url) = is_active who active
goes_active active other = false

-- The chrome's rows change only by an accepted act of the user, and by an accepted `go` of the
-- active instance. So a denied act, a draw, and an act of a network process leave them.
abbrev pub IsChromeKept : Type 0
IsChromeKept = (H : HostTable) (J : Journal) (e : Entry) (r : ℕ) → IsRun H (e ∷ J) →
    (is_accepted e && (is_users e.act || goes_active (active_of H J) e.act)) ≡ false
    → chrome_of H (e ∷ J) r ≡ chrome_of H J r

-- Row 1 of the chrome, the address bar, begins with the active instance's whole origin, where the
-- host table has plain names, as each one has that was read.
abbrev pub IsOriginShown : Type 0
IsOriginShown = (H : HostTable) (J : Journal) (who : Instance) → HasPlainNames H
    → active_of H J ≡ Some who →
    take (length (origin_of H J who)) (chrome_of H J 1) ≡ origin_of H J who

-- One set more puts its cookie into the jar: it keeps the place of its name, or goes last.
abbrev pub AreSetsPut : Type 0
AreSetsPut = (set : Cookie) (sets : List Cookie) → jar (set ∷ sets) ≡ put set (jar sets)

-- all that a journal says
pub record Views : Type 0 where
  pub tabs : Tabs
  pub focus : Focus
  pub sets : List ℕ → List Cookie
  pub cells : Instance → ℕ → ℕ → ℕ
  pub screen : ℕ → ℕ → ℕ
  pub network : Network
  pub objects : List ℕ → List KeyObject
  pub requests : Instance → Requests

abbrev pub views : HostTable → Journal → Views
views H J = record {
  tabs = tabs H J;
  focus = focus_of J;
  sets = sets_of H J;
  cells = cell_of J;
  screen = screen H J;
  network = network J;
  objects = objects_of H J;
  requests = requests_of J;
}

-- A denied entry changes nothing.
abbrev pub IsUnchanged : Type 0
IsUnchanged = (H : HostTable) (J : Journal) (e : Entry) → is_accepted e ≡ false
    → views H (e ∷ J) ≡ views H J

-- What acts make of a host table is a run, whatever the device writes.
abbrev pub AreRuns : Type 0
AreRuns = (H : HostTable) (A : List Act) (W : List (List ℕ)) → IsRun H (run H A W)

-- Each run is that of its acts, and of what the device wrote for the frames heard.
abbrev pub AreOfTheirActs : Type 0
AreOfTheirActs = (H : HostTable) (J : Journal) → IsRun H J → J ≡ run H (acts J) (heard J)

-- A journal from which a run goes on still does after the entry of the next act.
abbrev pub DoGoOn : Type 0
DoGoOn = (H : HostTable) (J : Journal) (e : Entry) (left all : List Act) → Follows H J e →
    GoesOn H J (e.act ∷ left) all → GoesOn H (e ∷ J) left all

-- The text of a journal is a front of that of each run from there, and so are the frames that were
-- heard.
abbrev pub AreFronts : Type 0
AreFronts = (H : HostTable) (J : Journal) (A : List Act) (W : List (List ℕ)) →
    (more : List ℕ) × (text_of J ++ more ≡ text_of (run_from H J A W))

abbrev pub AreFrameFronts : Type 0
AreFrameFronts = (H : HostTable) (J : Journal) (A : List Act) (W : List (List ℕ)) →
    (more : List (List ℕ)) × (frames J ++ more ≡ frames (run_from H J A W))

-- An instance that never started has bound nothing, and has no frame.
abbrev pub AreUnbornBare : Type 0
AreUnbornBare = (H : HostTable) (J : Journal) (p : Instance) → IsRun H J → life_of H J p ≡ Unborn
    → ((network J).flows p ≡ []) × ((network J).unread p ≡ [])

-- The counts of a ring, where the device is done with so many descriptors: none of taken back, done
-- with, rung and posted passes the one behind it, and one slot stays empty.
pub record AreInOrder (v : RingValues) (count : ℕ) : Type 0 where
  pub taken : v.taken ≤ count
  pub passed : count ≤ v.rung
  pub rung : v.rung ≤ v.posted
  pub posted : v.posted ≤ v.taken + 63
  -- where the ring was never enabled the device is done with none
  pub unused : is_enabled v.control ≡ false → count ≡ 0

pub record IsOrdered (r : Rings) (frames : List (List ℕ)) : Type 0 where
  pub receive : AreInOrder r.receive r.heard
  pub transmit : AreInOrder r.transmit r.sent
  pub names : length r.names ≡ r.receive.posted - r.receive.taken
  pub turns : length r.turns ≡ 64
  pub posts : length r.posts ≡ r.transmit.posted
  pub pending : length frames ≡ r.heard - r.receive.taken

-- In every run the counts of both rings are in order: each heard frame that is pending has a
-- buffer.
abbrev pub AreOrdered : Type 0
AreOrdered = (H : HostTable) (J : Journal) → IsRun H J
    → IsOrdered (network J).rings (network J).pending

-- At first the registers are those of a reset, with the own address.
abbrev pub AreFirst : Type 0
AreFirst = (H : HostTable) (reg : Reg) → registers_of H [] reg ≡ first_registers H.local reg

-- Each entry of a run changes them as the device does.
abbrev pub AreTheDevices : Type 0
AreTheDevices = (H : HostTable) (J : Journal) (e : Entry) (reg : Reg) → IsRun H (e ∷ J)
    → registers_of H (e ∷ J) reg
    ≡ registers_by (is_accepted e) e.act e.outcome.items (registers_of H J) reg

-- In every run the verdict of a frame is the one that the device gives by its registers.
abbrev pub IsTheDevices : Type 0
IsTheDevices = (H : HostTable) (J : Journal) (frame : List ℕ) → IsRun H J
    → verdict_at H.local (network J).rings frame ≡ verdict_of (registers_of H J) frame

-- In every run the device sends a frame where the journal does.
abbrev pub IsSentByTheDevice : Type 0
IsSentByTheDevice = (H : HostTable) (J : Journal) → IsRun H J
    → can_send (network J).rings ≡ can_transmit (registers_of H J)

-- Buffers come back in the order of their posts: the next frame that is taken back lies under the
-- handle of the oldest post that is not, whose turn is then one higher.
abbrev pub AreLentInOrder : Type 0
AreLentInOrder = (H : HostTable) (J : Journal) → IsRun H J → handles_after (network J).rings
    ≡ map next_turn (drop (network J).rings.receive.taken (posts J))

-- Of the frames that bells gave an instance those are unread that it is not done with, and it is
-- done with them in their order.
abbrev pub AreReadInOrder : Type 0
AreReadInOrder = (H : HostTable) (J : Journal) (p : Instance) → IsRun H J
    → (network J).unread p ≡ drop (done_count p J) (frames_for p J)

-- No act but the wire's has to do with the device's log.
abbrev pub AreLoggedAlone : Type 0
AreLoggedAlone = (H : HostTable) (J : Journal) (a : Act) → is_by Wire a ≡ false
    → kind_of (out H J a) ≡ Nothing

-- As many frames were heard as the rings count, and the last of them, those that were not taken
-- back, are pending.
abbrev pub ArePendingLast : Type 0
ArePendingLast = (H : HostTable) (J : Journal) → IsRun H J
    → ((network J).rings.heard ≡ length (heard J))
    × ((network J).pending ≡ drop (network J).rings.receive.taken (heard J))

-- Each instance that started has the endpoint of its page, where the host table has plain names, as
-- each one has that was read.
abbrev pub AreAtEndpoints : Type 0
AreAtEndpoints = (H : HostTable) (J : Journal) (p : Instance) (page : PageValue) → HasPlainNames H
    → (tabs H J).page p ≡ Some page → endpoint_for H (origin_of H J p) ≡ endpoint_of page

-- Each number is posted at most once, and only where a send with it was accepted.
pub record IsPostedOnce (posts : List ℕ) (sends : List Send) : Type 0 where
  pub once : IsDistinct (◌==◌) posts
  pub accepted : All (λ k. k < length sends) posts

abbrev pub ArePostedOnce : Type 0
ArePostedOnce = (H : HostTable) (J : Journal) → IsRun H J
    → IsPostedOnce (network J).rings.posts (network J).sends

-- A send breaks no rule of frames that go out, its source is a port of its sender, and its
-- destination is the endpoint of its sender's origin.
pub record IsRight (H : HostTable) (J : Journal) (send : Send) : Type 0 where
  pub rules : first_broken H.local Out send.bytes ≡ None
  pub flow : ℕ
  pub few : flow < 16
  pub port : (heading_of Out send.bytes).port ≡ port_of send.who flow
  pub remote : (heading_of Out send.bytes).remote ≡ endpoint_for H (origin_of H J send.who)

abbrev pub AreRight : Type 0
AreRight = (H : HostTable) (J : Journal) → IsRun H J → All (IsRight H J) (network J).sends

-- a frame that went out is that of a send, which is right
abbrev pub IsOfASend : HostTable → Journal → List ℕ → Type 0
IsOfASend H J w = (send : Send) × (number : ℕ) × (send_at (network J).sends number ≡ Some send)
    × (send.bytes ≡ w) × IsRight H J send

-- Each frame that went out is that of a send which was accepted, and which is right.
abbrev pub AreSentRightly : Type 0
AreSentRightly = (H : HostTable) (J : Journal) → IsRun H J
    → All (IsOfASend H J) (sent_frames (network J))

-- An entry of a run adds the frame that is next where it sends one, and else none.
abbrev pub AreSentInTurn : Type 0
AreSentInTurn = (H : HostTable) (J : Journal) (e : Entry) → IsRun H (e ∷ J)
    → sent_frames (network (e ∷ J)) ≡ sent_frames (network J)
    ++ (if is_sent e.outcome then next_frame (network J) ∷ [] else [])

-- The frames that went out are a front of those of each run from there.
abbrev pub AreSentFronts : Type 0
AreSentFronts = (H : HostTable) (J : Journal) (A : List Act) (W : List (List ℕ)) → IsRun H J →
    (more : List (List ℕ)) × (sent_frames (network J) ++ more
    ≡ sent_frames (network (run_from H J A W)))

-- While a buffer is away it has the bytes that it had at its submit.
abbrev pub AreFixed : Type 0
AreFixed = (H : HostTable) (J : Journal) (e : Entry) (p : Instance) (b : ℕ)
    → IsRun H (e ∷ J) → (network J).away p b ≡ true
    → (network (e ∷ J)).buffers p b ≡ (network J).buffers p b

-- An instance that never started has stored nothing away: no send is its, and it has no request.
abbrev pub AreUnbornQuiet : Type 0
AreUnbornQuiet = (H : HostTable) (J : Journal) (p : Instance) → IsRun H J
    → life_of H J p ≡ Unborn → (requests_of J p ≡ no_requests)
    × ((b : ℕ) → (network J).away p b ≡ false)
    × ((b : ℕ) → (network J).buffers p b ≡ fresh_buffer)
