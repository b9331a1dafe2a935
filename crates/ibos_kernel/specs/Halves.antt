-- The two halves of the kernel and the device, and what an act makes of them.
use Rattle.std.specs.Prelude.{ℕ, ◌≡◌, List, ◌∷◌, Option, Some, None}
use Rattle.ibos_kinds.specs.declared.names.Endpoint.{Endpoint}
use Rattle.ibos_kinds.specs.declared.names.Instance.{Instance}
use Rattle.ibos_kinds.specs.declared.act.Act.{Act}
use Rattle.ibos_kinds.specs.declared.outcome.Item.{Item}
use Rattle.ibos_kinds.specs.declared.outcome.Item.TheVariants.{Opened, Ended}
use Rattle.ibos_kinds.specs.declared.outcome.Outcome.{Outcome}
use Rattle.ibos_nic.specs.declared.log.LogEntry.{LogEntry}
use Rattle.ibos_nic.specs.Registers.{Registers}
use Rattle.ibos_origin.specs.Pages.{Page, endpoint_of}
use Rattle.ibos_page.specs.Tabs.{TabTable, seat_at}
use Rattle.ibos_model.specs.Journal.{Journal}
use Rattle.ibos_model.specs.Network.{Network, no_endpoint}
use Rattle.ibos_model.specs.Outcomes.{out}
use Rattle.ibos_model.specs.Tabs.{Life, Unborn, Alive, Gone}
use Rattle.ibos_net.specs.NetStanding.{IsBare, NetState, with_life, with_remote}
use Rattle.ibos_kernel.specs.Tables.{Parts}
use Rattle.ibos_kernel.specs.Standing.{Agrees, NetStandsFor, PartsStand, entry}

-- both halves stand for a journal
pub record HalvesStand (J : Journal) (pages : Parts) (net : NetState) : Type 0 where
  pub pages_stand : PartsStand J pages
  pub net_stands : NetStandsFor pages.hosts J net

-- Halves and device go on from a journal with the entry of an act.
pub record GoOn (J : Journal) (old : Parts) (act : Act) (outcome : Outcome) (pages : Parts)
    (net : NetState) (f : Registers) (log : List LogEntry) : Type 0 where
  pub outcome_is : outcome ≡ out old.hosts J act
  pub pages_stand : PartsStand (entry act outcome log ∷ J) pages
  pub net_stands : NetStandsFor old.hosts (entry act outcome log ∷ J) net
  pub agrees : Agrees old.hosts (entry act outcome log ∷ J) f log

-- the instance that an act's items tell to have ended, and the one that started
abbrev pub ended_in : List Item → Option Instance
ended_in (Ended who ∷ items) = Some who
ended_in other = None

abbrev pub opened_in : List Item → Option Instance
opened_in (Opened who url ∷ items) = Some who
opened_in (Ended gone ∷ Opened who url ∷ items) = Some who
opened_in other = None

-- lives after an end, and after a start
abbrev pub with_ended : Option Instance → (Instance → Life) → Instance → Life
with_ended None life = life
with_ended (Some who) life = with_life who Gone life

abbrev pub with_begun : Option Instance → (Instance → Life) → Instance → Life
with_begun None life = life
with_begun (Some who) life = with_life who Alive life

-- where a page is
abbrev pub endpoint_with : Option Page → Endpoint
endpoint_with None = no_endpoint
endpoint_with (Some page) = endpoint_of page

abbrev pub remotes_with : TabTable → Option Instance → (Instance → Endpoint) → Instance → Endpoint
remotes_with t None remotes = remotes
remotes_with t (Some who) remotes =
    with_remote who (endpoint_with (seat_at t who.tab).page) remotes

-- an instance that starts never did, and has nothing yet
pub record IsNew (life : Instance → Life) (n : Network) (who : Instance) : Type 0 where
  pub unborn : life who ≡ Unborn
  pub bare : IsBare n who

-- how many started
abbrev pub begun : Option Instance → ℕ
begun None = 0
begun (Some who) = 1
