-- A denied entry changes nothing.
use Rattle.std.proofs.Common.{◌≡◌, ℕ, List, [], Bool, true, false, Option, Some, None, refl, ◌∙◌, ap}
use Rattle.ibos_kinds.specs.declared.names.Instance.{Instance}
use Rattle.ibos_kinds.specs.declared.names.Key.TheVariants.{Byte}
use Rattle.ibos_kinds.specs.declared.act.Act.{Act}
use Rattle.ibos_kinds.specs.declared.act.Act.TheVariants.{Press, Bind, Unbind, Done, Fill, Submit, Put, Ask, StoreAnswer, StoreNone}
use Rattle.ibos_kinds.specs.declared.cookies.Cookie.{Cookie}
use Rattle.ibos_kinds.specs.Objects.{KeyObject}
use Rattle.ibos_kinds.specs.Requests.{Requests}
use Rattle.ibos_origin.specs.Hosts.{HostTable}
use Rattle.ibos_model.specs.Focus.{Focus, focus_by, focus_of}
use Rattle.ibos_model.specs.Tabs.{Tabs, changes, changed_by, tabs, origin_in, active_in}
use Rattle.ibos_model.specs.Jars.{sets_by, sets_of}
use Rattle.std.specs.Prelude.{if◌then◌else◌, nat_lt, slice_index, ◌-◌, ◌&&◌}
use Rattle.ibos_kinds.specs.Screens.{chrome_rows, space, padded}
use Rattle.ibos_model.specs.Screen.{cell_by, cell_of, chrome_in, screen}
use Rattle.ibos_kinds.specs.declared.outcome.Outcome.{Outcome}
use Rattle.ibos_model.specs.Journal.{Journal}
use Rattle.ibos_model.specs.Network.{Network, network, network_by}
use Rattle.ibos_model.specs.Stored.{is_about, objects_by, objects_of, requests_by, requests_of}
use Rattle.ibos_model.specs.Laws.{Views, IsUnchanged}

-- what a denied act does to each view
pub record IsStill (H : HostTable) (t : Tabs) (f : Focus) (origins : Instance → List ℕ) (sets : List ℕ → List Cookie) (cells : Instance → ℕ → ℕ → ℕ) (a : Act) : Type 0 where
  pub changes : changes H t f false a ≡ []
  pub focus : focus_by false a f ≡ f
  pub sets_are : (λ (o : List ℕ). sets_by origins o false a (sets o)) ≡ sets
  pub cells_are : (λ (p : Instance) (r c : ℕ). cell_by p r c false a (cells p r c)) ≡ cells

still : (H : HostTable) (t : Tabs) (f : Focus) (origins : Instance → List ℕ) (sets : List ℕ → List Cookie) (cells : Instance → ℕ → ℕ → ℕ) (a : Act) → IsStill H t f origins sets cells a
still H t f origins sets cells (Press (Byte byte)) = record { changes = refl; focus = refl; sets_are = refl; cells_are = refl }
still H t f origins sets cells other = record { changes = refl; focus = refl; sets_are = refl; cells_are = refl }

and_false : (b : Bool) → (b && false) ≡ false
and_false true = refl
and_false false = refl

network_still : (a : Act) (outcome : Outcome) (w : List ℕ) (n : Network) → network_by false a outcome w n ≡ n
network_still (Bind who proto) outcome w n = simp and_false
network_still (Unbind who flow) outcome w n = simp and_false
network_still (Done who) outcome w n = simp and_false
network_still (Fill who buffer place bytes) outcome w n = simp and_false
network_still (Submit who buffer len) outcome w n = simp and_false
network_still other outcome w n = refl

objects_still : (origins : Instance → List ℕ) (a : Act) (objects : List ℕ → List KeyObject) → (λ (o : List ℕ). objects_by origins o false a (objects o)) ≡ objects
objects_still origins (Put who key bytes) objects = refl
objects_still origins other objects = refl

requests_still : (a : Act) (requests : Instance → Requests) → (λ (p : Instance). requests_by (is_about p a) false a (requests p)) ≡ requests
requests_still (Ask who key) requests = simp and_false
requests_still (StoreAnswer who request origin key version) requests = simp and_false
requests_still (StoreNone who request) requests = simp and_false
requests_still other requests = refl

-- the views, from their parts
abbrev screen_by : Tabs → Focus → (Instance → ℕ → ℕ → ℕ) → Option Instance → ℕ → ℕ → ℕ
screen_by t f cells active r c =
    if nat_lt r chrome_rows then slice_index (padded (chrome_in t f r)) c
    else content active (r - chrome_rows) c
  where
    content : Option Instance → ℕ → ℕ → ℕ
    content None r c = space
    content (Some who) r c = cells who r c

-- what is kept of flows and frames, and of what is stored
pub record Kept : Type 0 where
  pub network : Network
  pub objects : List ℕ → List KeyObject
  pub requests : Instance → Requests

abbrev views_in : Tabs → Focus → (List ℕ → List Cookie) → (Instance → ℕ → ℕ → ℕ) → Kept → Views
views_in t f sets cells k = record { tabs = t; focus = f; sets = sets; cells = cells; screen = screen_by t f cells (active_in t f); network = k.network; objects = k.objects; requests = k.requests }

abbrev views_after : HostTable → Tabs → Focus → (List ℕ → List Cookie) → (Instance → ℕ → ℕ → ℕ) → Bool → Act → Kept → Views
views_after H t f sets cells ok a n =
    views_in (changed_by t (changes H t f ok a)) (focus_by ok a f) (λ o. sets_by (origin_in t) o ok a (sets o)) (λ p r c. cell_by p r c ok a (cells p r c)) n

views_still : (H : HostTable) (t : Tabs) (f : Focus) (sets : List ℕ → List Cookie) (cells : Instance → ℕ → ℕ → ℕ) (a : Act) (n : Kept)
    → IsStill H t f (origin_in t) sets cells a → views_after H t f sets cells false a n ≡ views_in t f sets cells n
views_still H t f sets cells a n is =
    ap (λ cs. views_in (changed_by t cs) (focus_by false a f) (λ o. sets_by (origin_in t) o false a (sets o)) (λ p r c. cell_by p r c false a (cells p r c)) n) is.changes
    ∙ ap (λ g. views_in t g (λ o. sets_by (origin_in t) o false a (sets o)) (λ p r c. cell_by p r c false a (cells p r c)) n) is.focus
    ∙ ap (λ s. views_in t f s (λ p r c. cell_by p r c false a (cells p r c)) n) is.sets_are
    ∙ ap (λ x. views_in t f sets x n) is.cells_are

abbrev kept_by : (Instance → List ℕ) → Bool → Act → Outcome → List ℕ → Kept → Kept
kept_by origins ok a outcome w k = record {
  network = network_by ok a outcome w k.network;
  objects = λ o. objects_by origins o ok a (k.objects o);
  requests = λ p. requests_by (is_about p a) ok a (k.requests p);
}

kept_still : (origins : Instance → List ℕ) (a : Act) (outcome : Outcome) (w : List ℕ) (k : Kept) → kept_by origins false a outcome w k ≡ k
kept_still origins a outcome w k =
    ap (λ (n : Network). let made : Kept = record { network = n; objects = λ o. objects_by origins o false a (k.objects o); requests = λ p. requests_by (is_about p a) false a (k.requests p) } in made) (network_still a outcome w k.network)
    ∙ ap (λ (x : List ℕ → List KeyObject). let made : Kept = record { network = k.network; objects = x; requests = λ p. requests_by (is_about p a) false a (k.requests p) } in made) (objects_still origins a k.objects)
    ∙ ap (λ (x : Instance → Requests). let made : Kept = record { network = k.network; objects = k.objects; requests = x } in made) (requests_still a k.requests)

abbrev kept_of : HostTable → Journal → Kept
kept_of H J = record { network = network J; objects = objects_of H J; requests = requests_of J }

pub unchanged : IsUnchanged
unfolding tabs focus_of sets_of cell_of screen network objects_of requests_of
unchanged H J e is =
    let t = tabs H J in
    ap (λ ok. views_after H t (focus_of J) (sets_of H J) (cell_of J) ok e.act (kept_by (origin_in t) ok e.act e.outcome e.written (kept_of H J))) is
    ∙ ap (views_after H t (focus_of J) (sets_of H J) (cell_of J) false e.act) (kept_still (origin_in t) e.act e.outcome e.written (kept_of H J))
    ∙ views_still H t (focus_of J) (sets_of H J) (cell_of J) e.act (kept_of H J) (still H t (focus_of J) (origin_in t) (sets_of H J) (cell_of J) e.act)
