-- What acts on stored objects make of the store, and which requests it keeps.
use Rattle.std.specs.Prelude.{ℕ, ◌≡◌, ◌<◌, ◌^◌, List, [], Bool, true, false, is_some, unwrap_or}
use Rattle.std.specs.Prelude.{Option, Some, None, if◌then◌else◌}
use Rattle.std.specs.Option.{option_map}
use Rattle.ibos_kinds.specs.declared.names.Instance.{Instance}
use Rattle.ibos_kinds.specs.declared.act.Act.{Act}
use Rattle.ibos_kinds.specs.declared.act.Act.TheVariants.{Put, Ask, StoreAnswer, StoreNone}
use Rattle.ibos_kinds.specs.declared.act.Act.TheVariants.{StoreLose}
use Rattle.ibos_kinds.specs.declared.outcome.Outcome.{Outcome}
use Rattle.ibos_kinds.specs.Labels.{label_answer, lose_answer, none_answer}
use Rattle.ibos_kinds.specs.Objects.{KeyObject, version_of}
use Rattle.ibos_kinds.specs.Requests.{Requests, no_requests}
use Rattle.ibos_page.specs.Tabs.{TabTable, is_live_in, seat_at}
use Rattle.ibos_store.specs.Stores.{StoreState, key_of, object_at, objects_of, requests_of}
use Rattle.ibos_model.specs.Journal.{same}
use Rattle.ibos_model.specs.Outcomes.{accepted, ask_outcome, none_outcome, object_outcome}
use Rattle.ibos_model.specs.Outcomes.{put_outcome, unless_denied}
use Rattle.ibos_model.specs.Stored.{objects_by, requests_by}

-- the acts on stored objects
abbrev pub is_storage : Act → Bool
is_storage (Put who key bytes) = true
is_storage (Ask who key) = true
is_storage (StoreAnswer who request origin key version) = true
is_storage (StoreNone who request) = true
is_storage (StoreLose origin key version) = true
is_storage other = false

-- what an instance has asked for
abbrev pub own_requests : StoreState → Instance → Requests
own_requests store who = unwrap_or (requests_of store who) no_requests

-- the outcome of an act, where its actor may act
abbrev pub storage_outcome : (Instance → List ℕ) → StoreState → Act → Outcome
storage_outcome origins store (Put who key bytes) =
    put_outcome who (origins who) key bytes (objects_of store (origins who))
storage_outcome origins store (Ask who key) =
    ask_outcome who (origins who) key (own_requests store who)
storage_outcome origins store (StoreAnswer who request origin key version) =
    object_outcome who request version (label_answer (key_of store who request) (origins who)
    origin key version (object_at store origin key))
storage_outcome origins store (StoreNone who request) =
    none_outcome who request (none_answer (key_of store who request))
storage_outcome origins store (StoreLose origin key version) =
    unless_denied (lose_answer version (object_at store origin key))
storage_outcome origins store other = accepted []

-- the objects of an origin after an act, if it is accepted
abbrev pub objects_after : (Instance → List ℕ) → StoreState → Bool → Act → List ℕ → List KeyObject
objects_after origins store ok act o = objects_by origins o ok act (objects_of store o)

-- requests that are kept, after an act, if it is accepted
-- about: the act is about their instance
abbrev pub asked_by : Bool → Bool → Act → Option Requests → Option Requests
asked_by about ok (Ask who key) old = option_map (requests_by about ok (Ask who key)) old
asked_by about ok (StoreAnswer who request origin key version) old =
    option_map (requests_by about ok (StoreAnswer who request origin key version)) old
asked_by about ok (StoreNone who request) old =
    option_map (requests_by about ok (StoreNone who request)) old
asked_by about ok other old = old

-- The requests of an instance are kept while it lives, and one that starts has none.
-- lived, lives: whether it lived before, and lives now
abbrev pub kept_by : Bool → Bool → Option Requests → Option Requests
kept_by lived lives kept = if lives then (if lived then kept else Some no_requests) else None

abbrev pub is_one : Option Instance → Instance → Bool
is_one None q = false
is_one (Some who) q = same who q

-- the same, where one instance ended and another started
abbrev pub followed : Option Instance → Option Instance → Instance → Option Requests
    → Option Requests
followed ended opened q kept =
    if is_one opened q then Some no_requests else if is_one ended q then None else kept

-- the store keeps the requests of the instances that live, and of no others
abbrev pub IsAskedWhereLive : TabTable → StoreState → Type 0
IsAskedWhereLive t store =
    (q : Instance) → is_some (requests_of store q) ≡ is_live_in q (seat_at t q.tab)

-- the numbers of versions and of requests
pub record IsFew (store : StoreState) : Type 0 where
  pub versions : (o key : List ℕ) → version_of (object_at store o key) < 2 ^ 31
  pub requests : (q : Instance) → (own_requests store q).count < 2 ^ 31
