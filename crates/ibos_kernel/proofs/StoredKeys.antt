-- Requests of instances that live, and the labels that answer them.
use Rattle.std.proofs.Common.{◌≡◌, ℕ, Bool, true, false, List, Some, None, refl, sym, ◌∙◌, ap}
use Rattle.std.specs.Prelude.{is_some, nat_lt, option_and_then, if◌then◌else◌}
use Rattle.ibos_kinds.specs.declared.names.Instance.{Instance}
use Rattle.ibos_kinds.specs.Labels.{label_answer}
use Rattle.ibos_kinds.specs.Objects.{KeyObject, newest_in}
use Rattle.ibos_kinds.specs.Requests.{Requests, key_in}
use Rattle.ibos_page.specs.Tabs.{seat_at}
use Rattle.ibos_store.specs.Stores.{key_of, object_at}
use Rattle.ibos_model.specs.Journal.{Journal}
use Rattle.ibos_model.specs.Stored.{objects_of, open_key, requests_of}
use Rattle.ibos_model.specs.Tabs.{Unborn, Alive, Gone, life_of, origin_of}
use Rattle.ibos_kernel.specs.Standing.{PartsStand}
use Rattle.ibos_kernel.specs.Storage.{IsAskedWhereLive, own_requests}
use Rattle.ibos_kernel.specs.Tables.{Parts, is_live, origin_at}

-- the store keeps the requests of those that live
pub asked_of : (J : Journal) (t : Parts) → PartsStand J t → IsAskedWhereLive t.tabs t.store
asked_of J t stands = λ q. ap is_some (stands.requests q) ∙ some_if (is_live t.tabs q) (requests_of J q)
  where
    some_if : (lives : Bool) (requests : Requests) → is_some (if lives then Some requests else None) ≡ lives
    some_if true requests = refl
    some_if false requests = refl

pub own_asked : (J : Journal) (t : Parts) (who : Instance) → PartsStand J t → is_live t.tabs who ≡ true → own_requests t.store who ≡ requests_of J who
own_asked J t who stands lives = rw (stands.requests who, lives) refl

pub key_stands : (J : Journal) (t : Parts) (who : Instance) (request : ℕ) → PartsStand J t → key_of t.store who request ≡ open_key (life_of t.hosts J who) (requests_of J who) request
key_stands J t who request stands = rw (stands.requests who, stands.tabs.life who) (by_tests (is_live t.tabs who) (nat_lt who.ord (seat_at t.tabs who.tab).count))
  where
    by_tests : (lives gone : Bool) → option_and_then (λ (r : Requests). key_in r request) (if lives then Some (requests_of J who) else None) ≡ open_key (if lives then Alive else if gone then Gone else Unborn) (requests_of J who) request
    by_tests true gone = refl
    by_tests false true = refl
    by_tests false false = refl

-- who doesn't live has no request, whatever its origin
pub label_stands : (J : Journal) (t : Parts) (who : Instance) (request : ℕ) (origin key : List ℕ) (version : ℕ) → PartsStand J t → (is_live t.tabs who ≡ true → origin_of t.hosts J who ≡ origin_at t.tabs who)
    → label_answer (key_of t.store who request) (origin_at t.tabs who) origin key version (object_at t.store origin key)
    ≡ label_answer (open_key (life_of t.hosts J who) (requests_of J who) request) (origin_of t.hosts J who) origin key version (newest_in (objects_of t.hosts J origin) key)
label_stands J t who request origin key version stands same =
    rw (sym (key_stands J t who request stands), sym (ap (λ (objects : List KeyObject). newest_in objects key) (stands.objects origin))) (by_lives (is_live t.tabs who) refl)
  where
    none : is_live t.tabs who ≡ false → key_of t.store who request ≡ None
    none dead = rw (stands.requests who, dead) refl

    by_lives : (lives : Bool) → is_live t.tabs who ≡ lives → label_answer (key_of t.store who request) (origin_at t.tabs who) origin key version (object_at t.store origin key)
        ≡ label_answer (key_of t.store who request) (origin_of t.hosts J who) origin key version (object_at t.store origin key)
    by_lives true lives = rw (same lives) refl
    by_lives false dead = rw (none dead) refl
