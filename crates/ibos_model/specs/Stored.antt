-- Stored objects of each origin, and the requests of each instance.
use Rattle.std.specs.Prelude.{ℕ, List, [], ◌∷◌, Bool, false, ◌&&◌, bytes_eq, Option, None}
use Rattle.std.specs.Prelude.{if◌then◌else◌}
use Rattle.ibos_kinds.specs.declared.names.Instance.{Instance}
use Rattle.ibos_kinds.specs.declared.act.Act.{Act}
use Rattle.ibos_kinds.specs.declared.act.Act.TheVariants.{Put, Ask, StoreAnswer, StoreNone}
use Rattle.ibos_kinds.specs.declared.act.Act.TheVariants.{StoreLose}
use Rattle.ibos_kinds.specs.Objects.{KeyObject, with_loss, with_put}
use Rattle.ibos_kinds.specs.Requests.{Requests, key_in, no_requests, with_ask, without_request}
use Rattle.ibos_origin.specs.Hosts.{HostTable}
use Rattle.ibos_model.specs.Journal.{Journal, is_accepted, same}
use Rattle.ibos_model.specs.Tabs.{Life, Unborn, Alive, Gone, origin_of}

-- a put by an instance of the origin
abbrev pub put_by : (Instance → List ℕ) → List ℕ → Bool → Act → List KeyObject → List KeyObject
put_by origins o ok (Put who key bytes) old = if ok && bytes_eq (origins who) o
    then with_put key bytes old else old
put_by origins o ok other old = old

-- a put, or the loss of the origin's newest version under a key
abbrev pub objects_by : (Instance → List ℕ) → List ℕ → Bool → Act → List KeyObject → List KeyObject
objects_by origins o ok (Put who key bytes) old = if ok && bytes_eq (origins who) o
    then with_put key bytes old else old
objects_by origins o ok (StoreLose origin key version) old = if ok && bytes_eq origin o
    then with_loss key old else old
objects_by origins o ok other old = old

-- the objects of an origin: the count of the puts of each key, and the bytes of the last, unless
-- the storage process lost them
unfoldable pub objects_of : HostTable → Journal → List ℕ → List KeyObject
objects_of H [] o = []
objects_of H (e ∷ J) o = objects_by (origin_of H J) o (is_accepted e) e.act (objects_of H J o)

-- the same as if nothing was ever lost
unfoldable pub puts_of : HostTable → Journal → List ℕ → List KeyObject
puts_of H [] o = []
puts_of H (e ∷ J) o = put_by (origin_of H J) o (is_accepted e) e.act (puts_of H J o)

-- the act asks for the instance, or answers a request of it
abbrev pub is_about : Instance → Act → Bool
is_about p (Ask who key) = same who p
is_about p (StoreAnswer who request origin key version) = same who p
is_about p (StoreNone who request) = same who p
is_about p other = false

-- about: the act is about the instance
abbrev pub requests_by : Bool → Bool → Act → Requests → Requests
requests_by about ok (Ask who key) old = if about && ok then with_ask key old else old
requests_by about ok (StoreAnswer who request origin key version) old = if about && ok
    then without_request request old else old
requests_by about ok (StoreNone who request) old = if about && ok then without_request request old
    else old
requests_by about ok other old = old

-- The requests of an instance stay what they were when it ended. They are asked for while it lives.
unfoldable pub requests_of : Journal → Instance → Requests
requests_of [] p = no_requests
requests_of (e ∷ J) p = requests_by (is_about p e.act) (is_accepted e) e.act (requests_of J p)

-- the key of a request that is not answered, of an instance that lives
abbrev pub open_key : Life → Requests → ℕ → Option (List ℕ)
open_key Unborn requests request = None
open_key Alive requests request = key_in requests request
open_key Gone requests request = None
