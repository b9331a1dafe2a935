-- Cookie jars: the names in the order of their first accepted set, each with its last value.
use Rattle.std.specs.Prelude.{ℕ, List, [], ◌∷◌, ◌++◌, Bool, ◌&&◌, map, bytes_eq, if◌then◌else◌}
use Rattle.std.specs.List.{list_any}
use Rattle.ibos_kinds.specs.declared.cookies.Cookie.{Cookie}
use Rattle.ibos_kinds.specs.Cookies.{cookie_in}
use Rattle.ibos_kinds.specs.declared.names.Instance.{Instance}
use Rattle.ibos_kinds.specs.declared.act.Act.{Act}
use Rattle.ibos_kinds.specs.declared.act.Act.TheVariants.{CookieSet}
use Rattle.ibos_origin.specs.Hosts.{HostTable}
use Rattle.ibos_model.specs.Journal.{Journal, is_accepted}
use Rattle.ibos_model.specs.Tabs.{origin_of}

-- the names of accepted sets, the newest set first, in the order of their first set
abbrev pub names : List Cookie → List (List ℕ)
names [] = []
names (set ∷ older) = if list_any (bytes_eq set.name) (names older) then names older
    else names older ++ set.name ∷ []

-- the last value of a name
abbrev pub value_of : List Cookie → List ℕ → List ℕ
value_of [] name = []
value_of (set ∷ older) name = if bytes_eq set.name name then set.value else value_of older name

-- each name with its last value
unfoldable pub jar : List Cookie → List Cookie
jar sets = map (λ name. record { name = name; value = value_of sets name }) (names sets)

-- a set of an instance of the origin, before the older ones
abbrev pub with_set : Bool → List ℕ → List Cookie → List Cookie
with_set counts text older = if counts then cookie_in text ∷ older else older

abbrev pub sets_by : (Instance → List ℕ) → List ℕ → Bool → Act → List Cookie → List Cookie
sets_by origins o ok (CookieSet side who text) older = with_set (ok
    && bytes_eq (origins who) o) text older
sets_by origins o ok other older = older

-- the accepted sets by instances of an origin, the newest first
unfoldable pub sets_of : HostTable → Journal → List ℕ → List Cookie
sets_of H [] o = []
sets_of H (e ∷ J) o = sets_by (origin_of H J) o (is_accepted e) e.act (sets_of H J o)
