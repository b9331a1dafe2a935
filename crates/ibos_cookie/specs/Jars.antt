-- Cookie jars by origin, and what a set makes of them.
use Rattle.std.specs.Prelude.{◌≡◌, ℕ, List, [], ◌∷◌, map, bytes_eq}
use Rattle.std.specs.Prelude.{if◌then◌else◌}
use Rattle.std.specs.Global.{Vec}
use Rattle.ibos_kinds.specs.declared.cookies.Cookie.{Cookie}
use Rattle.ibos_kinds.specs.Cookies.{put}

-- an origin's text, and the cookies of that origin in the order in which they were first set
pub record OriginJar : Type 0 where
  pub origin : List ℕ
  pub cookies : List Cookie

-- the jar of an origin, empty where nothing was set
abbrev pub jar_of : List OriginJar → List ℕ → List Cookie
jar_of [] origin = []
jar_of (jar ∷ jars) origin = if bytes_eq jar.origin origin then jar.cookies else jar_of jars origin

-- the jars after a set of an origin: its jar has the set, and all others stay
abbrev pub SetsIn : List OriginJar → List OriginJar → List ℕ → Cookie → Type 0
SetsIn old new origin set = (other : List ℕ)
    → jar_of new other ≡ (if bytes_eq origin other then put set (jar_of old other)
    else jar_of old other)

-- the jars after an origin is given a jar: it has that one, and all others stay
abbrev pub PutsJar : List OriginJar → List OriginJar → List ℕ → List Cookie → Type 0
PutsJar old new origin jar = (other : List ℕ)
    → jar_of new other ≡ (if bytes_eq origin other then jar else jar_of old other)

-- the jars that a table by origin holds, in its order
abbrev pub origin_jars : List (Vec ℕ × List Cookie) → List OriginJar
origin_jars entries = map (λ entry. record { origin = entry.0.items; cookies = entry.1 }) entries
