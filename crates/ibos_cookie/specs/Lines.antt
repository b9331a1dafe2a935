-- The text that a jar keeps, and the table of what stands where in it.
use Rattle.std.specs.Prelude.{ℕ, zero, suc, ◌≡◌, ◌+◌, List, [], ◌∷◌, ◌++◌, take, drop, length}
use Rattle.std.specs.Prelude.{codes, false}
use Rattle.std.specs.Global.{Vec}
use Rattle.ibos_kinds.specs.declared.cookies.Cookie.{Cookie}
use Rattle.ibos_kinds.specs.Cookies.{is_over}

-- what stands before a value: `; name=`
unfoldable pub front : List ℕ → List ℕ
front name = codes "; " ++ name ++ codes "="

-- the cookies one after another, each as `; name=value`
abbrev pub lines : List Cookie → List ℕ
lines [] = []
lines (c ∷ cookies) = (front c.name ++ c.value) ++ lines cookies

-- how many bytes the cookies of a table have there; it tells each name, and how long the value is
abbrev pub table_len : List (Vec ℕ × ℕ) → ℕ
table_len [] = 0
table_len (e ∷ entries) = length e.0.items + 3 + e.1 + table_len entries

-- where the value of one of them begins
abbrev pub value_at : List (Vec ℕ × ℕ) → ℕ → ℕ
value_at [] i = 0
value_at (e ∷ entries) zero = length e.0.items + 3
value_at (e ∷ entries) (suc i) = length e.0.items + 3 + e.1 + value_at entries i

-- the cookies that a table finds in a text
abbrev pub cookies_in : List (Vec ℕ × ℕ) → List ℕ → List Cookie
cookies_in [] text = []
cookies_in (e ∷ entries) text =
    record { name = e.0.items; value = take e.1 (drop (length e.0.items + 3) text) }
    ∷ cookies_in entries (drop (length e.0.items + 3 + e.1) text)

-- a table tells the names of these cookies, and how long their values are
abbrev pub AreMeasured : List (Vec ℕ × ℕ) → List Cookie → Type 0
AreMeasured [] [] = Unit {0}
AreMeasured (e ∷ entries) (c ∷ cookies) =
    (e.0.items ≡ c.name) × (e.1 ≡ length c.value) × AreMeasured entries cookies
AreMeasured entries cookies = ⊥

-- a table and a text are those of a jar
pub record IsJar (entries : List (Vec ℕ × ℕ)) (text : List ℕ) (cookies : List Cookie) : Type 0 where
  pub measured : AreMeasured entries cookies
  pub text_is : text ≡ lines cookies
  pub within : is_over cookies ≡ false
