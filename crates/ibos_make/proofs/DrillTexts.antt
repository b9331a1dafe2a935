-- The texts of a drill, as they are put together.
use Rattle.std.proofs.Common.{◌≡◌, ℕ, ◌+◌, ◌%◌, ◌<◌, [], ◌∷◌, slice_set, refl, arith}
use Rattle.std.specs.Prelude.{codes}
use Rattle.std.proofs.lemmas.Fmt.{decimal_digit}
use Rattle.ibos_make.specs.Drill.{key_name, drill_origin, host_name}

pub key-spelled : (e : ℕ) → 107 ∷ (48 + e % 4) ∷ [] ≡ key_name e
unfolding key_name
key-spelled e = rw (decimal_digit (e % 4) (omega arith)) refl

pub origin-spelled : (t : ℕ) → t < 8 → slice_set (codes "http://h0.example") 8 (48 + t) ≡ drill_origin t
unfolding drill_origin host_name
origin-spelled t few = rw (decimal_digit t (omega (arith, few))) refl
