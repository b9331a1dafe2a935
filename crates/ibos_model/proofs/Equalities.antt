-- Equal instances, and texts.
use Rattle.std.proofs.Common.{◌≡◌, ℕ, List, [], ◌∷◌, Bool, true, false, refl, arith}
use Rattle.std.proofs.lemmas.Bool.Decides.{nat_tests}
use Rattle.std.specs.Prelude.{bytes_eq, ◌&&◌}
use Rattle.ibos_kinds.specs.declared.names.Instance.{Instance}
use Rattle.ibos_model.specs.Journal.{same}

-- the test tells when two instances are one
pub same-true : (p q : Instance) → same p q ≡ true → p ≡ q
same-true p q h = grind (arith, nat_tests)

pub same-refl : (p : Instance) → same p p ≡ true
same-refl p = grind (arith, nat_tests)

pub bytes_eq-refl : (xs : List ℕ) → bytes_eq xs xs ≡ true
bytes_eq-refl [] = refl
bytes_eq-refl (x ∷ xs) = grind (arith, nat_tests, bytes_eq-refl xs)

pub and-true : (b : Bool) → (b && true) ≡ b
and-true true = refl
and-true false = refl
