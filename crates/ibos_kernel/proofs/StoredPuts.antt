-- An object that is stored is short.
use Rattle.std.proofs.Common.{◌≡◌, ℕ, ◌≤◌, Bool, true, false, List, length, Ok, Err, refl, arith}
use Rattle.std.specs.Prelude.{nat_lt, not, if◌then◌else◌}
use Rattle.std.proofs.lemmas.Bool.Decides.{nat_tests}
use Rattle.ibos_kinds.specs.declared.rule.Rule.TheVariants.{S1, S2}
use Rattle.ibos_kinds.specs.Labels.{put_answer, quota_answer}
use Rattle.ibos_kinds.specs.Objects.{KeyObject, is_key}

pub short_if : (key bytes : List ℕ) (objects : List KeyObject) (version : ℕ) → put_answer key bytes objects ≡ Ok version → length bytes ≤ 2048
unfolding put_answer
short_if key bytes objects version answer = by_tests (is_key key) (nat_lt 2048 (length bytes)) refl answer
  where
    by_tests : (named long : Bool) → nat_lt 2048 (length bytes) ≡ long → (if not named then Err S1 else if long then Err S2 else quota_answer key bytes objects) ≡ Ok version → length bytes ≤ 2048
    by_tests false long is h = absurd (cc h)
    by_tests true true is h = absurd (cc h)
    by_tests true false is h = grind (arith, nat_tests, is)
