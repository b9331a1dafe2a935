-- What an answer gives is the newest version under the key that was asked for, of the own origin.
use Rattle.std.proofs.Common.{◌≡◌, ℕ, List, Bool, true, false, refl, sym, ◌∙◌, ap, arith, Option, Some, None, Ok, Err}
use Rattle.std.specs.Prelude.{◌==◌, bytes_eq, not, IsSomeAnd, if◌then◌else◌}
use Rattle.std.proofs.lemmas.Bool.Decides.{nat_tests}
use Rattle.ibos_kinds.specs.declared.rule.Rule.TheVariants.{S6, S7, S8}
use Rattle.ibos_kinds.specs.Objects.{Newest}
use Rattle.ibos_kinds.specs.Labels.{bytes_answer, newest_answer, label_answer}
use Rattle.ibos_store.proofs.Sums.{same_texts}

same_number : (a b : ℕ) → (a == b) ≡ true → a ≡ b
same_number a b is = grind (arith, nat_tests)

bytes_given : (held : Option (List ℕ)) (bytes : List ℕ) → bytes_answer held ≡ Ok bytes → held ≡ Some bytes
bytes_given None bytes given = cc
bytes_given (Some held) bytes given = cc

newest_given : (found : Option Newest) (version : ℕ) (bytes : List ℕ) → newest_answer version found ≡ Ok bytes → (len : ℕ) × (found ≡ Some (record { version = version; len = len; bytes = Some bytes }))
newest_given None version bytes given = cc
newest_given (Some newest) version bytes given = by_test (newest.version == version) refl given
  where
    by_test : (same : Bool) → (newest.version == version) ≡ same → (if same then bytes_answer newest.bytes else Err S8) ≡ Ok bytes
        → (len : ℕ) × (Some newest ≡ Some (record { version = version; len = len; bytes = Some bytes }))
    by_test true is gives =
        let F : ℕ → Option Newest = λ v. Some (record { version = v; len = newest.len; bytes = newest.bytes }) in
        let G : Option (List ℕ) → Option Newest = λ b. Some (record { version = version; len = newest.len; bytes = b }) in
        (newest.len, ap F (same_number newest.version version is) ∙ ap G (bytes_given newest.bytes bytes gives))
    by_test false is gives = cc

pub label_given : (at : List ℕ → List ℕ → Option Newest) (asked : Option (List ℕ)) (own origin key : List ℕ) (version : ℕ) (bytes : List ℕ) → label_answer asked own origin key version (at origin key) ≡ Ok bytes
    → IsSomeAnd asked (λ k. (len : ℕ) × (at own k ≡ Some (record { version = version; len = len; bytes = Some bytes })))
label_given at None own origin key version bytes given = cc
label_given at (Some asked) own origin key version bytes given = by_test (bytes_eq origin own) (bytes_eq key asked) refl refl given
  where
    by_test : (here under : Bool) → bytes_eq origin own ≡ here → bytes_eq key asked ≡ under
        → (if not here then Err S6 else if not under then Err S7 else newest_answer version (at origin key)) ≡ Ok bytes
        → (len : ℕ) × (at own asked ≡ Some (record { version = version; len = len; bytes = Some bytes }))
    by_test true true is also gives =
        let there = newest_given (at origin key) version bytes gives in
        (there.0, sym (ap (λ o. at o key) (same_texts origin own is) ∙ ap (λ k. at own k) (same_texts key asked also)) ∙ there.1)
    by_test true false is also gives = cc
    by_test false under is also gives = cc
