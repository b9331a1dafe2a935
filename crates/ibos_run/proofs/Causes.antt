-- Why a run was cut off: a count of faults rose, of a named file or of the sink.
use Rattle.std.proofs.Common.{◌≡◌, ℕ, suc, ◌+◌, ◌-◌, ◌≤◌, ◌^◌, List, [], ◌∷◌, Option, Some, None, sym, Result, Ok, Err, refl, subst, arith, min}
use Rattle.std.specs.Prelude.{IfErr, IsSomeAnd}
use Rattle.std.specs.List.{Any}
use Rattle.ibos_kinds.specs.Outside.{Rose}
use Rattle.ibos_run.specs.declared.fault.Fault.{Fault}
use Rattle.ibos_run.specs.declared.fault.Fault.TheVariants.{Read, Write, Memory}
use Rattle.ibos_run.specs.Words.{with_capture}
use Rattle.ibos_run.specs.Faults.{IsCaused}

least_since : (a b c m : ℕ) → a ≤ b → min (b + 1) m ≤ c → min (a + 1) m ≤ c
least_since a b c m earlier rose = omega (arith, earlier, rose)

-- it rose since an earlier moment too
pub rose_since : (a b c : ℕ) → a ≤ b → Rose b c → Rose a c
rose_since a b c earlier rose = least_since a b c (2 ^ 64 - 1) earlier rose

pub cause_by : (fault : Fault) (P Q R S : Type 0) → (P → R) → (Q → S) → IsCaused fault P Q → IsCaused fault R S
cause_by Read P Q R S read write cause = read cause
cause_by Write P Q R S read write cause = write cause
cause_by Memory P Q R S read write cause = tt

pub if_caused : {T : Type 0} (result : Result T Fault) (P Q R S : Type 0) → (P → R) → (Q → S) → IfErr result (λ fault. IsCaused fault P Q) → IfErr result (λ fault. IsCaused fault R S)
if_caused (Ok v) P Q R S read write cause = tt
if_caused (Err fault) P Q R S read write cause = cause_by fault P Q R S read write cause

pub of_first : (P : List ℕ → Type 0) (name : List ℕ) (names : List (List ℕ)) → P name → Any P (name ∷ names)
of_first P name names holds = (0, name, omega arith, refl, holds)

pub of_rest : (P Q : List ℕ → Type 0) (name : List ℕ) (names : List (List ℕ)) → ((n : List ℕ) → P n → Q n) → Any P names → Any Q (name ∷ names)
of_rest P Q name names each any = (suc any.0, any.1, omega (arith, any.2), any.3, each any.1 any.4)

-- of the files that words name with a capture, or with none
pub of_script : (Q : List ℕ → Type 0) (capture : Option (List ℕ)) (script : List ℕ) → Q script → Any Q (with_capture capture (script ∷ []))
of_script Q None script rose = of_first Q script [] rose
of_script Q (Some name) script rose = of_rest Q Q name (script ∷ []) (λ n q. q) (of_first Q script [] rose)

pub of_frames : (P Q : List ℕ → Type 0) (now capture : Option (List ℕ)) (script : List ℕ) → now ≡ capture → ((n : List ℕ) → P n → Q n) → IsSomeAnd now P → Any Q (with_capture capture (script ∷ []))
of_frames P Q now capture script same each rose = by capture (subst (λ (c : Option (List ℕ)). IsSomeAnd c P) same rose)
  where
    by : (capture : Option (List ℕ)) → IsSomeAnd capture P → Any Q (with_capture capture (script ∷ []))
    by None rose = absurd rose
    by (Some name) rose = of_first Q name (script ∷ []) (each name rose)

pub of_any : (P Q : List ℕ → Type 0) (now capture : Option (List ℕ)) (names : List (List ℕ)) → now ≡ capture → ((n : List ℕ) → P n → Q n) → Any P (with_capture now names) → Any Q (with_capture capture names)
of_any P Q now capture names same each any =
    let R : Option (List ℕ) → Type 0 = λ c. Any P (with_capture c names) in
    let there = subst R same any in
    (there.0, there.1, there.2, there.3, each there.1 there.4)

pub of_capture : (Q : List ℕ → Type 0) (capture : Option (List ℕ)) (name script : List ℕ) → capture ≡ Some name → Q name → Any Q (with_capture capture (script ∷ []))
of_capture Q capture name script is rose =
    let P : Option (List ℕ) → Type 0 = λ c. Any Q (with_capture c (script ∷ [])) in
    subst P (sym is) (of_first Q name (script ∷ []) rose)
