-- Where the flows of instances stand.
use Rattle.std.proofs.Common.{◌≡◌, ◌≢◌, ℕ, ◌<◌, Bool, true, false, length, Option, Some, None, Result, Ok, Err, refl, sym, ◌∙◌, ap, arith, get_or, replicate}
use Rattle.std.specs.Prelude.{OnOk}
use Rattle.std.specs.Prelude.{slice_set, if◌then◌else◌}
use Rattle.std.proofs.lemmas.Bool.Decides.{nat_tests}
use Rattle.std.proofs.lemmas.List.{get_or-set_same, get_or-set_other, get_or_read, get_or-replicate}
use Rattle.ibos_kinds.specs.declared.names.Instance.{Instance}
use Rattle.ibos_kinds.specs.Limits.{IsNamed}
use Rattle.ibos_kinds.specs.Flows.{Bound}
use Rattle.ibos_flow.specs.Flows.{Table, place_of, is_named, bound_by}

pub bound-at : (table : Table) (who : Instance) → IsNamed who → bound_by table who ≡ get_or table (place_of who) None
unfolding bound_by
bound-at table who named = grind (arith, nat_tests, named.0, named.1)

-- an instance with flows is one that a run can reach
pub named_of : (table : Table) (who : Instance) → bound_by table who ≢ None → IsNamed who
unfolding bound_by
named_of table who there = by_test (is_named who) refl
  where
    by_test : (is : Bool) → is_named who ≡ is → IsNamed who
    by_test true is = (grind (arith, nat_tests, is), grind (arith, nat_tests, is))
    by_test false is = absurd (there (grind (arith, nat_tests, is)))

pub place_within : (who : Instance) → IsNamed who → place_of who < 2048
place_within who named = omega (arith, named.0, named.1)

-- no two instances have one place
same_place : (p q : Instance) → IsNamed p → IsNamed q → place_of p ≡ place_of q → p ≡ q
same_place p q below under e =
    let ord : p.ord ≡ q.ord = omega (arith, below.1, under.1, e) in
    let tab : p.tab ≡ q.tab = omega (arith, below.1, under.1, e) in
    let F : ℕ → Instance = λ t. record { tab = t; ord = p.ord } in
    let G : ℕ → Instance = λ o. record { tab = q.tab; ord = o } in
    ap F tab ∙ ap G ord

pub bound-set_same : (table : Table) (who : Instance) (at : ℕ) (x : Option Bound) → at ≡ place_of who → IsNamed who → at < length table → bound_by (slice_set table at x) who ≡ x
bound-set_same table who at x is named within =
    bound-at (slice_set table at x) who named ∙ ap (λ k. get_or (slice_set table at x) k None) (sym is) ∙ get_or-set_same table at x None within

pub bound-set_other : (table : Table) (who q : Instance) (at : ℕ) (x : Option Bound) → at ≡ place_of who → IsNamed who → q ≢ who → bound_by (slice_set table at x) q ≡ bound_by table q
unfolding bound_by
bound-set_other table who q at x is named other = by_test (is_named q) refl
  where
    by_test : (low : Bool) → is_named q ≡ low → (if low then get_or (slice_set table at x) (place_of q) None else None) ≡ (if low then get_or table (place_of q) None else None)
    by_test false high = refl
    by_test true low =
        let below : IsNamed q = (grind (arith, nat_tests, low), grind (arith, nat_tests, low)) in
        get_or-set_other table at (place_of q) x None (λ e. other (same_place q who below named (e ∙ is)))

-- what is read at an instance's place
pub bound_read : (table : Table) (who : Instance) (at : ℕ) (x : Option Bound) → at ≡ place_of who → IsNamed who → at < length table → x ≡ get_or table at x → bound_by table who ≡ x
bound_read table who at x is named within read =
    bound-at table who named ∙ ap (λ k. get_or table k None) (sym is) ∙ sym (get_or_read table at x within read None)

-- a fact that holds after Ok gives another
pub then_ok : {A E : Type 0} (r : Result A E) {P Q : Type 0} → (P → Q) → OnOk r P → OnOk r Q
then_ok (Ok x) f p = f p
then_ok (Err e) f p = tt

-- what one place of a table is, and what it is after a write there
pub record IsHeld (table : Table) (who : Instance) (at : ℕ) (bound : Bound) : Type 0 where
  pub was : bound_by table who ≡ Some bound
  pub own : (x : Option Bound) → bound_by (slice_set table at x) who ≡ x
  pub others : (x : Option Bound) (q : Instance) → q ≢ who → bound_by (slice_set table at x) q ≡ bound_by table q

pub held : (table : Table) (who : Instance) (at : ℕ) (x : Option Bound) (bound : Bound) → at ≡ place_of who → IsNamed who → length table ≡ 2048
    → x ≡ get_or table at x → x ≡ Some bound → IsHeld table who at bound
held table who at x bound is named size read some =
    let place : place_of who < 2048 = place_within who named in
    let within : at < length table = omega (arith, is, place, size) in
    record {
      was = bound_read table who at x is named within read ∙ some;
      own = λ y. bound-set_same table who at y is named within;
      others = λ y q other. bound-set_other table who q at y is named other;
    }

pub not_held : (table : Table) (who : Instance) (at : ℕ) (x : Option Bound) → at ≡ place_of who → IsNamed who → length table ≡ 2048
    → x ≡ get_or table at x → x ≡ None → bound_by table who ≡ None
not_held table who at x is named size read none =
    let place : place_of who < 2048 = place_within who named in
    let within : at < length table = omega (arith, is, place, size) in
    bound_read table who at x is named within read ∙ none

pub bound-nil : (who : Instance) → bound_by (replicate 2048 None) who ≡ None
unfolding bound_by
bound-nil who = by_test (is_named who) refl
  where
    nothing : Option Bound
    nothing = None

    by_test : (low : Bool) → is_named who ≡ low → (if low then get_or (replicate 2048 nothing) (place_of who) nothing else nothing) ≡ nothing
    by_test true low =
        let named : IsNamed who = (grind (arith, nat_tests, low), grind (arith, nat_tests, low)) in
        get_or-replicate 2048 (place_of who) nothing nothing (place_within who named)
    by_test false low = refl
