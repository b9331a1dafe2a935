-- Where the buffers of instances stand.
use Rattle.std.proofs.Common.{◌≡◌, ◌≢◌, ℕ, ◌<◌, Bool, true, false, length, refl, sym, ◌∙◌, ap, arith, get_or, replicate}
use Rattle.std.specs.Prelude.{Option, None, slice_set, if◌then◌else◌}
use Rattle.std.proofs.lemmas.Bool.Decides.{nat_tests}
use Rattle.std.proofs.lemmas.List.{get_or-set_same, get_or-set_other, get_or-replicate}
use Rattle.ibos_send.proofs.Words.{Homes, Instance, IsNamed, Table, has_home_place, home_at, home_in, home_place, homes_in, same}

pub homes-at : (t : Table) (who : Instance) → IsNamed who → homes_in t who ≡ get_or t (home_place who) None
unfolding homes_in
homes-at t who named = grind (arith, nat_tests, named.0, named.1)

-- an instance with an entry is one that a run can reach
pub named_of : (t : Table) (who : Instance) → homes_in t who ≢ None → IsNamed who
unfolding homes_in
named_of t who there = by_test (has_home_place who) refl
  where
    by_test : (is : Bool) → has_home_place who ≡ is → IsNamed who
    by_test true is = (grind (arith, nat_tests, is), grind (arith, nat_tests, is))
    by_test false is = absurd (there (grind (arith, nat_tests, is)))

pub same_is : (p q : Instance) → same p q ≡ true → p ≡ q
same_is p q h =
    let tab : p.tab ≡ q.tab = grind (arith, nat_tests, h) in
    let ord : p.ord ≡ q.ord = grind (arith, nat_tests, h) in
    let F : ℕ → Instance = λ n. record { tab = n; ord = p.ord } in
    let G : ℕ → Instance = λ n. record { tab = q.tab; ord = n } in
    ap F tab ∙ ap G ord

pub same_self : (p : Instance) → same p p ≡ true
same_self p = grind (arith, nat_tests)

-- so is one with a buffer at home
pub home-named : (t : Table) (who : Instance) (buffer : ℕ) → home_in t who buffer ≢ None → IsNamed who
home-named t who buffer there = named_of t who (λ none. there (ap (λ x. home_at x buffer) none))

-- no two instances have one place
same_place : (p q : Instance) → IsNamed p → IsNamed q → home_place p ≡ home_place q → p ≡ q
same_place p q below under e =
    let ord : p.ord ≡ q.ord = omega (arith, below.1, under.1, e) in
    let tab : p.tab ≡ q.tab = omega (arith, below.1, under.1, e) in
    let F : ℕ → Instance = λ t. record { tab = t; ord = p.ord } in
    let G : ℕ → Instance = λ o. record { tab = q.tab; ord = o } in
    ap F tab ∙ ap G ord

pub place_within : (who : Instance) → IsNamed who → home_place who < 2048
place_within who named = omega (arith, named.0, named.1)

pub homes-set_same : (t : Table) (who : Instance) (at : ℕ) (x : Option Homes) → at ≡ home_place who → IsNamed who → at < length t → homes_in (slice_set t at x) who ≡ x
homes-set_same t who at x is named within =
    homes-at (slice_set t at x) who named ∙ ap (λ k. get_or (slice_set t at x) k None) (sym is) ∙ get_or-set_same t at x None within

pub homes-set_other : (t : Table) (who q : Instance) (at : ℕ) (x : Option Homes) → at ≡ home_place who → IsNamed who → q ≢ who → homes_in (slice_set t at x) q ≡ homes_in t q
unfolding homes_in
homes-set_other t who q at x is named other = by_test (has_home_place q) refl
  where
    by_test : (low : Bool) → has_home_place q ≡ low → (if low then get_or (slice_set t at x) (home_place q) None else None) ≡ (if low then get_or t (home_place q) None else None)
    by_test false high = refl
    by_test true low =
        let below : IsNamed q = (grind (arith, nat_tests, low), grind (arith, nat_tests, low)) in
        get_or-set_other t at (home_place q) x None (λ e. other (same_place q who below named (e ∙ is)))

pub homes-nil : (who : Instance) → homes_in (replicate 2048 None) who ≡ None
unfolding homes_in
homes-nil who = by_test (has_home_place who) refl
  where
    nothing : Option Homes
    nothing = None

    by_test : (low : Bool) → has_home_place who ≡ low → (if low then get_or (replicate 2048 nothing) (home_place who) nothing else nothing) ≡ nothing
    by_test true low =
        let named : IsNamed who = (grind (arith, nat_tests, low), grind (arith, nat_tests, low)) in
        get_or-replicate 2048 (home_place who) nothing nothing (place_within who named)
    by_test false low = refl
