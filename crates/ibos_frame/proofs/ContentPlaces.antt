-- Where the contents of instances stand.
use Rattle.std.proofs.Common.{◌≡◌, ◌≢◌, ℕ, ◌<◌, ◌≤◌, Bool, true, false, List, [], length, Option, None, refl, sym, ◌∙◌, ap, arith, get_or}
use Rattle.std.specs.Prelude.{nat_lt, slice_set, if◌then◌else◌}
use Rattle.std.proofs.lemmas.Bool.Decides.{nat_tests}
use Rattle.std.proofs.lemmas.List.{get_or-set_same, get_or-set_other, get_or_read}
use Rattle.std.proofs.Math.ListN.{get_or-eq_default}
use Rattle.ibos_kinds.specs.declared.names.Instance.{Instance}
use Rattle.ibos_frame.specs.ScreenStates.{place_of, content_in}

-- what stands at an instance's place
pub content-at : (contents : List (Option (List ℕ))) (who : Instance) → who.tab < 256 → content_in contents who ≡ get_or contents (place_of who) None
unfolding content_in
content-at contents who tab = grind (arith, nat_tests, tab)

-- no two instances have one place
same_place : (p q : Instance) → p.tab < 256 → q.tab < 256 → place_of p ≡ place_of q → p ≡ q
same_place p q below under e =
    let ord : p.ord ≡ q.ord = omega arith in
    let tab : p.tab ≡ q.tab = omega arith in
    let F : ℕ → Instance = λ t. record { tab = t; ord = p.ord } in
    let G : ℕ → Instance = λ o. record { tab = q.tab; ord = o } in
    ap F tab ∙ ap G ord

pub content-set_same : (contents : List (Option (List ℕ))) (who : Instance) (at : ℕ) (x : Option (List ℕ)) → at ≡ place_of who → who.tab < 256 → at < length contents → content_in (slice_set contents at x) who ≡ x
content-set_same contents who at x is tab within =
    content-at (slice_set contents at x) who tab ∙ ap (λ k. get_or (slice_set contents at x) k None) (sym is) ∙ get_or-set_same contents at x None within

pub content-set_other : (contents : List (Option (List ℕ))) (who q : Instance) (at : ℕ) (x : Option (List ℕ)) → at ≡ place_of who → who.tab < 256 → q ≢ who → content_in (slice_set contents at x) q ≡ content_in contents q
unfolding content_in
content-set_other contents who q at x is tab other = by_tab (nat_lt q.tab 256) refl
  where
    by_tab : (low : Bool) → nat_lt q.tab 256 ≡ low → (if low then get_or (slice_set contents at x) (place_of q) None else None) ≡ (if low then get_or contents (place_of q) None else None)
    by_tab false high = refl
    by_tab true low = let below : q.tab < 256 = grind (arith, nat_tests) in get_or-set_other contents at (place_of q) x None (λ e. other (same_place q who below tab (e ∙ is)))

-- an instance with a content has a place in the table
pub content_within : (contents : List (Option (List ℕ))) (who : Instance) (at : ℕ) → at ≡ place_of who → who.tab < 256 → content_in contents who ≢ None → at < length contents
content_within contents who at is tab there = by_test (nat_lt at (length contents)) refl
  where
    by_test : (within : Bool) → nat_lt at (length contents) ≡ within → at < length contents
    by_test true within = grind (arith, nat_tests)
    by_test false past =
        let out : length contents ≤ place_of who = grind (arith, nat_tests, past, is) in
        absurd (there (content-at contents who tab ∙ get_or-eq_default contents None out))

-- tables that are equal place by place have the same contents
pub content-same : (contents more : List (Option (List ℕ))) → ((k : ℕ) → get_or more k None ≡ get_or contents k None) → (q : Instance) → content_in more q ≡ content_in contents q
unfolding content_in
content-same contents more same q = by_tab (nat_lt q.tab 256)
  where
    by_tab : (low : Bool) → (if low then get_or more (place_of q) None else None) ≡ (if low then get_or contents (place_of q) None else None)
    by_tab true = same (place_of q)
    by_tab false = refl

-- what is read at an instance's place
pub content_read : (contents : List (Option (List ℕ))) (who : Instance) (at : ℕ) (x : Option (List ℕ)) → at ≡ place_of who → who.tab < 256 → at < length contents → x ≡ get_or contents at x → content_in contents who ≡ x
content_read contents who at x is tab within read =
    content-at contents who tab ∙ ap (λ k. get_or contents k None) (sym is) ∙ sym (get_or_read contents at x within read None)

pub content-nil : (q : Instance) → content_in [] q ≡ None
unfolding content_in
content-nil q = by_tab (nat_lt q.tab 256)
  where
    nothing : Option (List ℕ)
    nothing = None

    by_tab : (low : Bool) → (if low then get_or [] (place_of q) nothing else nothing) ≡ nothing
    by_tab true = refl
    by_tab false = refl
