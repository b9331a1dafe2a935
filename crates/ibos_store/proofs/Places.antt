-- Where the requests of instances stand.
use Rattle.std.proofs.Common.{◌≡◌, ◌≢◌, ℕ, ◌<◌, ◌≤◌, Bool, true, false, List, [], ◌∷◌, length, Option, None, Some, refl, sym, ◌∙◌, ap, subst, arith, get_or}
use Rattle.std.specs.Prelude.{nat_lt, slice_set, option_and_then, not, find, filter, if◌then◌else◌}
use Rattle.std.proofs.lemmas.Bool.Decides.{nat_tests}
use Rattle.std.proofs.lemmas.List.{get_or-set_same, get_or-set_other, get_or_read}
use Rattle.std.proofs.Math.ListN.{get_or-eq_default}
use Rattle.ibos_kinds.specs.declared.names.Instance.{Instance}
use Rattle.std.specs.Option.{option_map}
use Rattle.ibos_kinds.specs.Requests.{Asked, Requests, is_numbered, key_in, without_request}
use Rattle.ibos_store.specs.Stores.{place_of, requests_in, key_at}

-- what stands at an instance's place
pub requests-at : (places : List (Option Requests)) (who : Instance) → who.tab < 256 → requests_in places who ≡ get_or places (place_of who) None
unfolding requests_in
requests-at places who tab = grind (arith, nat_tests, tab)

-- no two instances have one place
same_place : (p q : Instance) → p.tab < 256 → q.tab < 256 → place_of p ≡ place_of q → p ≡ q
same_place p q below under e =
    let ord : p.ord ≡ q.ord = omega arith in
    let tab : p.tab ≡ q.tab = omega arith in
    let F : ℕ → Instance = λ t. record { tab = t; ord = p.ord } in
    let G : ℕ → Instance = λ o. record { tab = q.tab; ord = o } in
    ap F tab ∙ ap G ord

pub requests-set_same : (places : List (Option Requests)) (who : Instance) (at : ℕ) (x : Option Requests) → at ≡ place_of who → who.tab < 256 → at < length places → requests_in (slice_set places at x) who ≡ x
requests-set_same places who at x is tab within =
    requests-at (slice_set places at x) who tab ∙ ap (λ k. get_or (slice_set places at x) k None) (sym is) ∙ get_or-set_same places at x None within

pub requests-set_other : (places : List (Option Requests)) (who q : Instance) (at : ℕ) (x : Option Requests) → at ≡ place_of who → who.tab < 256 → q ≢ who → requests_in (slice_set places at x) q ≡ requests_in places q
unfolding requests_in
requests-set_other places who q at x is tab other = by_tab (nat_lt q.tab 256) refl
  where
    by_tab : (low : Bool) → nat_lt q.tab 256 ≡ low → (if low then get_or (slice_set places at x) (place_of q) None else None) ≡ (if low then get_or places (place_of q) None else None)
    by_tab false high = refl
    by_tab true low = let below : q.tab < 256 = grind (arith, nat_tests) in get_or-set_other places at (place_of q) x None (λ e. other (same_place q who below tab (e ∙ is)))

-- an instance with requests has a place in the table
pub requests_within : (places : List (Option Requests)) (who : Instance) (at : ℕ) → at ≡ place_of who → who.tab < 256 → requests_in places who ≢ None → at < length places
requests_within places who at is tab there = by_test (nat_lt at (length places)) refl
  where
    by_test : (within : Bool) → nat_lt at (length places) ≡ within → at < length places
    by_test true within = grind (arith, nat_tests)
    by_test false past =
        let out : length places ≤ place_of who = grind (arith, nat_tests, past, is) in
        absurd (there (requests-at places who tab ∙ get_or-eq_default places None out))

-- tables that are equal place by place have the same requests
pub requests-same : (places more : List (Option Requests)) → ((k : ℕ) → get_or more k None ≡ get_or places k None) → (q : Instance) → requests_in more q ≡ requests_in places q
unfolding requests_in
requests-same places more same q = by_tab (nat_lt q.tab 256)
  where
    by_tab : (low : Bool) → (if low then get_or more (place_of q) None else None) ≡ (if low then get_or places (place_of q) None else None)
    by_tab true = same (place_of q)
    by_tab false = refl

-- what is read at an instance's place
pub requests_read : (places : List (Option Requests)) (who : Instance) (at : ℕ) (x : Option Requests) → at ≡ place_of who → who.tab < 256 → at < length places → x ≡ get_or places at x → requests_in places who ≡ x
requests_read places who at x is tab within read =
    requests-at places who tab ∙ ap (λ k. get_or places k None) (sym is) ∙ sym (get_or_read places at x within read None)

pub requests-nil : (q : Instance) → requests_in [] q ≡ None
unfolding requests_in
requests-nil q = by_tab (nat_lt q.tab 256)
  where
    nothing : Option Requests
    nothing = None

    by_tab : (low : Bool) → (if low then get_or [] (place_of q) nothing else nothing) ≡ nothing
    by_tab true = refl
    by_tab false = refl

-- what one place of a table is, and what it is after a write there
pub record IsHeld (places : List (Option Requests)) (who : Instance) (at : ℕ) (x : Option Requests) : Type 0 where
  pub was : requests_in places who ≡ x
  pub own : (y : Option Requests) → requests_in (slice_set places at y) who ≡ y
  pub others : (y : Option Requests) (q : Instance) → q ≢ who → requests_in (slice_set places at y) q ≡ requests_in places q

pub held : (places : List (Option Requests)) (who : Instance) (at : ℕ) (x : Option Requests) → at ≡ place_of who → who.tab < 256 → at < length places
    → x ≡ get_or places at x → IsHeld places who at x
held places who at x is tab within read = record {
  was = requests_read places who at x is tab within read;
  own = λ y. requests-set_same places who at y is tab within;
  others = λ y q other. requests-set_other places who q at y is tab other;
}

-- an instance that was begun has its requests at its place
pub held_by : (places seen : List (Option Requests)) (who : Instance) (at : ℕ) (x : Option Requests) → places ≡ seen → requests_in seen who ≢ None → at ≡ place_of who → who.tab < 256
    → x ≡ get_or places at x → IsHeld places who at x
held_by places seen who at x view there is tab read =
    let P : List (Option Requests) → Type 0 = λ t. requests_in t who ≢ None in
    held places who at x is tab (requests_within places who at is tab (subst P (sym view) there)) read

-- the key of a request by what stands at its instance's place
pub key_found : (places seen : List (Option Requests)) (who : Instance) (at number : ℕ) (found : Option Requests) → places ≡ seen → at ≡ place_of who → who.tab < 256
    → found ≡ get_or places at None → option_and_then (λ requests. key_in requests number) found ≡ key_at seen who number
key_found places seen who at number found view is tab read =
    let there : found ≡ requests_in seen who = read ∙ ap (λ k. get_or places k None) is ∙ sym (requests-at places who tab) ∙ ap (λ (t : List (Option Requests)). requests_in t who) view in
    ap (λ (x : Option Requests). option_and_then (λ requests. key_in requests number) x) there

not_found : (number : ℕ) (unanswered : List Asked) → find (is_numbered number) (filter (λ asked. not (is_numbered number asked)) unanswered) ≡ None
not_found number [] = refl
not_found number (a ∷ rest) = by_test (is_numbered number a) refl (not_found number rest)
  where
    by_test : (here : Bool) → is_numbered number a ≡ here → find (is_numbered number) (filter (λ asked. not (is_numbered number asked)) rest) ≡ None
        → find (is_numbered number) (filter (λ asked. not (is_numbered number asked)) (a ∷ rest)) ≡ None
    by_test true is more = rw is more
    by_test false is more = rw is (rw is more)

-- an answered request isn't unanswered
pub answered_once : (old new : List (Option Requests)) (who : Instance) (number : ℕ) → requests_in new who ≡ option_map (without_request number) (requests_in old who) → key_at new who number ≡ None
answered_once old new who number answered = ap (λ (x : Option Requests). option_and_then (λ requests. key_in requests number) x) answered ∙ by_requests (requests_in old who)
  where
    by_requests : (x : Option Requests) → option_and_then (λ requests. key_in requests number) (option_map (without_request number) x) ≡ None
    by_requests None = refl
    by_requests (Some requests) = ap (λ (x : Option Asked). option_map (λ asked. asked.key) x) (not_found number requests.unanswered)
