-- Where the inboxes of instances stand.
use Rattle.std.proofs.Common.{◌≡◌, ◌≢◌, ℕ, zero, suc, ◌<◌, Bool, true, false, List, [], ◌∷◌, ◌++◌, length, refl, sym, ◌∙◌, ap, arith, get_or, replicate}
use Rattle.std.specs.Prelude.{Option, None, slice_set, if◌then◌else◌}
use Rattle.std.proofs.lemmas.Bool.Decides.{nat_tests}
use Rattle.std.proofs.lemmas.List.{append-nil, append_assoc, get_or-set_same, get_or-set_other, get_or-replicate}
use Rattle.ibos_recv.proofs.PartedHands.{in_left, in_right, clash}
use Rattle.ibos_recv.proofs.Words.{Held, Inbox, Inboxes, Instance, IsNamed, Place, has_inbox_place, has_place, held_at, held_in, inbox_by, inbox_place, same, unread_at, unread_of}

pub inbox-at : (t : Inboxes) (who : Instance) → IsNamed who → inbox_by t who ≡ get_or t (inbox_place who) None
unfolding inbox_by
inbox-at t who named = grind (arith, nat_tests, named.0, named.1)

-- an instance with an inbox is one that a run can reach
pub named_of : (t : Inboxes) (who : Instance) → inbox_by t who ≢ None → IsNamed who
unfolding inbox_by
named_of t who there = by_test (has_inbox_place who) refl
  where
    by_test : (is : Bool) → has_inbox_place who ≡ is → IsNamed who
    by_test true is = (grind (arith, nat_tests, is), grind (arith, nat_tests, is))
    by_test false is = absurd (there (grind (arith, nat_tests, is)))

pub same_is : (p q : Instance) → same p q ≡ true → p ≡ q
same_is p q h =
    let tab : p.tab ≡ q.tab = grind (arith, nat_tests, h) in
    let ord : p.ord ≡ q.ord = grind (arith, nat_tests, h) in
    let F : ℕ → Instance = λ n. record { tab = n; ord = p.ord } in
    let G : ℕ → Instance = λ n. record { tab = q.tab; ord = n } in
    ap F tab ∙ ap G ord

pub same_self : (p : Instance) → same p p ≡ true
same_self p = grind (arith, nat_tests)

-- an instance with an unread frame has an inbox
pub open_of : (t : Inboxes) (who : Instance) (k : ℕ) → k < unread_of t who → inbox_by t who ≢ None
open_of t who k below none = let no : unread_of t who ≡ 0 = ap (λ x. unread_at x) none in omega (arith, below, no)

-- no two instances have one place
same_place : (p q : Instance) → IsNamed p → IsNamed q → inbox_place p ≡ inbox_place q → p ≡ q
same_place p q below under e =
    let ord : p.ord ≡ q.ord = omega (arith, below.1, under.1, e) in
    let tab : p.tab ≡ q.tab = omega (arith, below.1, under.1, e) in
    let F : ℕ → Instance = λ t. record { tab = t; ord = p.ord } in
    let G : ℕ → Instance = λ o. record { tab = q.tab; ord = o } in
    ap F tab ∙ ap G ord

pub place_within : (who : Instance) → IsNamed who → inbox_place who < 2048
place_within who named = omega (arith, named.0, named.1)

pub inbox-set_same : (t : Inboxes) (who : Instance) (at : ℕ) (x : Option Inbox) → at ≡ inbox_place who → IsNamed who → at < length t → inbox_by (slice_set t at x) who ≡ x
inbox-set_same t who at x is named within =
    inbox-at (slice_set t at x) who named ∙ ap (λ k. get_or (slice_set t at x) k None) (sym is) ∙ get_or-set_same t at x None within

pub inbox-set_other : (t : Inboxes) (who q : Instance) (at : ℕ) (x : Option Inbox) → at ≡ inbox_place who → IsNamed who → q ≢ who → inbox_by (slice_set t at x) q ≡ inbox_by t q
unfolding inbox_by
inbox-set_other t who q at x is named other = by_test (has_inbox_place q) refl
  where
    by_test : (low : Bool) → has_inbox_place q ≡ low → (if low then get_or (slice_set t at x) (inbox_place q) None else None) ≡ (if low then get_or t (inbox_place q) None else None)
    by_test false high = refl
    by_test true low =
        let below : IsNamed q = (grind (arith, nat_tests, low), grind (arith, nat_tests, low)) in
        get_or-set_other t at (inbox_place q) x None (λ e. other (same_place q who below named (e ∙ is)))

pub inbox-nil : (who : Instance) → inbox_by (replicate 2048 None) who ≡ None
unfolding inbox_by
inbox-nil who = by_test (has_inbox_place who) refl
  where
    nothing : Option Inbox
    nothing = None

    by_test : (low : Bool) → has_inbox_place who ≡ low → (if low then get_or (replicate 2048 nothing) (inbox_place who) nothing else nothing) ≡ nothing
    by_test true low =
        let named : IsNamed who = (grind (arith, nat_tests, low), grind (arith, nat_tests, low)) in
        get_or-replicate 2048 (inbox_place who) nothing nothing (place_within who named)
    by_test false low = refl

-- What a table holds, around one of its places.
pub record IsAround (t : Inboxes) (k : ℕ) (x : Option Inbox) (front back : List Held) : Type 0 where
  pub was : held_in t ≡ front ++ (held_at x ++ back)
  pub set : (y : Option Inbox) → held_in (slice_set t k y) ≡ front ++ (held_at y ++ back)

abbrev pub Around : Inboxes → ℕ → Option Inbox → Type 0
Around t k x = (front : List Held) × (back : List Held) × IsAround t k x front back

pub in_table : (t : Inboxes) (j : ℕ) (p : Place) → has_place (held_at (get_or t j None)) p ≡ true → has_place (held_in t) p ≡ true
in_table [] j p is = absurd (clash false is refl)
in_table (x ∷ t) zero p is = in_left (held_at x) (held_in t) p is
in_table (x ∷ t) (suc j) p is = in_right (held_at x) (held_in t) p (in_table t j p is)

-- what an instance's inbox has the table has
pub inbox-where : (t : Inboxes) (who : Instance) (p : Place) → has_place (held_at (inbox_by t who)) p ≡ true → has_place (held_in t) p ≡ true
unfolding inbox_by
inbox-where t who p is = by_test (has_inbox_place who) is
  where
    by_test : (low : Bool) → has_place (held_at (if low then get_or t (inbox_place who) None else None)) p ≡ true → has_place (held_in t) p ≡ true
    by_test true is = in_table t (inbox_place who) p is
    by_test false is = absurd (clash false is refl)

around_next : (x : Option Inbox) (t : Inboxes) (k : ℕ) → Around t k (get_or t k None) → Around (x ∷ t) (suc k) (get_or t k None)
around_next x t k rest = (held_at x ++ rest.0, rest.1, record { was = was; set = set })
  where
    was : held_at x ++ held_in t ≡ (held_at x ++ rest.0) ++ (held_at (get_or t k None) ++ rest.1)
    was = ap (λ zs. held_at x ++ zs) rest.2.was ∙ sym (append_assoc (held_at x) rest.0 (held_at (get_or t k None) ++ rest.1))

    set : (y : Option Inbox) → held_at x ++ held_in (slice_set t k y) ≡ (held_at x ++ rest.0) ++ (held_at y ++ rest.1)
    set y = ap (λ zs. held_at x ++ zs) (rest.2.set y) ∙ sym (append_assoc (held_at x) rest.0 (held_at y ++ rest.1))

pub around : (t : Inboxes) (k : ℕ) → k < length t → Around t k (get_or t k None)
around [] k below = absurd (omega (arith, below))
around (x ∷ t) zero below = ([], held_in t, record { was = refl; set = λ y. refl })
around (x ∷ t) (suc k) below = around_next x t k (around t k (omega (arith, below)))

-- what a table of nothing holds
pub held-nil : (n : ℕ) → held_in (replicate n None) ≡ []
held-nil zero = refl
held-nil (suc n) = held-nil n

-- what one place more holds
pub held-push : (t : Inboxes) (x : Option Inbox) → held_in (t ++ x ∷ []) ≡ held_in t ++ held_at x
held-push [] x = append-nil (held_at x)
held-push (y ∷ t) x = ap (λ hs. held_at y ++ hs) (held-push t x) ∙ sym (append_assoc (held_at y) (held_in t) (held_at x))
