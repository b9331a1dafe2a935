-- What a frame that lands makes of the items, the counts and the frames.
use Rattle.std.proofs.Common.{◌≡◌, ◌≢◌, ℕ, ◌+◌, ◌≤◌, Bool, true, false, cond, List, [], ◌∷◌, ◌++◌, Option, Some, None, Result, Ok, Err, refl, sym, ◌∙◌, ap, subst}
use Rattle.std.specs.Prelude.{take, if◌then◌else◌}
use Rattle.std.specs.List.{filter}
use Rattle.std.proofs.lemmas.List.{append-nil}
use Rattle.ibos_kinds.specs.declared.outcome.Item.{Item}
use Rattle.ibos_kinds.specs.declared.outcome.Item.TheVariants.{Arrived, Dropped}
use Rattle.ibos_kinds.specs.declared.party.Party.TheVariants.{Page}
use Rattle.ibos_kinds.specs.declared.rule.Rule.{Rule}
use Rattle.ibos_kinds.specs.Bells.{Aim, at, frame_item, frame_rule, frames_in, heard_item, unread_after, unread_then}
use Rattle.ibos_kinds.specs.Flows.{Bound}
use Rattle.ibos_kinds.specs.Parties.{is_to}
use Rattle.ibos_pool.proofs.MemoryLemmas.{take-bytes_at}
use Rattle.ibos_recv.proofs.TablePlaces.{same_is, same_self}
use Rattle.ibos_recv.proofs.PartedHands.{clash}
use Rattle.ibos_recv.proofs.Landings.{landing_is}
use Rattle.ibos_recv.proofs.Words.{Inboxes, Instance, Memory, address_of, Place, buffer_at, buffer_bytes, bytes_at, frames_of, landed, landing, same, unread_of}

-- the first bytes of a buffer
pub heard-bytes : (mem : Memory) (p : Place) (n len : ℕ) (bytes : List ℕ) → n ≡ len → len ≤ buffer_bytes → bytes ≡ buffer_at mem p → take n bytes ≡ bytes_at mem (address_of p) len
heard-bytes mem p n len bytes is fits whole = ap (λ k. take k bytes) is ∙ ap (λ bs. take len bs) whole ∙ take-bytes_at mem (address_of p) buffer_bytes len fits

module _ (ears : Instance → Option Bound) (unread : Instance → ℕ) (w : List ℕ) where
  heard-by : (x : Option Rule) (a : Aim) (r : Instance × ℕ) → landing_is (Ok r) ≡ landed x a → frame_item x a.who a.flow w ≡ Arrived r.0 r.1 w
  heard-by None a r e = ap (λ (p : Instance × ℕ). Arrived p.0 p.1 w) (ap (λ (q : Result (Instance × ℕ) Rule). value q) (sym e))
    where
      value : Result (Instance × ℕ) Rule → Instance × ℕ
      value (Ok p) = p
      value (Err rule) = r
  heard-by (Some rule) a r e = let no : landing_is (Ok r) ≡ landing_is (Err rule) = e in absurd cc

  -- one that lands arrives
  pub heard-own : (r : Instance × ℕ) (aim : Result Aim Rule) → landing_is (Ok r) ≡ landing ears unread aim → heard_item ears unread w aim ≡ Arrived r.0 r.1 w
  heard-own r (Ok a) e = heard-by (frame_rule (ears a.who) (unread a.who) a) a r e
  heard-own r (Err rule) e = let no : landing_is (Ok r) ≡ landing_is (Err rule) = e in absurd cc

  lost-by : (x : Option Rule) (a : Aim) (rule : Rule) → landing_is (Err rule) ≡ landed x a → x ≡ Some rule
  lost-by None a rule e = let no : landing_is (Err rule) ≡ landing_is (Ok (a.who, a.flow)) = e in absurd cc
  lost-by (Some other) a rule e = ap (λ (q : Result (Instance × ℕ) Rule). rule_in q) (sym e)
    where
      rule_in : Result (Instance × ℕ) Rule → Option Rule
      rule_in (Ok p) = None
      rule_in (Err broken) = Some broken

  -- one that doesn't is dropped
  pub heard-lost : (rule : Rule) (aim : Result Aim Rule) → landing_is (Err rule) ≡ landing ears unread aim → heard_item ears unread w aim ≡ Dropped rule
  heard-lost rule (Ok a) e = ap (λ x. frame_item x a.who a.flow w) (lost-by (frame_rule (ears a.who) (unread a.who) a) a rule e)
  heard-lost rule (Err other) e = ap (λ (q : Result (Instance × ℕ) Rule). item_of q) (sym e)
    where
      item_of : Result (Instance × ℕ) Rule → Item
      item_of (Ok p) = Dropped rule
      item_of (Err broken) = Dropped broken

  then-by : (x : Option Rule) (a : Aim) (r : Instance × ℕ) → landing_is (Ok r) ≡ landed x a → (p : Instance) → at a.who (unread_after x (unread a.who)) unread p ≡ at r.0 (unread r.0 + 1) unread p
  then-by None a r e p = ap (λ q. at q (unread q + 1) unread p) (ap (λ (q : Result (Instance × ℕ) Rule). who_in q) (sym e))
    where
      who_in : Result (Instance × ℕ) Rule → Instance
      who_in (Ok o) = o.0
      who_in (Err rule) = a.who
  then-by (Some rule) a r e p = let no : landing_is (Ok r) ≡ landing_is (Err rule) = e in absurd cc

  pub then-own : (r : Instance × ℕ) (aim : Result Aim Rule) → landing_is (Ok r) ≡ landing ears unread aim → (p : Instance) → unread_then ears unread aim p ≡ at r.0 (unread r.0 + 1) unread p
  then-own r (Ok a) e p = then-by (frame_rule (ears a.who) (unread a.who) a) a r e p
  then-own r (Err rule) e p = let no : landing_is (Ok r) ≡ landing_is (Err rule) = e in absurd cc

  at-self : (who p : Instance) → at who (unread who) unread p ≡ unread p
  at-self who p = by_test (same who p) refl
    where
      by_test : (b : Bool) → same who p ≡ b → (if b then unread who else unread p) ≡ unread p
      by_test true is = ap unread (same_is who p is)
      by_test false differ = refl

  pub then-lost : (rule : Rule) (aim : Result Aim Rule) → landing_is (Err rule) ≡ landing ears unread aim → (p : Instance) → unread_then ears unread aim p ≡ unread p
  then-lost rule (Ok a) e p = ap (λ x. at a.who (unread_after x (unread a.who)) unread p) (lost-by (frame_rule (ears a.who) (unread a.who) a) a rule e) ∙ at-self a.who p
  then-lost rule (Err other) e p = refl

-- the frames of an instance among the items
abbrev pub frames_for : Instance → List Item → List (List ℕ)
frames_for p items = frames_in (filter (is_to (Page p)) items)

arrived-test : (b : Bool) (who : Instance) (flow : ℕ) (w : List ℕ) → frames_in (cond b (Arrived who flow w ∷ []) []) ≡ cond b (w ∷ []) []
arrived-test true who flow w = refl
arrived-test false who flow w = refl

pub frames-arrived : (who p : Instance) (flow : ℕ) (w : List ℕ) → frames_for p (Arrived who flow w ∷ []) ≡ cond (same who p) (w ∷ []) []
frames-arrived who p flow w = arrived-test (same who p) who flow w

-- of each instance, from what is so of one and of the others
pub counts-own : (t t' : Inboxes) (who : Instance) → unread_of t' who ≡ unread_of t who + 1 → ((q : Instance) → q ≢ who → unread_of t' q ≡ unread_of t q) → (p : Instance) → unread_of t' p ≡ at who (unread_of t who + 1) (unread_of t) p
counts-own t t' who own others p = by_test (same who p) refl
  where
    by_test : (b : Bool) → same who p ≡ b → unread_of t' p ≡ (if b then unread_of t who + 1 else unread_of t p)
    by_test true is = subst (λ q. unread_of t' q ≡ unread_of t who + 1) (same_is who p is) own
    by_test false differ = others p (λ e. clash (same who p) (subst (λ q. same who q ≡ true) (sym e) (same_self who)) differ)

pub frames-own : (mem mem' : Memory) (t t' : Inboxes) (who : Instance) (w : List ℕ) → frames_of mem' t' who ≡ frames_of mem t who ++ w ∷ [] → ((q : Instance) → q ≢ who → frames_of mem' t' q ≡ frames_of mem t q)
    → (p : Instance) → frames_of mem' t' p ≡ frames_of mem t p ++ cond (same who p) (w ∷ []) []
frames-own mem mem' t t' who w own others p = by_test (same who p) refl
  where
    by_test : (b : Bool) → same who p ≡ b → frames_of mem' t' p ≡ frames_of mem t p ++ cond b (w ∷ []) []
    by_test true is = subst (λ q. frames_of mem' t' q ≡ frames_of mem t q ++ w ∷ []) (same_is who p is) own
    by_test false differ = others p (λ e. clash (same who p) (subst (λ q. same who q ≡ true) (sym e) (same_self who)) differ) ∙ sym (append-nil (frames_of mem t p))
