-- The items of a bell: what is bound, what is unread where something is bound, and the handles of the frames.
use Rattle.std.proofs.Common.{refl, sym, ◌∙◌, ap, subst, arith}
use Rattle.ibos_net.proofs.Words.{ℕ, zero, suc, ◌≡◌, ◌≢◌, ◌≤◌, ◌+◌, ◌∷◌, Bool, true, false, List, [], Option, None, Some, Result, Ok, Err, Bound, Handle, Held, Instance, Local, Rule, length, map, take, same, if◌then◌else◌, slice_index_or, no_buffer, range_with_len}
use Rattle.ibos_kinds.specs.Bells.{Aim, aim_of, bell, frame_item, frame_rule, heard_item, other_handles, rule_by, unread_after, unread_then}
use Rattle.ibos_kinds.specs.Flows.{admitted_by}
use Rattle.ibos_model.specs.Journal.{kind_in, Nothing}
use Rattle.ibos_net.proofs.AreasGrown.{same-is}

rule-agrees : (ear : Option Bound) (u u' : ℕ) (aim : Aim) → (ear ≢ None → u' ≡ u) → frame_rule ear u' aim ≡ frame_rule ear u aim
rule-agrees None u u' aim agree = refl
rule-agrees (Some b) u u' aim agree = ap (rule_by (admitted_by (Some b) aim.flow aim.heading)) (agree (λ e. cc))

both-agree : (ear ear' : Option Bound) (u u' : ℕ) (aim : Aim) → ear' ≡ ear → (ear ≢ None → u' ≡ u) → frame_rule ear' u' aim ≡ frame_rule ear u aim
both-agree ear ear' u u' aim is agree = ap (λ e. frame_rule e u' aim) is ∙ rule-agrees ear u u' aim agree

item-agrees : (ears ears' : Instance → Option Bound) (unread unread' : Instance → ℕ) → ((p : Instance) → ears' p ≡ ears p) → ((p : Instance) → ears p ≢ None → unread' p ≡ unread p) → (w : List ℕ) (aimed : Result Aim Rule)
    → heard_item ears' unread' w aimed ≡ heard_item ears unread w aimed
item-agrees ears ears' unread unread' same_ears agree w (Ok aim) = ap (λ r. frame_item r aim.who aim.flow w) (both-agree (ears aim.who) (ears' aim.who) (unread aim.who) (unread' aim.who) aim (same_ears aim.who) (agree aim.who))
item-agrees ears ears' unread unread' same_ears agree w (Err rule) = refl

then-at : (b : Bool) (x x' y y' : ℕ) → (b ≡ true → x' ≡ x) → (b ≡ false → y' ≡ y) → (if b then x' else y') ≡ (if b then x else y)
then-at true x x' y y' hit miss = hit refl
then-at false x x' y y' hit miss = miss refl

unread-agrees : (ears ears' : Instance → Option Bound) (unread unread' : Instance → ℕ) → ((p : Instance) → ears' p ≡ ears p) → ((p : Instance) → ears p ≢ None → unread' p ≡ unread p) → (aimed : Result Aim Rule)
    → (p : Instance) → ears p ≢ None → unread_then ears' unread' aimed p ≡ unread_then ears unread aimed p
unread-agrees ears ears' unread unread' same_ears agree (Ok aim) p hears = then-at (same aim.who p) _ _ _ _
    (λ is. let here : ears aim.who ≢ None = subst (λ q. ears q ≢ None) (sym (same-is aim.who p is)) hears in
    ap (λ u. unread_after (frame_rule (ears' aim.who) (unread' aim.who) aim) u) (agree aim.who here)
    ∙ ap (λ r. unread_after r (unread aim.who)) (both-agree (ears aim.who) (ears' aim.who) (unread aim.who) (unread' aim.who) aim (same_ears aim.who) (agree aim.who)))
    (λ not. agree p hears)
unread-agrees ears ears' unread unread' same_ears agree (Err rule) p hears = agree p hears

-- what is unread matters only where something is bound
pub bell-agrees : (local : Local) (ears ears' : Instance → Option Bound) (unread unread' : Instance → ℕ) → ((p : Instance) → ears' p ≡ ears p) → ((p : Instance) → ears p ≢ None → unread' p ≡ unread p)
    → (hs : List Handle) (ws : List (List ℕ)) → bell local ears' unread' hs ws ≡ bell local ears unread hs ws
unfolding bell
bell-agrees local ears ears' unread unread' same_ears agree hs [] = refl
bell-agrees local ears ears' unread unread' same_ears agree hs (w ∷ ws) =
    rw (
      item-agrees ears ears' unread unread' same_ears agree w (aim_of local w),
      bell-agrees local ears ears' (unread_then ears unread (aim_of local w)) (unread_then ears' unread' (aim_of local w)) same_ears (unread-agrees ears ears' unread unread' same_ears agree (aim_of local w)) (other_handles hs) ws,
    ) refl

-- a bell asks for as many handles as there are frames
pub bell-front : (local : Local) (ears : Instance → Option Bound) (unread : Instance → ℕ) (ws : List (List ℕ)) (hs : List Handle) (count : ℕ) → length ws ≤ count → bell local ears unread (take count hs) ws ≡ bell local ears unread hs ws
unfolding bell
bell-front local ears unread [] hs count few = refl
bell-front local ears unread (w ∷ ws) [] zero few = refl
bell-front local ears unread (w ∷ ws) [] (suc count) few = refl
bell-front local ears unread (w ∷ ws) (h ∷ hs) zero few = absurd (omega (arith, few))
bell-front local ears unread (w ∷ ws) (h ∷ hs) (suc count) few = rw (bell-front local ears (unread_then ears unread (aim_of local w)) ws hs count (omega (arith, few))) refl

pub bell-kind : (local : Local) (ears : Instance → Option Bound) (unread : Instance → ℕ) (ws : List (List ℕ)) (hs : List Handle) → kind_in (bell local ears unread hs ws) ≡ Nothing
unfolding bell
bell-kind local ears unread [] hs = refl
bell-kind local ears unread (w ∷ ws) hs = refl

-- ---- lists

pub map-twice : {A B C : Type 0} (g : B → C) (f : A → B) (xs : List A) → map g (map f xs) ≡ map (λ x. g (f x)) xs
map-twice g f [] = refl
map-twice g f (x ∷ xs) = ap (λ ys. g (f x) ∷ ys) (map-twice g f xs)

-- what is read from the first place on is the front
pub front-read : (held : List Held) (count : ℕ) (f : ℕ → Held) (from : ℕ) → ((i : ℕ) → f (from + i) ≡ slice_index_or held i no_buffer) → count ≤ length held → map f (range_with_len from count) ≡ take count held
front-read held zero f from each few = refl
front-read [] (suc count) f from each few = absurd (omega (arith, few))
front-read (h ∷ hs) (suc count) f from each few =
    let first : f from ≡ h = ap f (omega arith) ∙ each zero in
    let rest : (i : ℕ) → f (from + 1 + i) ≡ slice_index_or hs i no_buffer = λ i. ap f (omega arith) ∙ each (suc i) in
    ap (λ x. x ∷ map f (range_with_len (from + 1) count)) first ∙ ap (λ xs. h ∷ xs) (front-read hs count f (from + 1) rest (omega (arith, few)))
