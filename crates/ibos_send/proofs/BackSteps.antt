-- The buffers that came back up to now, and what that changed of names and of lent marks.
use Rattle.std.proofs.Common.{◌≡◌, ℕ, zero, suc, ◌+◌, ◌-◌, ◌||◌, ◌⊎◌, inl, inr, ⊎_elim, Bool, true, false, cond, List, [], ◌∷◌, ◌++◌, length, refl, sym, ◌∙◌, ap, subst, arith, get_or}
use Rattle.std.specs.Prelude.{Option, Some, None, drop, take, slice_get, slice_set, unwrap_or, if◌then◌else◌}
use Rattle.std.specs.List.{All}
use Rattle.std.proofs.lemmas.List.{append-nil, append_assoc, length-append}
use Rattle.std.proofs.Math.Seq.{take-append_seam}
use Rattle.ibos_pool.proofs.HandLemmas.{parts}
use Rattle.ibos_send.proofs.Givings.{has_name-append}
use Rattle.ibos_send.proofs.OpenPlaces.{clash_some}
use Rattle.ibos_send.proofs.PartedHands.{both_false, has-append}
use Rattle.ibos_send.proofs.TablePlaces.{homes-at, named_of}
use Rattle.ibos_send.proofs.Words.{AreAllAway, AreReturned, Held, Homes, Instance, IsMarked, Memory, Name, Names, Outgoing, Place, Post, Table, after_returns, all_left, back_since, brought_by, brought_home, came_back, has_home_place, has_name, has_place, held_of, home_at, home_by, home_in, home_place, homes_in, is_lent_at, is_taken, left_at, left_then, posted_in, same_name, same_place}

after_returns-append : (s : Outgoing) (xs ys : List Held) → after_returns s (xs ++ ys) ≡ after_returns (after_returns s xs) ys
after_returns-append s [] ys = refl
after_returns-append s (x ∷ xs) ys = after_returns-append (came_back (slice_get s.posts s.returned) x s) xs ys

all_left-append : (s : Outgoing) (xs ys : List Held) → all_left s (xs ++ ys) ≡ all_left s xs ++ all_left (after_returns s xs) ys
all_left-append s [] ys = refl
all_left-append s (x ∷ xs) ys =
    let next : Outgoing = came_back (slice_get s.posts s.returned) x s in
    let own : List Held = held_of (left_then (slice_get s.posts s.returned) x s) in
    ap (λ hs. own ++ hs) (all_left-append next xs ys) ∙ sym (append_assoc own (all_left next xs) (all_left (after_returns next xs) ys))

-- these came back from first to now, and the others did not yet
pub record IsBack (hs all left : List Held) (first now : Outgoing) (pool pool' : Names) (mem mem' : Memory) : Type 0 where
  pub split : all ≡ hs ++ left
  pub count : now.returned ≡ first.returned + length hs
  pub sends : now ≡ after_returns first hs
  pub given : AreReturned (all_left first hs) pool pool'
  pub lent : (p : Place) → is_lent_at mem' p ≡ cond (has_place hs p) false (is_lent_at mem p)

pub none-back : (all : List Held) (s : Outgoing) (pool : Names) (mem : Memory) → IsBack [] all all s s pool pool mem mem
none-back all s pool mem = record {
  split = refl;
  count = omega arith;
  sends = refl;
  given = record { names = λ name. refl; places = λ name. refl; areas = refl };
  lent = λ p. refl;
}

later : (before now old : Bool) → cond now false (cond before false old) ≡ cond (before || now) false old
later true true old = refl
later true false old = refl
later false now old = refl

or_false : (b : Bool) → (b || false) ≡ b
or_false true = refl
or_false false = refl

-- one more comes back
pub one-back : (h : Held) (hs all left : List Held) (first now next : Outgoing) (pool pool' pool'' : Names) (mem mem' mem'' : Memory) → IsBack hs all (h ∷ left) first now pool pool' mem mem'
    → next ≡ came_back (slice_get now.posts now.returned) h now → next.returned ≡ now.returned + 1
    → AreReturned (held_of (left_then (slice_get now.posts now.returned) h now)) pool' pool'' → IsMarked mem' mem'' h.place false
    → IsBack (hs ++ h ∷ []) all left first next pool pool'' mem mem''
one-back h hs all left first now next pool pool' pool'' mem mem' mem'' back state count returned marked = record {
  split = back.split ∙ sym (append_assoc hs (h ∷ []) left);
  count = let long = length-append hs (h ∷ []) in let was = back.count in omega (arith, count, was, long);
  sends = state ∙ ap (λ s. after_returns s (h ∷ [])) back.sends ∙ sym (after_returns-append first hs (h ∷ []));
  given = record {
    names = λ name. returned.names name ∙ ap (λ t. cond (has_name own name) false t) (back.given.names name) ∙ later (has_name (all_left first hs) name) (has_name own name) (is_taken pool name)
        ∙ ap (λ b. cond b false (is_taken pool name)) (sym (joined name));
    places = λ name. returned.places name ∙ back.given.places name;
    areas = returned.areas ∙ back.given.areas;
  };
  lent = λ p. marked.lent p ∙ ap (λ t. cond (same_place p h.place) false t) (back.lent p) ∙ later (has_place hs p) (same_place p h.place) (is_lent_at mem p)
      ∙ ap (λ b. cond b false (is_lent_at mem p)) (sym (has-append hs (h ∷ []) p ∙ ap (λ b. has_place hs p || b) (or_false (same_place p h.place))));
}
  where
    own : List Held
    own = held_of (left_then (slice_get now.posts now.returned) h now)

    joined : (name : Name) → has_name (all_left first (hs ++ h ∷ [])) name ≡ (has_name (all_left first hs) name || has_name own name)
    joined name =
        ap (λ zs. has_name zs name) (all_left-append first hs (h ∷ [])) ∙ has_name-append (all_left first hs) (all_left (after_returns first hs) (h ∷ [])) name
        ∙ ap (λ zs. has_name (all_left first hs) name || has_name zs name) (ap (λ s. all_left s (h ∷ [])) (sym back.sends) ∙ append-nil own)

-- which they are is told by how many
pub back-are : (hs all left : List Held) (first now : Outgoing) (pool pool' : Names) (mem mem' : Memory) → IsBack hs all left first now pool pool' mem mem' → hs ≡ back_since first now all
back-are hs all left first now pool pool' mem mem' back =
    let was = back.count in
    let many : now.returned - first.returned ≡ length hs = omega (arith, was) in
    sym (ap (λ n. take n all) many ∙ ap (λ zs. take (length hs) zs) back.split ∙ take-append_seam hs left)

-- ---- other names

either_set : {A : Type 0} (xs : List A) (k j : ℕ) (y d : A) → ((k ≡ j) × (get_or (slice_set xs k y) j d ≡ y)) ⊎ (get_or (slice_set xs k y) j d ≡ get_or xs j d)
either_set [] zero j y d = inr refl
either_set [] (suc k) j y d = inr refl
either_set (x ∷ xs) zero zero y d = inl (refl, refl)
either_set (x ∷ xs) zero (suc j) y d = inr refl
either_set (x ∷ xs) (suc k) zero y d = inr refl
either_set (x ∷ xs) (suc k) (suc j) y d = ⊎_elim (λ set. inl (ap suc set.0, set.1)) (λ other. inr other) (either_set xs k j y d)

module _ (name : Name) where
  -- there is no buffer, or it has another name
  abbrev IsOther : Option Held → Type 0
  IsOther o = has_name (held_of o) name ≡ false

  other-home : (h : Held) (t : Table) (who q : Instance) (b c : ℕ) → same_name name h.name ≡ false → IsOther (home_in t q c) → IsOther (home_in (brought_home who b h t) q c)
  unfolding homes_in
  other-home h t who q b c apart was = by_homes (homes_in t who) refl
    where
      by_homes : (o : Option Homes) → homes_in t who ≡ o → IsOther (home_in (brought_by who b h t o) q c)
      by_homes None none = was
      by_homes (Some homes) there = by_low (has_home_place q) was
        where
          there' : get_or t (home_place who) None ≡ Some homes
          there' = sym (homes-at t who (named_of t who (λ none. clash_some homes (sym there ∙ none)))) ∙ there

          homes' : Homes
          homes' = slice_set homes b (Some h)

          t' : Table
          t' = slice_set t (home_place who) (Some homes')

          set : home_place who ≡ home_place q → IsOther (home_at (get_or t (home_place q) None) c) → IsOther (get_or homes' c None)
          set same other = ⊎_elim (λ own. subst IsOther (sym own.1) (both_false _ _ apart refl))
              (λ old. subst IsOther (sym old) (subst (λ o. IsOther (home_at o c)) (ap (λ k. get_or t k None) (sym same) ∙ there') other)) (either_set homes b c (Some h) None)

          by_low : (low : Bool) → IsOther (home_at (if low then get_or t (home_place q) None else None) c) → IsOther (home_at (if low then get_or t' (home_place q) None else None) c)
          by_low false other = other
          by_low true other = ⊎_elim (λ own. subst (λ o. IsOther (home_at o c)) (sym own.1) (set own.0 other))
              (λ old. subst (λ o. IsOther (home_at o c)) (sym old) other) (either_set t (home_place who) (home_place q) (Some homes') None)

  -- no buffer of that name is at home in the place of a posted send
  abbrev AreOther : Outgoing → Type 0
  AreOther s = All (λ (post : Post). IsOther (home_by s post.who post.buffer)) (posted_in s)

  some-first : (posts : List Post) (i : ℕ) (post : Post) → slice_get posts i ≡ Some post → drop i posts ≡ post ∷ drop (suc i) posts
  some-first [] i post at = let e : None ≡ Some post = at in absurd cc
  some-first (x ∷ posts) zero post at = ap (λ p. p ∷ posts) (ap (λ o. unwrap_or o x) at)
  some-first (x ∷ posts) (suc i) post at = some-first posts i post at

  -- a name that did not come back is not left over
  not-left : (hs : List Held) (s : Outgoing) → has_name hs name ≡ false → AreOther s → has_name (all_left s hs) name ≡ false
  not-left [] s apart other = refl
  not-left (h ∷ hs) s apart other = by_post (λ n others. not-left hs n (parts _ _ apart).1 others) (slice_get s.posts s.returned) refl
    where
      differs : same_name name h.name ≡ false
      differs = (parts _ _ apart).0

      by_post : ((n : Outgoing) → AreOther n → has_name (all_left n hs) name ≡ false) → (o : Option Post) → slice_get s.posts s.returned ≡ o → has_name (held_of (left_then o h s) ++ all_left (came_back o h s) hs) name ≡ false
      by_post rest None at = both_false _ _ differs (rest s other)
      by_post rest (Some post) at =
          has_name-append (held_of (left_then (Some post) h s)) (all_left next hs) name ∙ both_false _ _ (by_homes (homes_in s.homes post.who) first) (rest next others)
        where
          next : Outgoing
          next = came_back (Some post) h s

          is : posted_in s ≡ post ∷ posted_in next
          is = let same : suc s.returned ≡ s.returned + 1 = omega arith in some-first s.posts s.returned post at ∙ ap (λ n. post ∷ drop n s.posts) same

          other' : All (λ (x : Post). IsOther (home_by s x.who x.buffer)) (post ∷ posted_in next)
          other' = subst (All (λ (x : Post). IsOther (home_by s x.who x.buffer))) is other

          first : IsOther (home_at (homes_in s.homes post.who) post.buffer)
          first = other' zero post (omega arith)

          by_homes : (o : Option Homes) → IsOther (home_at o post.buffer) → IsOther (left_at post.buffer h o)
          by_homes None was = both_false _ _ differs refl
          by_homes (Some homes) was = was

          others : AreOther next
          others k d below = other-home h s.homes post.who _ post.buffer _ differs (other' (suc k) d (omega (arith, below)))

  pub stays : (hs all left : List Held) (first now : Outgoing) (pool pool' : Names) (mem mem' : Memory) → IsBack hs all left first now pool pool' mem mem' → AreAllAway first → has_name all name ≡ false
      → is_taken pool' name ≡ is_taken pool name
  stays hs all left first now pool pool' mem mem' back away apart =
      let apart' = parts _ _ (sym (has_name-append hs left name) ∙ ap (λ zs. has_name zs name) (sym back.split) ∙ apart) in
      back.given.names name ∙ ap (λ b. cond b false (is_taken pool name)) (not-left hs first apart'.0 (λ k d below. ap (λ o. has_name (held_of o) name) (away k d below)))
