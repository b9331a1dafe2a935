-- A send is accepted, and posted.
use Rattle.std.proofs.Common.{◌≡◌, ℕ, zero, suc, ◌+◌, ◌<◌, ◌≤◌, ◌^◌, List, [], ◌∷◌, ◌++◌, length, sym, ◌∙◌, ap, subst, arith, get_or, length-append}
use Rattle.std.specs.Prelude.{Option, Some, None, slice_set}
use Rattle.std.specs.List.{All}
use Rattle.std.proofs.lemmas.List.{append_assoc, length-set}
use Rattle.std.proofs.lemmas.List.Elements.{All-append, All-get_or, All-set}
use Rattle.ibos_send.proofs.Gathered.{Around, around, gathered-push}
use Rattle.ibos_send.proofs.PartedHands.{comes_first, rotated_behind}
use Rattle.ibos_send.proofs.Words.{AreAtHand, Held, IsPost, IsSendList, IsWaiting, Memory, Names, Post, SendList, Waiting, gathered, held_waiting, post_of}

all-one : {X : Type 0} (P : X → Type 0) (x : X) → P x → All P (x ∷ [])
all-one P x is zero d below = is
all-one P x is (suc k) d below = absurd (omega (arith, below))

-- one send more waits
pub accepted : (l : SendList) (room room' : ℕ) (w : Waiting) (waiting : List (Option Waiting)) (posts : List Post) → IsSendList l room → waiting ≡ l.waiting ++ Some w ∷ [] → posts ≡ l.posts → IsWaiting (Some w)
    → length l.waiting < 2 ^ 31 → length l.waiting + 1 ≤ room' → IsSendList (record { waiting = waiting; posts = posts; returned = l.returned; told = l.told }) room'
accepted l room room' w waiting posts is pushed same fits few roomy =
    let long : length waiting ≡ length l.waiting + 1 = ap (λ (xs : List (Option Waiting)). length xs) pushed ∙ length-append l.waiting (Some w ∷ []) in
    let held : length (gathered held_waiting waiting) ≡ length (gathered held_waiting l.waiting) + 1 = ap (λ (xs : List (Option Waiting)). length (gathered held_waiting xs)) pushed
    ∙ ap (λ (hs : List Held). length hs) (gathered-push held_waiting l.waiting (Some w)) ∙ length-append (gathered held_waiting l.waiting) (w.loan ∷ []) in
    let counted = is.counted in
    let lens : length posts ≡ length l.posts = ap (λ (ps : List Post). length ps) same in
    record {
      counted = omega (arith, long, held, counted, lens);
      most = omega (arith, long, few);
      roomy = omega (arith, long, roomy);
      each = subst (All IsWaiting) (sym pushed) (All-append IsWaiting l.waiting (Some w ∷ []) is.each (all-one IsWaiting (Some w) fits));
      posts = subst (All IsPost) (sym same) is.posts;
    }

-- its buffer is behind those that waited
pub accepted-hands : (names : Names) (mem : Memory) (homes more : List Held) (before after : List (Option Waiting)) (w : Waiting) → after ≡ before ++ Some w ∷ [] → AreAtHand names mem (homes ++ (w.loan ∷ (gathered held_waiting before ++ more)))
    → AreAtHand names mem (homes ++ (gathered held_waiting after ++ more))
accepted-hands names mem homes more before after w pushed hands =
    let all : gathered held_waiting after ++ more ≡ gathered held_waiting before ++ (w.loan ∷ more) = ap (λ (xs : List (Option Waiting)). gathered held_waiting xs ++ more) pushed
    ∙ ap (λ hs. hs ++ more) (gathered-push held_waiting before (Some w)) ∙ append_assoc (gathered held_waiting before) (w.loan ∷ []) more in
    subst (λ hs. AreAtHand names mem (homes ++ hs)) (sym all) (rotated_behind names mem homes (w.loan ∷ []) (gathered held_waiting before) more hands)

module _ (l : SendList) (room k : ℕ) (w : Waiting) (is : IsSendList l room) (below : k < length l.waiting) (there : get_or l.waiting k None ≡ Some w) where
  place : Around held_waiting l.waiting k (get_or l.waiting k None)
  place = around held_waiting l.waiting k None below

  was : gathered held_waiting l.waiting ≡ place.0 ++ (w.loan ∷ place.1)
  was = place.2.was ∙ ap (λ o. place.0 ++ (held_waiting o ++ place.1)) there

  held-count : length (gathered held_waiting l.waiting) ≡ length (place.0 ++ place.1) + 1
  held-count =
      let one = length-append place.0 (w.loan ∷ place.1) in
      let other = length-append place.0 place.1 in
      let all = ap (λ (hs : List Held). length hs) was in
      omega (arith, one, other, all)

  -- not all sends were posted
  pub some-left : length l.posts < length l.waiting
  some-left = let counted = is.counted in omega (arith, held-count, counted)

  pub waiting-fits : IsWaiting (Some w)
  waiting-fits = subst IsWaiting there (All-get_or IsWaiting l.waiting k None below is.each)

  -- it is posted
  pub posted : (room' : ℕ) (y : Option Waiting) (posts : List Post) → y ≡ None → posts ≡ l.posts ++ post_of k w ∷ [] → room ≤ room' → IsSendList (record { waiting = slice_set l.waiting k y; posts = posts; returned = l.returned; told = l.told }) room'
  posted room' y posts none pushed roomy =
      let long : length (slice_set l.waiting k y) ≡ length l.waiting = length-set l.waiting k y in
      let held : gathered held_waiting (slice_set l.waiting k y) ≡ place.0 ++ place.1 = place.2.set y ∙ ap (λ o. place.0 ++ (held_waiting o ++ place.1)) none in
      let few = ap (λ (hs : List Held). length hs) held in
      let more : length posts ≡ length l.posts + 1 = ap (λ (ps : List Post). length ps) pushed ∙ length-append l.posts (post_of k w ∷ []) in
      let counted = is.counted in
      let most = is.most in
      let enough = is.roomy in
      let fits = waiting-fits in
      record {
        counted = omega (arith, long, few, more, counted, held-count);
        most = omega (arith, long, most);
        roomy = omega (arith, long, enough, roomy);
        each = All-set IsWaiting l.waiting k y (subst IsWaiting (sym none) tt) is.each;
        posts = subst (All IsPost) (sym pushed) (All-append IsPost l.posts (post_of k w ∷ []) is.posts (all-one IsPost (post_of k w) (fits.2, fits.3)));
      }

  -- its buffer comes first
  pub posted-hands : (names : Names) (mem : Memory) (y : Option Waiting) (more : List Held) → y ≡ None → AreAtHand names mem (gathered held_waiting l.waiting ++ more) → AreAtHand names mem (w.loan ∷ (gathered held_waiting (slice_set l.waiting k y) ++ more))
  posted-hands names mem y more none hands =
      let held : gathered held_waiting (slice_set l.waiting k y) ≡ place.0 ++ place.1 = place.2.set y ∙ ap (λ o. place.0 ++ (held_waiting o ++ place.1)) none in
      subst (λ hs. AreAtHand names mem (w.loan ∷ (hs ++ more))) (sym held) (comes_first names mem place.0 (w.loan ∷ []) place.1 more (subst (λ hs. AreAtHand names mem (hs ++ more)) was hands))
