-- Buffers that were sent are at home again, one after the other.
use Rattle.std.proofs.Common.{refl, sym, ◌∙◌, ap, subst, arith}
use Rattle.std.proofs.lemmas.Bool.Decides.{nat_tests}
use Rattle.std.proofs.lemmas.List.{get_or-set_other, get_or-set_same, length-set}
use Rattle.std.specs.Prelude.{slice_get}
use Rattle.std.specs.List.{All}
use Rattle.ibos_kinds.specs.Sends.{homes_of as homes_returned}
use Rattle.ibos_send.specs.Returns.{IsSendOf, after_returns, brought_by, brought_home, came_back}
use Rattle.ibos_model.specs.Network.{at_buffer, homed, is_over}
use Rattle.ibos_net.proofs.AreasGrown.{by-one}
use Rattle.ibos_net.proofs.BuffersStay.{OwnStand, some-same}
use Rattle.ibos_net.proofs.Words.{Alive, ArePosted, Bool, BuffersStand, Gone, Held, HomeTable, Homes, Instance, Life, List, Memory, None, Option, Outgoing, Post, Send, Some, Unborn, Waiting, buffer_at, drop, false, has_home_place, home_at, home_in, home_of, home_place, homes_in, if◌then◌else◌, is_from, is_open, is_some, length, not, numbers_of, one_if, posted_from, posted_in, same, send_at, size_of, slice_index_or, slice_set, suc, take, true, waiting_from, zero, ℕ, [], ◌&&◌, ◌+◌, ◌++◌, ◌<◌, ◌==◌, ◌∷◌, ◌≡◌, ◌≢◌}

-- ---- tests

same-self : (p : Instance) → same p p ≡ true
same-self p = grind (arith, nat_tests)

number-self : (a : ℕ) → (a == a) ≡ true
number-self a = grind (arith, nat_tests)

number-is : (a b : ℕ) → (a == b) ≡ true → b ≡ a
number-is a b is = grind (arith, nat_tests, is)

number-not : (a b : ℕ) → (a == b) ≡ false → b ≢ a
number-not a b not e = let clash : true ≡ false = sym (number-self a) ∙ ap (λ x. a == x) (sym e) ∙ not in cc

-- ---- the table of buffers

placed-same : (p who : Instance) → has_home_place p ≡ true → has_home_place who ≡ true → home_place p ≡ home_place who → p ≡ who
placed-same p who low there e =
    let below : p.ord < 32 = grind (arith, nat_tests, low) in
    let under : who.ord < 32 = grind (arith, nat_tests, there) in
    let ord : p.ord ≡ who.ord = omega (arith, below, under, e) in
    let tab : p.tab ≡ who.tab = omega (arith, below, under, e) in
    let F : ℕ → Instance = λ t. record { tab = t; ord = p.ord } in
    let G : ℕ → Instance = λ o. record { tab = who.tab; ord = o } in
    ap F tab ∙ ap G ord

homes-there : (table : HomeTable) (who : Instance) (homes : Homes) → homes_in table who ≡ Some homes → (has_home_place who ≡ true) × (slice_index_or table (home_place who) None ≡ Some homes)
unfolding homes_in
homes-there table who homes is = by_test (has_home_place who) refl is
  where
    by_test : (b : Bool) → has_home_place who ≡ b → (if b then slice_index_or table (home_place who) None else None) ≡ Some homes → (has_home_place who ≡ true) × (slice_index_or table (home_place who) None ≡ Some homes)
    by_test true named there = (named, there)
    by_test false named there = absurd (cc there)

within : (table : HomeTable) (i : ℕ) (homes : Homes) → slice_index_or table i None ≡ Some homes → i < length table
within [] i homes is = absurd (cc is)
within (x ∷ table) zero homes is = omega arith
within (x ∷ table) (suc i) homes is = let rest = within table i homes is in omega (arith, rest)

brought-own : (table : HomeTable) (who : Instance) (homes more : Homes) → homes_in table who ≡ Some homes → homes_in (slice_set table (home_place who) (Some more)) who ≡ Some more
unfolding homes_in
brought-own table who homes more is =
    let there = homes-there table who homes is in
    ap (λ b. if b then slice_index_or (slice_set table (home_place who) (Some more)) (home_place who) None else None) there.0
    ∙ get_or-set_same table (home_place who) (Some more) None (within table (home_place who) homes there.1)

brought-other : (table : HomeTable) (who p : Instance) (homes : Homes) (x : Option Homes) → homes_in table who ≡ Some homes → p ≢ who → homes_in (slice_set table (home_place who) x) p ≡ homes_in table p
unfolding homes_in
brought-other table who p homes x is other = by_test (has_home_place p) refl
  where
    by_test : (b : Bool) → has_home_place p ≡ b → (if b then slice_index_or (slice_set table (home_place who) x) (home_place p) None else None) ≡ (if b then slice_index_or table (home_place p) None else None)
    by_test false high = refl
    by_test true low = get_or-set_other table (home_place who) (home_place p) x None (λ e. other (placed-same p who low (homes-there table who homes is).0 e))

-- all others have the buffers that they had
brought-others : (table : HomeTable) (who p : Instance) (buffer : ℕ) (h : Held) → p ≢ who → homes_in (brought_home who buffer h table) p ≡ homes_in table p
brought-others table who p buffer h other = by_homes (homes_in table who) refl
  where
    by_homes : (o : Option Homes) → homes_in table who ≡ o → homes_in (brought_by who buffer h table o) p ≡ homes_in table p
    by_homes None is = refl
    by_homes (Some homes) is = brought-other table who p homes (Some (slice_set homes buffer (Some h))) is other

-- one more buffer is at home
record IsBrought (o o' : Option Homes) (buffer : ℕ) (h : Held) : Type 0 where
  size : size_of o' ≡ size_of o
  own : buffer < 4 → home_at o' buffer ≡ Some h
  others : (b : ℕ) → b ≢ buffer → home_at o' b ≡ home_at o b

brought : (table : HomeTable) (who : Instance) (buffer : ℕ) (h : Held) → size_of (homes_in table who) ≡ 4 → IsBrought (homes_in table who) (homes_in (brought_home who buffer h table) who) buffer h
brought table who buffer h size = by_homes (homes_in table who) refl size
  where
    by_homes : (o : Option Homes) → homes_in table who ≡ o → size_of o ≡ 4 → IsBrought o (homes_in (brought_by who buffer h table o) who) buffer h
    by_homes None is four = absurd (omega (arith, four))
    by_homes (Some homes) is four =
        let own = brought-own table who homes (slice_set homes buffer (Some h)) is in
        subst (λ x. IsBrought (Some homes) x buffer h) (sym own) (record {
          size = length-set homes buffer (Some h);
          own = λ low. get_or-set_same homes buffer (Some h) None (omega (arith, low, four));
          others = λ b differ. get_or-set_other homes buffer b (Some h) None differ;
        })

-- ---- one buffer comes back

-- which of an instance's buffers are away then
away-then : (sends : List Send) (post : Post) (p : Instance) (away : ℕ → Bool) (b : ℕ) → (x : Send) × (send_at sends post.number ≡ Some x) × (x.who ≡ post.who) × (x.buffer ≡ post.buffer)
    → homed (home_of p (send_at sends post.number)) away b ≡ homed (if same post.who p then post.buffer ∷ [] else []) away b
away-then sends post p away b send =
    ap (λ o. homed (home_of p o) away b) send.1 ∙ ap (λ q. homed (if same q p then send.0.buffer ∷ [] else []) away b) send.2 ∙ ap (λ k. homed (if same post.who p then k ∷ [] else []) away b) send.3

module _ (life : Instance → Life) (sends : List Send) (buffers : Instance → ℕ → List ℕ) (away : Instance → ℕ → Bool) (homes : HomeTable) (waiting : List (Option Waiting)) (post : Post) (posts : List Post) (h : Held) (held : List Held) (mem : Memory)
    (s : BuffersStand life sends buffers away homes waiting (post ∷ posts) (h ∷ held) mem) where
  abbrev away' : Instance → ℕ → Bool
  away' p = homed (home_of p (send_at sends post.number)) (away p)

  abbrev homes' : HomeTable
  homes' = brought_home post.who post.buffer h homes

  -- of its sender, if that lives
  own-returned : life post.who ≡ Alive → OwnStand buffers away' homes' waiting posts mem post.who
  own-returned alive = record {
    size = it.size ∙ s.size post.who alive;
    away_is = λ b low. away-then sends post post.who (away post.who) b s.ring.0.send
        ∙ ap (λ t. homed (if t then post.buffer ∷ [] else []) (away post.who) b) (same-self post.who) ∙ away_by b low (post.buffer == b) refl;
    used = λ b low. used_by b low (post.buffer == b) refl;
    home = λ b k is. home_by b k is (post.buffer == b) refl;
  }
    where
      it : IsBrought (homes_in homes post.who) (homes_in homes' post.who) post.buffer h
      it = brought homes post.who post.buffer h (s.size post.who alive)

      here : (b : ℕ) → b < 4 → (post.buffer == b) ≡ true → home_in homes' post.who b ≡ Some h
      here b low is =
          let e : b ≡ post.buffer = number-is post.buffer b is in
          ap (λ k. home_in homes' post.who k) e ∙ it.own (subst (λ k. k < 4) e low)

      away_by : (b : ℕ) → b < 4 → (t : Bool) → (post.buffer == b) ≡ t → (if post.buffer == b then false else away post.who b) ≡ not (is_some (home_in homes' post.who b))
      away_by b low true is = ap (λ t. if t then false else away post.who b) is ∙ sym (ap (λ o. not (is_some o)) (here b low is))
      away_by b low false is = ap (λ t. if t then false else away post.who b) is ∙ s.away_is post.who b alive low ∙ sym (ap (λ o. not (is_some o)) (it.others b (number-not post.buffer b is)))

      few : (o : Bool) → one_if o < 2
      few true = omega arith
      few false = omega arith

      used_by : (b : ℕ) → b < 4 → (t : Bool) → (post.buffer == b) ≡ t → waiting_from post.who b waiting + posted_from post.who b posts ≡ one_if (not (is_some (home_in homes' post.who b)))
      used_by b low true is =
          let one : one_if (is_from post.who b post.who post.buffer) ≡ 1 = ap (λ t. one_if (t && post.buffer == b)) (same-self post.who) ∙ ap one_if is in
          let was = s.used post.who b alive low in
          let most = few (not (is_some (home_in homes post.who b))) in
          let none : waiting_from post.who b waiting + posted_from post.who b posts ≡ 0 = omega (arith, one, was, most) in
          none ∙ sym (ap (λ o. one_if (not (is_some o))) (here b low is))
      used_by b low false is =
          let none : one_if (is_from post.who b post.who post.buffer) ≡ 0 = ap (λ t. one_if (t && post.buffer == b)) (same-self post.who) ∙ ap one_if is in
          let was = s.used post.who b alive low in
          let rest : waiting_from post.who b waiting + posted_from post.who b posts ≡ one_if (not (is_some (home_in homes post.who b))) = omega (arith, none, was) in
          rest ∙ sym (ap (λ o. one_if (not (is_some o))) (it.others b (number-not post.buffer b is)))

      -- a buffer at home is one of four
      low_of : (o : Option Homes) (b : ℕ) (k : Held) → size_of o ≡ 4 → home_at o b ≡ Some k → b < 4
      low_of None b k four is = absurd (cc is)
      low_of (Some homes) b k four is = let low = below homes b k is in omega (arith, low, four)
        where
          below : (homes : Homes) (b : ℕ) (k : Held) → slice_index_or homes b None ≡ Some k → b < length homes
          below [] b k is = absurd (cc is)
          below (x ∷ homes) zero k is = omega arith
          below (x ∷ homes) (suc b) k is = let rest = below homes b k is in omega (arith, rest)

      home_by : (b : ℕ) (k : Held) → home_in homes' post.who b ≡ Some k → (t : Bool) → (post.buffer == b) ≡ t → buffer_at mem k.place ≡ buffers post.who b
      home_by b k there true is =
          let low = low_of (homes_in homes' post.who) b k (it.size ∙ s.size post.who alive) there in
          let e : b ≡ post.buffer = number-is post.buffer b is in
          let one : h ≡ k = some-same h k (sym (here b low is) ∙ there) in
          ap (λ (x : Held). buffer_at mem x.place) (sym one) ∙ s.ring.0.holds.bytes alive ∙ ap (buffers post.who) (sym e)
      home_by b k there false is = s.home post.who b k alive (sym (it.others b (number-not post.buffer b is)) ∙ there)

  -- of another
  other-returned : (p : Instance) → life p ≡ Alive → p ≢ post.who → same post.who p ≡ false → OwnStand buffers away' homes' waiting posts mem p
  other-returned p alive differ other =
      let same_homes = brought-others homes post.who p post.buffer h differ in
      record {
        size = ap size_of same_homes ∙ s.size p alive;
        away_is = λ b low. away-then sends post p (away p) b s.ring.0.send ∙ ap (λ t. homed (if t then post.buffer ∷ [] else []) (away p) b) other
            ∙ s.away_is p b alive low ∙ sym (ap (λ o. not (is_some (home_at o b))) same_homes);
        used = λ b low.
            let none : one_if (is_from p b post.who post.buffer) ≡ 0 = ap (λ t. one_if (t && post.buffer == b)) other in
            let was = s.used p b alive low in
            let rest : waiting_from p b waiting + posted_from p b posts ≡ one_if (not (is_some (home_in homes p b))) = omega (arith, none, was) in
            rest ∙ sym (ap (λ o. one_if (not (is_some (home_at o b)))) same_homes);
        home = λ b k is. s.home p b k alive (sym (ap (λ o. home_at o b) same_homes) ∙ is);
      }

  one-returned : (p : Instance) → life p ≡ Alive → OwnStand buffers away' homes' waiting posts mem p
  one-returned p alive = by-one post.who p
      (λ e. subst (OwnStand buffers away' homes' waiting posts mem) (sym e) (own-returned (ap life (sym e) ∙ alive)))
      (λ differ other. other-returned p alive differ other)

  pub returned-once : BuffersStand life sends buffers away' homes' waiting posts held mem
  returned-once = record {
    size = λ p alive. (one-returned p alive).size;
    away_is = λ p b alive. (one-returned p alive).away_is b;
    used = λ p b alive. (one-returned p alive).used b;
    home = λ p b k alive. (one-returned p alive).home b k;
    waits_for = s.waits_for;
    ring = s.ring.1;
  }

-- ---- all of them

-- which are away matters only for each
pub buffers-away : (life : Instance → Life) (sends : List Send) (buffers : Instance → ℕ → List ℕ) (away away' : Instance → ℕ → Bool) (homes : HomeTable) (waiting : List (Option Waiting)) (posted : List Post) (held : List Held) (mem : Memory)
    → ((p : Instance) (b : ℕ) → away' p b ≡ away p b) → BuffersStand life sends buffers away homes waiting posted held mem → BuffersStand life sends buffers away' homes waiting posted held mem
buffers-away life sends buffers away away' homes waiting posted held mem same s = record {
  size = s.size;
  away_is = λ p b alive low. same p b ∙ s.away_is p b alive low;
  used = s.used;
  home = s.home;
  waits_for = s.waits_for;
  ring = s.ring;
}

homed-append : (xs ys : List ℕ) (away : ℕ → Bool) (b : ℕ) → homed (xs ++ ys) away b ≡ homed ys (homed xs away) b
homed-append [] ys away b = refl
homed-append (x ∷ xs) ys away b = homed-append xs ys (at_buffer x false away) b

first-got : (ps : List Post) (i : ℕ) (post : Post) (posts : List Post) → drop i ps ≡ post ∷ posts → slice_get ps i ≡ Some post
first-got [] zero post posts is = absurd (cc is)
first-got [] (suc i) post posts is = absurd (cc is)
first-got (x ∷ ps) zero post posts is = let first : List Post → Option Post = λ xs. slice_get xs 0 in ap first is
first-got (x ∷ ps) (suc i) post posts is = first-got ps i post posts is

rest-left : (ps : List Post) (i : ℕ) (post : Post) (posts : List Post) → drop i ps ≡ post ∷ posts → drop (suc i) ps ≡ posts
rest-left [] zero post posts is = absurd (cc is)
rest-left [] (suc i) post posts is = absurd (cc is)
rest-left (x ∷ ps) zero post posts is = let rest : List Post → List Post = λ xs. drop 1 xs in ap rest is
rest-left (x ∷ ps) (suc i) post posts is = rest-left ps i post posts is

module _ (life : Instance → Life) (sends : List Send) (buffers : Instance → ℕ → List ℕ) (mem : Memory) (held : List Held) where
  pub returned-all : (hs : List Held) (s : Outgoing) (away : Instance → ℕ → Bool) → BuffersStand life sends buffers away s.homes s.waiting (posted_in s) (hs ++ held) mem
      → BuffersStand life sends buffers (λ p. homed (homes_returned p sends (take (length hs) (numbers_of (posted_in s)))) (away p)) (after_returns s hs).homes (after_returns s hs).waiting (posted_in (after_returns s hs)) held mem
  unfolding homes_returned
  returned-all [] s away stand = stand
  returned-all (h ∷ hs) s away stand = by_posts (returned-all hs) (posted_in s) refl stand
    where
      by_posts : ((s' : Outgoing) (away' : Instance → ℕ → Bool) → BuffersStand life sends buffers away' s'.homes s'.waiting (posted_in s') (hs ++ held) mem
          → BuffersStand life sends buffers (λ p. homed (homes_returned p sends (take (length hs) (numbers_of (posted_in s')))) (away' p)) (after_returns s' hs).homes (after_returns s' hs).waiting (posted_in (after_returns s' hs)) held mem)
          → (ps : List Post) → posted_in s ≡ ps → BuffersStand life sends buffers away s.homes s.waiting ps (h ∷ (hs ++ held)) mem
          → BuffersStand life sends buffers (λ p. homed (homes_returned p sends (take (suc (length hs)) (numbers_of (posted_in s)))) (away p)) (after_returns s (h ∷ hs)).homes (after_returns s (h ∷ hs)).waiting (posted_in (after_returns s (h ∷ hs))) held mem
      by_posts rest [] is one = absurd one.ring
      by_posts rest (post ∷ posts) is one =
          let get : slice_get s.posts s.returned ≡ Some post = first-got s.posts s.returned post posts is in
          let step : s.returned + 1 ≡ suc s.returned = omega arith in
          let next : Outgoing = came_back (Some post) h s in
          let left : posted_in next ≡ posts = ap (λ n. drop n s.posts) step ∙ rest-left s.posts s.returned post posts is in
          let once = returned-once life sends buffers away s.homes s.waiting post posts h (hs ++ held) mem one in
          let away1 : Instance → ℕ → Bool = λ p. homed (home_of p (send_at sends post.number)) (away p) in
          let more = rest next away1 (subst (λ ps. BuffersStand life sends buffers away1 next.homes s.waiting ps (hs ++ held) mem) (sym left) once) in
          let all = buffers-away life sends buffers (λ p. homed (homes_returned p sends (take (length hs) (numbers_of (posted_in next)))) (away1 p)) (λ p. homed (homes_returned p sends (take (suc (length hs)) (numbers_of (posted_in s)))) (away p))
          (after_returns next hs).homes (after_returns next hs).waiting (posted_in (after_returns next hs)) held mem
          (λ p b. ap (λ ps. homed (homes_returned p sends (take (suc (length hs)) (numbers_of ps))) (away p) b) is
          ∙ homed-append (home_of p (send_at sends post.number)) (homes_returned p sends (take (length hs) (numbers_of posts))) (away p) b
          ∙ ap (λ ps. homed (homes_returned p sends (take (length hs) (numbers_of ps))) (away1 p) b) (sym left)) more in
          subst (λ o. BuffersStand life sends buffers (λ p. homed (homes_returned p sends (take (suc (length hs)) (numbers_of (posted_in s)))) (away p)) (after_returns (came_back o h s) hs).homes (after_returns (came_back o h s) hs).waiting (posted_in (after_returns (came_back o h s) hs)) held mem)
          (sym get) all

-- ---- whose they are

sized-open : (o : Option Homes) → size_of o ≡ 4 → is_some o ≡ true
sized-open None four = absurd (omega (arith, four))
sized-open (Some homes) four = refl

-- an instance that sent something has started, and it is open while it lives
pub sends-of : (life : Instance → Life) (sends : List Send) (buffers : Instance → ℕ → List ℕ) (mem : Memory) (s : Outgoing) → ((p : Instance) → life p ≡ Alive → size_of (homes_in s.homes p) ≡ 4) → ((p : Instance) → life p ≡ Gone → homes_in s.homes p ≡ None)
    → (posts : List Post) (held : List Held) → ArePosted life sends buffers mem posts held → All (IsSendOf (λ p. is_over (life p)) sends s) posts
sends-of life sends buffers mem s alive gone [] [] ring k d below = absurd (omega (arith, below))
sends-of life sends buffers mem s alive gone [] (h ∷ held) ring k d below = absurd ring
sends-of life sends buffers mem s alive gone (post ∷ posts) [] ring k d below = absurd ring
sends-of life sends buffers mem s alive gone (post ∷ posts) (h ∷ held) ring zero d below = record { send = ring.0.send; gone = by_life (life post.who) refl }
  where
    by_life : (l : Life) → life post.who ≡ l → is_over l ≡ not (is_open s post.who)
    by_life Unborn is = absurd (ring.0.holds.started is)
    by_life Alive is = sym (ap not (sized-open (homes_in s.homes post.who) (alive post.who is)))
    by_life Gone is = sym (ap (λ o. not (is_some o)) (gone post.who is))
sends-of life sends buffers mem s alive gone (post ∷ posts) (h ∷ held) ring (suc k) d below = sends-of life sends buffers mem s alive gone posts held ring.1 k d (omega (arith, below))
