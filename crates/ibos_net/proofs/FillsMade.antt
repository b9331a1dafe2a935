-- A process writes into a buffer of its own that is at home: all other buffers keep what they have.
use Rattle.std.proofs.Common.{refl, sym, ◌∙◌, ap, subst, arith, inl, inr}
use Rattle.std.specs.Prelude.{◌⊎◌}
use Rattle.std.proofs.lemmas.Bool.Decides.{nat_tests}
use Rattle.ibos_kinds.specs.declared.act.Act.TheVariants.{Fill}
use Rattle.ibos_mediate.specs.Frames.{unsent_frames}
use Rattle.ibos_send.specs.Returns.{AreFilled}
use Rattle.ibos_send.specs.Sends.{answer_of}
use Rattle.ibos_model.specs.Network.{buffers_by}
use Rattle.ibos_net.proofs.AreasGrown.{by-one}
use Rattle.ibos_net.proofs.Arrivals.{with_mem}
use Rattle.ibos_net.proofs.BuffersStay.{placed-back, placed-first, placed-front, posted-stay, ring-lent, some-same}
use Rattle.ibos_net.proofs.SendsLeft.{counts-moved}
use Rattle.ibos_net.proofs.Words.{ℕ, zero, suc, ◌≡◌, ◌≢◌, ◌+◌, ◌<◌, ◌==◌, ◌&&◌, ◌++◌, ◌∷◌, Bool, true, false, not, List, [], length, nat_lt, take, Option, Some, None, Result, Ok, Err, is_some, slice_index_or, if◌then◌else◌, Alive, AreAtHand, ArePosted, AreRegisters, BuffersStand, Endpoint, Held, HomeTable, Homes, Inboxes, Instance, IsInMemory, IsKept, IsLent, IsPlaceIn, IsSafe, IsWaitingFor, Life, Local, LogEntry, Mediated, Memory, Names, Network, NetMakes, NetStands, NetState, Outgoing, Place, Post, Receive, Registers, Rule, Send, Transmit, Waiting, accepted, answer, buffer_at, bytes_of, completed, denied, fill_rule, frames_of, gathered, hands_of, has_home_place, has_place, held_of, held_to_send, held_waiting, home_at, home_by, home_in, home_place, homes_in, homes_of, is_away, is_from, is_lent_at, network_by, one_if, overlaid, posted_from, posted_in, received_frames, same, waiting_from, AreUnheld}

-- ---- parts of buffers at hand

-- each part is at hand, and no buffer is in two of them
pub record AreParted (names : Names) (mem : Memory) : Type 0 where
  pub front : (held more : List Held) → AreAtHand names mem (held ++ more) → AreAtHand names mem held
  pub back : (held more : List Held) → AreAtHand names mem (held ++ more) → AreAtHand names mem more
  pub apart : (held more : List Held) (p : Place) → AreAtHand names mem (held ++ more) → has_place held p ≡ true → has_place more p ≡ false
  pub kept : (held : List Held) (p : Place) → AreAtHand names mem held → has_place held p ≡ true → IsKept mem p

pub not-true : (a : Bool) → (a ≡ true → ⊥) → a ≡ false
not-true true never = absurd (never refl)
not-true false never = refl

gathered-placed : {A : Type 0} (f : A → List Held) (d : A) → f d ≡ [] → (xs : List A) (i : ℕ) (p : Place) → has_place (f (slice_index_or xs i d)) p ≡ true → has_place (gathered f xs) p ≡ true
gathered-placed f d none [] i p there = let clash : false ≡ true = subst (λ hs. has_place hs p ≡ true) none there in absurd (cc clash)
gathered-placed f d none (x ∷ xs) zero p there = placed-front p (f x) (gathered f xs) there
gathered-placed f d none (x ∷ xs) (suc i) p there = placed-back p (f x) (gathered f xs) (gathered-placed f d none xs i p there)

gathered-part : {A : Type 0} (f : A → List Held) (d : A) → f d ≡ [] → (names : Names) (mem : Memory) → AreParted names mem → (xs : List A) (i : ℕ) → AreAtHand names mem (gathered f xs) → AreAtHand names mem (f (slice_index_or xs i d))
gathered-part f d none names mem parted [] i hands = subst (AreAtHand names mem) (sym none) tt
gathered-part f d none names mem parted (x ∷ xs) zero hands = parted.front (f x) (gathered f xs) hands
gathered-part f d none names mem parted (x ∷ xs) (suc i) hands = gathered-part f d none names mem parted xs i (parted.back (f x) (gathered f xs) hands)

gathered-apart : {A : Type 0} (f : A → List Held) (d : A) → f d ≡ [] → (names : Names) (mem : Memory) → AreParted names mem → (xs : List A) (i j : ℕ) (p : Place) → i ≢ j → AreAtHand names mem (gathered f xs)
    → has_place (f (slice_index_or xs i d)) p ≡ true → has_place (f (slice_index_or xs j d)) p ≡ false
gathered-apart f d none names mem parted [] i j p differ hands there = ap (λ hs. has_place hs p) none
gathered-apart f d none names mem parted (x ∷ xs) zero zero p differ hands there = absurd (differ refl)
gathered-apart f d none names mem parted (x ∷ xs) zero (suc j) p differ hands there = not-true _ (λ too.
    let clash : true ≡ false = sym (gathered-placed f d none xs j p too) ∙ parted.apart (f x) (gathered f xs) p hands there in cc)
gathered-apart f d none names mem parted (x ∷ xs) (suc i) zero p differ hands there = not-true _ (λ too.
    let clash : true ≡ false = sym (gathered-placed f d none xs i p there) ∙ parted.apart (f x) (gathered f xs) p hands too in cc)
gathered-apart f d none names mem parted (x ∷ xs) (suc i) (suc j) p differ hands there = gathered-apart f d none names mem parted xs i j p (λ e. differ (ap suc e)) (parted.back (f x) (gathered f xs) hands) there

-- ---- buffers at home

-- another instance's buffer, or another of the same
abbrev pub IsOther : Instance → ℕ → Instance → ℕ → Type 0
IsOther who buffer p b = (p ≢ who) ⊎ (b ≢ buffer)

pub nat-is : (a b : ℕ) → (a == b) ≡ true → b ≡ a
nat-is a b h = grind (arith, nat_tests)

pub nat-not : (a b : ℕ) → (a == b) ≡ false → b ≢ a
nat-not a b h = λ e. grind (arith, nat_tests)

pub by-buffer : (who : Instance) (buffer : ℕ) (p : Instance) (b : ℕ) {P : Type 0} → (p ≡ who → b ≡ buffer → P) → (IsOther who buffer p b → P) → P
by-buffer who buffer p b {P} own other = by-one who p (λ is. by_test is (buffer == b) refl) (λ differ not. other (inl differ))
  where
    by_test : p ≡ who → (t : Bool) → (buffer == b) ≡ t → P
    by_test is true e = own is (nat-is buffer b e)
    by_test is false e = other (inr (nat-not buffer b e))

at-placed : (o : Option Homes) (b : ℕ) (p : Place) → has_place (held_of (home_at o b)) p ≡ true → has_place (homes_of o) p ≡ true
at-placed None b p there = absurd (cc there)
at-placed (Some homes) b p there = gathered-placed held_of None refl homes b p there

pub home-placed : (table : HomeTable) (who : Instance) (b : ℕ) (p : Place) → has_place (held_of (home_in table who b)) p ≡ true → has_place (gathered homes_of table) p ≡ true
unfolding homes_in
home-placed table who b p = by_name (has_home_place who)
  where
    by_name : (named : Bool) → has_place (held_of (home_at (if named then slice_index_or table (home_place who) None else None) b)) p ≡ true → has_place (gathered homes_of table) p ≡ true
    by_name true there = gathered-placed homes_of None refl table (home_place who) p (at-placed (slice_index_or table (home_place who) None) b p there)
    by_name false there = absurd (cc there)

pub and-second : (a b : Bool) → (a && b) ≡ true → b ≡ true
and-second true b h = h
and-second false b h = absurd (cc h)

place-one : (p q : Instance) → has_home_place p ≡ true → has_home_place q ≡ true → home_place p ≡ home_place q → p ≡ q
place-one p q low few is =
    let a : p.ord < 32 = let h = and-second (nat_lt p.tab 64) (nat_lt p.ord 32) low in grind (arith, nat_tests) in
    let b : q.ord < 32 = let h = and-second (nat_lt q.tab 64) (nat_lt q.ord 32) few in grind (arith, nat_tests) in
    let tabs : p.tab ≡ q.tab = omega (arith, a, b, is) in
    let ords : p.ord ≡ q.ord = omega (arith, a, b, is) in
    let one : p ≡ record { tab = q.tab; ord = p.ord } = ap (λ k. record { tab = k; ord = p.ord }) tabs in
    let two : record { tab = q.tab; ord = p.ord } ≡ q = ap (λ k. record { tab = q.tab; ord = k }) ords in
    one ∙ two

-- those of two instances lie apart
instances-apart : (names : Names) (mem : Memory) → AreParted names mem → (table : HomeTable) (who : Instance) (buffer : ℕ) (q : Instance) (b : ℕ) (p : Place) → q ≢ who → AreAtHand names mem (gathered homes_of table)
    → has_place (held_of (home_in table q b)) p ≡ true → has_place (held_of (home_in table who buffer)) p ≡ false
unfolding homes_in
instances-apart names mem parted table who buffer q b p differ hands = by_names (has_home_place q) (has_home_place who) refl refl
  where
    by_names : (x y : Bool) → has_home_place q ≡ x → has_home_place who ≡ y → has_place (held_of (home_at (if x then slice_index_or table (home_place q) None else None) b)) p ≡ true
        → has_place (held_of (home_at (if y then slice_index_or table (home_place who) None else None) buffer)) p ≡ false
    by_names true true low few there = not-true _ (λ too.
        let mine : has_place (homes_of (slice_index_or table (home_place who) None)) p ≡ true = at-placed (slice_index_or table (home_place who) None) buffer p too in
        let its = at-placed (slice_index_or table (home_place q) None) b p there in
        let clash : true ≡ false = sym mine ∙ gathered-apart homes_of None refl names mem parted table (home_place q) (home_place who) p (λ e. differ (place-one q who low few e)) hands its in cc)
    by_names true false low few there = refl
    by_names false y low few there = absurd (cc there)

one-apart : (names : Names) (mem : Memory) → AreParted names mem → (o : Option Homes) (buffer b : ℕ) (p : Place) → b ≢ buffer → AreAtHand names mem (homes_of o)
    → has_place (held_of (home_at o b)) p ≡ true → has_place (held_of (home_at o buffer)) p ≡ false
one-apart names mem parted None buffer b p differ hands there = refl
one-apart names mem parted (Some homes) buffer b p differ hands there = gathered-apart held_of None refl names mem parted homes b buffer p differ hands there

homes-part : (names : Names) (mem : Memory) → AreParted names mem → (table : HomeTable) (who : Instance) → AreAtHand names mem (gathered homes_of table) → AreAtHand names mem (homes_of (homes_in table who))
unfolding homes_in
homes-part names mem parted table who hands = by_name (has_home_place who)
  where
    by_name : (named : Bool) → AreAtHand names mem (homes_of (if named then slice_index_or table (home_place who) None else None))
    by_name true = gathered-part homes_of None refl names mem parted table (home_place who) hands
    by_name false = tt

pub home-apart : (names : Names) (mem : Memory) → AreParted names mem → (table : HomeTable) (who : Instance) (buffer : ℕ) (q : Instance) (b : ℕ) (p : Place) → IsOther who buffer q b → AreAtHand names mem (gathered homes_of table)
    → has_place (held_of (home_in table q b)) p ≡ true → has_place (held_of (home_in table who buffer)) p ≡ false
home-apart names mem parted table who buffer q b p (inl differ) hands there = instances-apart names mem parted table who buffer q b p differ hands there
home-apart names mem parted table who buffer q b p (inr differ) hands there = by-one who q
    (λ is. one-apart names mem parted (homes_in table who) buffer b p differ (homes-part names mem parted table who hands) (subst (λ (x : Instance). has_place (held_of (home_in table x b)) p ≡ true) is there))
    (λ apart not. instances-apart names mem parted table who buffer q b p apart hands there)

-- ---- sends that have the buffer

one_if-none : (x : Bool) → one_if x ≡ 0 → x ≡ false
one_if-none true is = absurd (cc is)
one_if-none false is = refl

pub from-self : (who : Instance) (buffer : ℕ) → is_from who buffer who buffer ≡ true
from-self who buffer = grind (arith, nat_tests)

not-from : (who : Instance) (buffer : ℕ) (q : Instance) (b : ℕ) → is_from who buffer q b ≡ false → IsOther who buffer q b
not-from who buffer q b none = by-buffer who buffer q b
    (λ is same_b. let P : Instance → ℕ → Bool = is_from who buffer in
    let clash : true ≡ false = sym (from-self who buffer) ∙ ap (λ x. P x buffer) (sym is) ∙ ap (P q) (sym same_b) ∙ none in absurd cc) (λ o. o)

pub none-waits : (who : Instance) (buffer : ℕ) (ws : List (Option Waiting)) (k : ℕ) (w : Waiting) → waiting_from who buffer ws ≡ 0 → slice_index_or ws k None ≡ Some w → IsOther who buffer w.who w.buffer
none-waits who buffer [] k w none is = absurd (cc is)
none-waits who buffer (None ∷ ws) zero w none is = absurd (cc is)
none-waits who buffer (None ∷ ws) (suc k) w none is = none-waits who buffer ws k w none is
none-waits who buffer (Some v ∷ ws) zero w none is =
    let first : one_if (is_from who buffer v.who v.buffer) ≡ 0 = omega (arith, none) in
    subst (λ (x : Waiting). IsOther who buffer x.who x.buffer) (some-same v w is) (not-from who buffer v.who v.buffer (one_if-none (is_from who buffer v.who v.buffer) first))
none-waits who buffer (Some v ∷ ws) (suc k) w none is = none-waits who buffer ws k w (omega (arith, none)) is

-- ---- other bytes in a buffer

-- the journal's buffers change there alone
abbrev pub OthersStay : Instance → ℕ → (Instance → ℕ → List ℕ) → (Instance → ℕ → List ℕ) → Type 0
OthersStay who buffer buffers buffers' = (q : Instance) (b : ℕ) → IsOther who buffer q b → buffers' q b ≡ buffers q b

posted-others : (life : Instance → Life) (sends : List Send) (buffers buffers' : Instance → ℕ → List ℕ) (mem : Memory) (who : Instance) (buffer : ℕ) (posts : List Post) (held : List Held) → OthersStay who buffer buffers buffers' → posted_from who buffer posts ≡ 0
    → ArePosted life sends buffers mem posts held → ArePosted life sends buffers' mem posts held
posted-others life sends buffers buffers' mem who buffer [] [] others none ring = tt
posted-others life sends buffers buffers' mem who buffer [] (h ∷ held) others none ring = absurd ring
posted-others life sends buffers buffers' mem who buffer (post ∷ posts) [] others none ring = absurd ring
posted-others life sends buffers buffers' mem who buffer (post ∷ posts) (h ∷ held) others none ring =
    let first : one_if (is_from who buffer post.who post.buffer) ≡ 0 = omega (arith, none) in
    let other = not-from who buffer post.who post.buffer (one_if-none (is_from who buffer post.who post.buffer) first) in (
      record { send = ring.0.send; holds = record { started = ring.0.holds.started; bytes = λ alive. ring.0.holds.bytes alive ∙ sym (others post.who post.buffer other) } },
      posted-others life sends buffers buffers' mem who buffer posts held others (omega (arith, none)) ring.1,
    )

waiting-filled : (life : Instance → Life) (sends : List Send) (buffers buffers' : Instance → ℕ → List ℕ) (mem mem' : Memory) (number : ℕ) (w : Waiting) → buffer_at mem' w.loan.place ≡ buffer_at mem w.loan.place
    → buffers' w.who w.buffer ≡ buffers w.who w.buffer → IsWaitingFor life sends buffers mem number w → IsWaitingFor life sends buffers' mem' number w
waiting-filled life sends buffers buffers' mem mem' number w kept stay is = record {
  send = is.send ∙ ap (λ bytes. Some (record { who = w.who; buffer = w.buffer; bytes = take w.len bytes })) (sym kept);
  holds = record { started = is.holds.started; bytes = λ alive. kept ∙ is.holds.bytes alive ∙ sym stay };
}

waiting-placed : (ws : List (Option Waiting)) (k : ℕ) (w : Waiting) → slice_index_or ws k None ≡ Some w → has_place (gathered held_waiting ws) w.loan.place ≡ true
waiting-placed ws k w is = gathered-placed held_waiting None refl ws k w.loan.place (subst (λ o. has_place (held_waiting o) w.loan.place ≡ true) (sym is) (placed-first w.loan []))

home-found : (o : Option Held) (h : Held) → o ≡ Some h → has_place (held_of o) h.place ≡ true
home-found o h is = subst (λ x. has_place (held_of x) h.place ≡ true) (sym is) (placed-first h [])

some-there : (o : Option Held) (h : Held) → o ≡ Some h → is_some o ≡ true
some-there o h is = ap is_some is

-- what stands of all buffers, once one at home has other bytes
pub buffers-filled : (names : Names) (life : Instance → Life) (sends : List Send) (buffers buffers' : Instance → ℕ → List ℕ) (away : Instance → ℕ → Bool) (homes : HomeTable) (waiting : List (Option Waiting)) (posted : List Post) (held : List Held)
    (mem mem' : Memory) (who : Instance) (buffer : ℕ) → AreParted names mem → AreAtHand names mem (gathered homes_of homes ++ gathered held_waiting waiting)
    → ((p : Place) → IsPlaceIn (length mem) p → has_place (held_of (home_in homes who buffer)) p ≡ false → buffer_at mem' p ≡ buffer_at mem p) → ((p : Place) → has_place held p ≡ true → buffer_at mem' p ≡ buffer_at mem p)
    → OthersStay who buffer buffers buffers' → ((h : Held) → home_in homes who buffer ≡ Some h → buffer_at mem' h.place ≡ buffers' who buffer) → is_some (home_in homes who buffer) ≡ true → life who ≡ Alive → buffer < 4
    → BuffersStand life sends buffers away homes waiting posted held mem → BuffersStand life sends buffers' away homes waiting posted held mem'
buffers-filled names life sends buffers buffers' away homes waiting posted held mem mem' who buffer parted hands same lent others own there lives low s =
    let total : waiting_from who buffer waiting + posted_from who buffer posted ≡ 0 = s.used who buffer lives low ∙ ap (λ x. one_if (not x)) there in
    let none : waiting_from who buffer waiting ≡ 0 = omega (arith, total) in
    let idle : posted_from who buffer posted ≡ 0 = omega (arith, total) in
    let front = parted.front (gathered homes_of homes) (gathered held_waiting waiting) hands in
    let back = parted.back (gathered homes_of homes) (gathered held_waiting waiting) hands in
    record {
      size = s.size;
      away_is = s.away_is;
      used = s.used;
      home = λ p b h alive is. by-buffer who buffer p b
          (λ is_who is_buffer. subst (λ (x : Instance). buffer_at mem' h.place ≡ buffers' x b) (sym is_who) (subst (λ k. buffer_at mem' h.place ≡ buffers' who k) (sym is_buffer)
          (own h (subst (λ k. home_in homes who k ≡ Some h) is_buffer (subst (λ (x : Instance). home_in homes x b ≡ Some h) is_who is)))))
          (λ other.
          let placed = home-found (home_in homes p b) h is in
          let apart = home-apart names mem parted homes who buffer p b h.place other front placed in
          same h.place (parted.kept (gathered homes_of homes) h.place front (home-placed homes p b h.place placed)).place apart ∙ s.home p b h alive is ∙ sym (others p b other));
      waits_for = λ number w is.
          let placed = waiting-placed waiting number w is in
          let apart = not-true (has_place (held_of (home_in homes who buffer)) w.loan.place) (λ too.
          let clash : true ≡ false = sym placed ∙ parted.apart (gathered homes_of homes) (gathered held_waiting waiting) w.loan.place hands (home-placed homes who buffer w.loan.place too) in cc) in
          waiting-filled life sends buffers buffers' mem mem' number w (same w.loan.place (parted.kept (gathered held_waiting waiting) w.loan.place back placed).place apart)
          (others w.who w.buffer (none-waits who buffer waiting number w none is)) (s.waits_for number w is);
      ring = posted-others life sends buffers buffers' mem' who buffer posted held others idle (posted-stay life sends buffers mem mem' posted held lent s.ring);
    }

-- ---- what the journal says

pub if-true : {A : Type 0} (t : Bool) (x y : A) → t ≡ true → (if t then x else y) ≡ x
if-true true x y is = refl
if-true false x y is = absurd (cc is)

pub if-false : {A : Type 0} (t : Bool) (x y : A) → t ≡ false → (if t then x else y) ≡ y
if-false true x y is = absurd (cc is)
if-false false x y is = refl

pub nat-self : (k : ℕ) → (k == k) ≡ true
nat-self k = grind (arith, nat_tests)

pub nat-apart : (a b : ℕ) → b ≢ a → (a == b) ≡ false
nat-apart a b differ = not-true (a == b) (λ e. differ (nat-is a b e))

pub same-self : (p : Instance) → same p p ≡ true
same-self p = grind (arith, nat_tests)

-- the journal's buffers after the fill
abbrev pub buffers_after : Instance → ℕ → ℕ → List ℕ → (Instance → ℕ → List ℕ) → Instance → ℕ → List ℕ
buffers_after who buffer place bytes buffers q = buffers_by (same who q) true (Fill who buffer place bytes) (buffers q)

by-own : (own : Bool) (who : Instance) (buffer place : ℕ) (bytes : List ℕ) (old : ℕ → List ℕ) → own ≡ true → buffers_by own true (Fill who buffer place bytes) old buffer ≡ overlaid place bytes (old buffer)
by-own true who buffer place bytes old is = if-true (buffer == buffer) (overlaid place bytes (old buffer)) (old buffer) (nat-self buffer)
by-own false who buffer place bytes old is = absurd (cc is)

by-other : (own : Bool) (who : Instance) (buffer place : ℕ) (bytes : List ℕ) (old : ℕ → List ℕ) (b : ℕ) → b ≢ buffer → buffers_by own true (Fill who buffer place bytes) old b ≡ old b
by-other true who buffer place bytes old b differ = if-false (buffer == b) (overlaid place bytes (old buffer)) (old b) (nat-apart buffer b differ)
by-other false who buffer place bytes old b differ = refl

after-own : (who : Instance) (buffer place : ℕ) (bytes : List ℕ) (buffers : Instance → ℕ → List ℕ) → buffers_after who buffer place bytes buffers who buffer ≡ overlaid place bytes (buffers who buffer)
after-own who buffer place bytes buffers = by-own (same who who) who buffer place bytes (buffers who) (same-self who)

after-others : (who : Instance) (buffer place : ℕ) (bytes : List ℕ) (buffers : Instance → ℕ → List ℕ) → OthersStay who buffer buffers (buffers_after who buffer place bytes buffers)
after-others who buffer place bytes buffers q b (inl differ) = by-one who q (λ is. absurd (differ is)) (λ apart not. ap (λ own. buffers_by own true (Fill who buffer place bytes) (buffers q) b) not)
after-others who buffer place bytes buffers q b (inr differ) = by-other (same who q) who buffer place bytes (buffers q) b differ

-- ---- the whole

hands-filled : (names : Names) (mem mem' : Memory) (held : List Held) → ((p : Place) → is_lent_at mem' p ≡ is_lent_at mem p) → length mem' ≡ length mem → AreAtHand names mem held → AreAtHand names mem' held
hands-filled names mem mem' [] lent areas hands = tt
hands-filled names mem mem' (h ∷ held) lent areas hands = (
  hands.0,
  record { place = subst (λ k. IsPlaceIn k h.place) (sym areas) hands.1.place; kept = lent h.place ∙ hands.1.kept },
  hands.2,
  hands-filled names mem mem' held lent areas hands.3,
)

-- what is said of a memory where buffers that are not lent have other bytes
pub record FillLaws (m : Mediated) (mem mem' : Memory) (inboxes : Inboxes) (names : Names) : Type 0 where
  pub memory : IsInMemory m mem'
  pub unheld : AreUnheld m names mem'
  pub received : received_frames mem' m.receive ≡ received_frames mem m.receive
  pub unsent : unsent_frames mem' m.transmit ≡ unsent_frames mem m.transmit
  pub heard : completed Receive mem' m.receive ≡ completed Receive mem m.receive
  pub sent : completed Transmit mem' m.transmit ≡ completed Transmit mem m.transmit
  pub frames : (q : Instance) → frames_of mem' inboxes q ≡ frames_of mem inboxes q

-- a buffer at home is not lent
pub lent-stays : (names : Names) (mem mem' : Memory) (s : Outgoing) (who : Instance) (buffer : ℕ) → AreParted names mem → AreAtHand names mem (held_to_send s) → AreFilled (held_of (home_by s who buffer)) mem mem'
    → (p : Place) → IsLent mem p → buffer_at mem' p ≡ buffer_at mem p
lent-stays names mem mem' s who buffer parted hands filled p lent =
    filled.others p lent.place (not-true (has_place (held_of (home_by s who buffer)) p) (λ there.
    let kept = parted.kept (held_to_send s) p hands (placed-front p (gathered homes_of s.homes) (gathered held_waiting s.waiting) (home-placed s.homes who buffer p there)) in
    let clash : true ≡ false = sym lent.lent ∙ kept.kept in cc))

-- nor is it one of an inbox
pub unsent-stays : (mem mem' : Memory) (s : Outgoing) (who : Instance) (buffer : ℕ) → AreFilled (held_of (home_by s who buffer)) mem mem'
    → (p : Place) → IsKept mem p → has_place (held_to_send s) p ≡ false → buffer_at mem' p ≡ buffer_at mem p
unsent-stays mem mem' s who buffer filled p kept none =
    filled.others p kept.place (not-true (has_place (held_of (home_by s who buffer)) p) (λ there.
    let clash : true ≡ false = sym (placed-front p (gathered homes_of s.homes) (gathered held_waiting s.waiting) (home-placed s.homes who buffer p there)) ∙ none in cc))

-- a lent buffer stays so
pub still-lent : (mem mem' : Memory) (held : List Held) → AreFilled held mem mem' → (p : Place) → IsLent mem p → IsLent mem' p
still-lent mem mem' held filled p lent = record { place = subst (λ k. IsPlaceIn k p) (sym filled.areas) lent.place; lent = filled.lent p ∙ lent.lent }

pub filled-safe : (t : NetState) (mem' : Memory) (who : Instance) (buffer : ℕ) → IsSafe t → AreFilled (held_of (home_by t.sends who buffer)) t.mem mem' → FillLaws t.med t.mem mem' t.inboxes t.names → IsSafe (with_mem mem' t)
filled-safe t mem' who buffer safe filled laws = record {
  memory = laws.memory;
  owned = safe.owned;
  unheld = laws.unheld;
  hands = hands-filled t.names t.mem mem' (hands_of t) filled.lent filled.areas safe.hands;
  beside = safe.beside;
  sending = safe.sending;
  posts = safe.posts;
  told = safe.told ∙ sym laws.sent;
}

pub answered : (r : Option Rule) → Ok tt ≡ answer_of r → r ≡ None
answered None is = refl
answered (Some rule) is = absurd (cc is)

err-same : (x y : Rule) → Err x ≡ answer_of (Some y) → y ≡ x
err-same x y is = let f : Result Unit Rule → Rule = unwrap x in sym (ap f is)
  where
    unwrap : Rule → Result Unit Rule → Rule
    unwrap d (Ok z) = d
    unwrap d (Err z) = z

pub refused : (r : Option Rule) (rule : Rule) → Err rule ≡ answer_of r → r ≡ Some rule
refused None rule is = absurd (cc is)
refused (Some x) rule is = ap (λ y. Some y) (err-same rule x is)

not-away : (o : Option Held) (place len : ℕ) → fill_rule (not (is_some o)) place len ≡ None → is_some o ≡ true
not-away None place len is = absurd (cc is)
not-away (Some h) place len is = refl

-- the journal's buffers, and which are away, are the same in other words
posted-agree : (life : Instance → Life) (sends : List Send) (buffers buffers' : Instance → ℕ → List ℕ) (mem : Memory) (posts : List Post) (held : List Held) → ((q : Instance) (b : ℕ) → buffers' q b ≡ buffers q b)
    → ArePosted life sends buffers mem posts held → ArePosted life sends buffers' mem posts held
posted-agree life sends buffers buffers' mem [] [] agree ring = tt
posted-agree life sends buffers buffers' mem [] (h ∷ held) agree ring = absurd ring
posted-agree life sends buffers buffers' mem (post ∷ posts) [] agree ring = absurd ring
posted-agree life sends buffers buffers' mem (post ∷ posts) (h ∷ held) agree ring = (
  record { send = ring.0.send; holds = record { started = ring.0.holds.started; bytes = λ alive. ring.0.holds.bytes alive ∙ sym (agree post.who post.buffer) } },
  posted-agree life sends buffers buffers' mem posts held agree ring.1,
)

pub buffers-agree : (life : Instance → Life) (sends : List Send) (buffers buffers' : Instance → ℕ → List ℕ) (away away' : Instance → ℕ → Bool) (homes : HomeTable) (waiting : List (Option Waiting)) (posted : List Post) (held : List Held) (mem : Memory)
    → ((q : Instance) (b : ℕ) → buffers' q b ≡ buffers q b) → ((q : Instance) (b : ℕ) → away' q b ≡ away q b)
    → BuffersStand life sends buffers away homes waiting posted held mem → BuffersStand life sends buffers' away' homes waiting posted held mem
buffers-agree life sends buffers buffers' away away' homes waiting posted held mem agree gone s = record {
  size = s.size;
  away_is = λ p b alive low. gone p b ∙ s.away_is p b alive low;
  used = s.used;
  home = λ p b h alive is. s.home p b h alive is ∙ sym (agree p b);
  waits_for = λ number w is. waiting-filled life sends buffers buffers' mem mem number w refl (agree w.who w.buffer) (s.waits_for number w is);
  ring = posted-agree life sends buffers buffers' mem posted held agree s.ring;
}

by-none : (own : Bool) (who : Instance) (buffer place : ℕ) (bytes : List ℕ) (old : ℕ → List ℕ) (b : ℕ) → buffers_by own false (Fill who buffer place bytes) old b ≡ old b
by-none true who buffer place bytes old b = refl
by-none false who buffer place bytes old b = refl

-- a fill that is refused
pub refused-serves : (local : Local) (life : Instance → Life) (remote : Instance → Endpoint) (n : Network) (t : NetState) (regs : Registers) (log : List LogEntry) (who : Instance) (buffer place : ℕ) (bytes : List ℕ) (rule : Rule)
    → NetStands life remote n t → AreRegisters local n regs → life who ≡ Alive → buffer < 4 → fill_rule (is_away t.sends who buffer) place (length bytes) ≡ Some rule
    → NetMakes local life remote n (Fill who buffer place bytes) (denied rule) t regs log log
refused-serves local life remote n t regs log who buffer place bytes rule s each lives low breaks =
    let n' : Network = network_by false (Fill who buffer place bytes) (denied rule) [] n in
    record {
      outcome = sym (ap (λ away. answer (fill_rule away place (length bytes))) (s.buffers.away_is who buffer lives low) ∙ ap answer breaks);
      stands = record {
        rings = s.rings;
        ears = s.ears;
        unread = s.unread;
        closed = s.closed;
        unsending = s.unsending;
        counts = counts-moved n n' t.sends refl refl refl s.counts;
        buffers = buffers-agree life n.sends n.buffers n'.buffers n.away n'.away t.sends.homes t.sends.waiting (posted_in t.sends) t.med.transmit.held t.mem (λ q b. by-none (same who q) who buffer place bytes (n.buffers q) b) (λ q b. refl) s.buffers;
        unsent = s.unsent;
        areas = s.areas;
      };
      registers = each;
      log = refl;
    }

pub filled-serves : (local : Local) (life : Instance → Life) (remote : Instance → Endpoint) (n : Network) (t : NetState) (mem' : Memory) (regs : Registers) (log : List LogEntry) (who : Instance) (buffer place : ℕ) (bytes : List ℕ)
    → IsSafe t → NetStands life remote n t → AreRegisters local n regs → life who ≡ Alive → buffer < 4 → fill_rule (is_away t.sends who buffer) place (length bytes) ≡ None → AreParted t.names t.mem → AreAtHand t.names t.mem (held_to_send t.sends)
    → bytes_of mem' (home_by t.sends who buffer) ≡ overlaid place bytes (bytes_of t.mem (home_by t.sends who buffer)) → AreFilled (held_of (home_by t.sends who buffer)) t.mem mem' → FillLaws t.med t.mem mem' t.inboxes t.names
    → NetMakes local life remote n (Fill who buffer place bytes) (accepted []) (with_mem mem' t) regs log log
filled-serves local life remote n t mem' regs log who buffer place bytes safe s each lives low none parted hands own filled laws =
    let n' : Network = network_by true (Fill who buffer place bytes) (accepted []) [] n in
    let own_bytes : (h : Held) → home_by t.sends who buffer ≡ Some h → buffer_at mem' h.place ≡ buffers_after who buffer place bytes n.buffers who buffer = λ h is.
    ap (bytes_of mem') (sym is) ∙ own ∙ ap (λ o. overlaid place bytes (bytes_of t.mem o)) is ∙ ap (overlaid place bytes) (s.buffers.home who buffer h lives is) ∙ sym (after-own who buffer place bytes n.buffers) in
    record {
      outcome = sym (ap (λ away. answer (fill_rule away place (length bytes))) (s.buffers.away_is who buffer lives low) ∙ ap answer none);
      stands = record {
        rings = record { receive = s.rings.receive; transmit = s.rings.transmit; names = s.rings.names; turns = s.rings.turns; heard = s.rings.heard ∙ sym laws.heard; pending = s.rings.pending ∙ sym laws.received; sent = s.rings.sent ∙ sym laws.sent };
        ears = s.ears;
        unread = λ p alive. laws.frames p ∙ s.unread p alive;
        closed = s.closed;
        unsending = s.unsending;
        counts = counts-moved n n' t.sends refl refl refl s.counts;
        buffers = buffers-filled t.names life n.sends n.buffers (buffers_after who buffer place bytes n.buffers) n.away t.sends.homes t.sends.waiting (posted_in t.sends) t.med.transmit.held t.mem mem' who buffer parted hands
            filled.others (λ p there. lent-stays t.names t.mem mem' t.sends who buffer parted hands filled p (ring-lent t.med t.mem p safe.memory there)) (after-others who buffer place bytes n.buffers) own_bytes
            (not-away (home_by t.sends who buffer) place (length bytes) none) lives low s.buffers;
        unsent = laws.unsent ∙ s.unsent;
        areas = s.areas ∙ sym filled.areas;
      };
      registers = each;
      log = refl;
    }
