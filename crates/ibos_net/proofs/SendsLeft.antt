-- What leaves the sends and the transmit ring leaves what stands of them.
use Rattle.std.proofs.Common.{refl, sym, ◌∙◌, ap, subst, arith}
use Rattle.ibos_net.proofs.Words.{ℕ, ◌≡◌, ◌≢◌, ◌+◌, ◌==◌, ◌&&◌, ◌<◌, true, List, not, length, nat_lt, list_any, map, drop, frame_of_send, send_at, unsent_sends, BuffersStand, CountsStand, Heard, Filtered, Missed, Verdict, Ok, Instance, IsHeard, IsInMemory, IsInRing, IsOpen, IsPlaceIn, Life, LogEntry, Mediated, Memory, Network, NetState, Outgoing, Place, Receive, Transmit, RingView, Registers, buffer_at, completed, has_place, held_to_send, place_for, posted_in}
use Rattle.ibos_mediate.specs.Frames.{unsent_frames}
use Rattle.ibos_mediate.specs.Mediated.{IsBalanced}
use Rattle.ibos_nic.specs.Device.{OnHeard, OnUnheard}
use Rattle.ibos_net.proofs.BuffersStay.{buffers-stay, lent-at, ring-lent}

pub record SendsLeft (m m' : Mediated) (mem mem' : Memory) (s : Outgoing) : Type 0 where
  pub held : m'.transmit.held ≡ m.transmit.held
  pub done : completed Transmit mem' m'.transmit ≡ completed Transmit mem m.transmit
  pub unsent : unsent_frames mem' m'.transmit ≡ unsent_frames mem m.transmit
  pub home : (p : Place) → has_place (held_to_send s) p ≡ true → buffer_at mem' p ≡ buffer_at mem p
  pub lent : (p : Place) → has_place m.transmit.held p ≡ true → buffer_at mem' p ≡ buffer_at mem p
  pub posts : IsInRing s m → IsInRing s m'

pub left-buffers : (m m' : Mediated) (mem mem' : Memory) (s : Outgoing) (life : Instance → Life) (n : Network) → SendsLeft m m' mem mem' s
    → BuffersStand life n.sends n.buffers n.away s.homes s.waiting (posted_in s) m.transmit.held mem → BuffersStand life n.sends n.buffers n.away s.homes s.waiting (posted_in s) m'.transmit.held mem'
left-buffers m m' mem mem' s life n left stand =
    subst (λ held. BuffersStand life n.sends n.buffers n.away s.homes s.waiting (posted_in s) held mem') (sym left.held)
    (buffers-stay life n.sends n.buffers n.away s.homes s.waiting (posted_in s) m.transmit.held mem mem' left.home left.lent stand)

-- the counts look at the posts, at how many of them were sent, and at how many sends there are
pub counts-moved : (n n' : Network) (s : Outgoing) → n'.sends ≡ n.sends → n'.rings.posts ≡ n.rings.posts → n'.rings.sent ≡ n.rings.sent → CountsStand n s → CountsStand n' s
counts-moved n n' s sends posts sent c = record {
  count = c.count ∙ ap length (sym sends);
  posts = posts ∙ c.posts;
  told = sent ∙ c.told;
  waiting = λ send. c.waiting send ∙ ap (λ xs. nat_lt send (length xs) && not (list_any (λ k. k == send) n.rings.posts)) (sym sends)
      ∙ ap (λ ps. nat_lt send (length n'.sends) && not (list_any (λ k. k == send) ps)) (sym posts);
  below = λ send there. subst (λ xs. send < length xs) (sym sends) (c.below send (subst (λ ps. list_any (λ k. k == send) ps ≡ true) posts there));
}

pub unsent-moved : (n n' : Network) → n'.sends ≡ n.sends → n'.rings.posts ≡ n.rings.posts → n'.rings.sent ≡ n.rings.sent → unsent_sends n' ≡ unsent_sends n
unsent-moved n n' sends posts sent =
    ap (λ xs. map (λ k. frame_of_send (send_at xs k)) (drop n'.rings.sent n'.rings.posts)) sends ∙ ap (λ ps. map (λ k. frame_of_send (send_at n.sends k)) (drop n'.rings.sent ps)) posts
    ∙ ap (λ k. map (λ k. frame_of_send (send_at n.sends k)) (drop k n.rings.posts)) sent

-- nothing is written
pub left-same : (m : Mediated) (mem mem' : Memory) (s : Outgoing) → mem' ≡ mem → SendsLeft m m mem mem' s
left-same m mem mem' s is = record {
  held = refl;
  done = ap (λ x. completed Transmit x m.transmit) is;
  unsent = ap (λ x. unsent_frames x m.transmit) is;
  home = λ p there. ap (λ x. buffer_at x p) is;
  lent = λ p there. ap (λ x. buffer_at x p) is;
  posts = λ posts. posts;
}

-- so many frames are sent as are not to be sent any more
pub done-by : (mem mem' : Memory) (r : RingView) → ((x : Memory) (v : RingView) → IsBalanced v → completed Transmit x v + length (unsent_frames x v) ≡ v.values.posted) → IsBalanced r
    → unsent_frames mem' r ≡ unsent_frames mem r → completed Transmit mem' r ≡ completed Transmit mem r
done-by mem mem' r counted balanced same =
    let one = counted mem r balanced in
    let other = counted mem' r balanced in
    let long : length (unsent_frames mem' r) ≡ length (unsent_frames mem r) = ap length same in
    omega (arith, one, other, long)

-- a frame is heard: it is written into a buffer of the receive ring
pub heard-left : (m : Mediated) (mem mem' : Memory) (s : Outgoing) → IsInMemory m mem → IsInMemory m mem' → ((x : Memory) (v : RingView) → IsBalanced v → completed Transmit x v + length (unsent_frames x v) ≡ v.values.posted)
    → completed Receive mem' m.receive ≡ completed Receive mem m.receive + 1 → unsent_frames mem' m.transmit ≡ unsent_frames mem m.transmit
    → ((p : Place) → has_place (held_to_send s) p ≡ true → buffer_at mem' p ≡ buffer_at mem p)
    → ((p : Place) → IsPlaceIn (length mem) p → p ≢ place_for m.receive (completed Receive mem m.receive) → buffer_at mem' p ≡ buffer_at mem p)
    → SendsLeft m m mem mem' s
heard-left m mem mem' s memory memory' law counted unsent kept others = record {
  held = refl;
  done = done-by mem mem' m.transmit law (memory.ring Transmit).balanced unsent;
  unsent = unsent;
  home = kept;
  lent = λ p there.
      let ring = memory.ring Receive in
      let ring' = memory'.ring Receive in
      let first = ring.taken in
      let most = ring'.rung in
      let rung = ring.balanced.posted in
      let number : ℕ = completed Receive mem m.receive in
      let within : IsOpen m.receive number = (first, omega (arith, most, rung, counted)) in
      let found = lent-at m mem p memory there in
      others p (ring-lent m mem p memory there).place (λ same.
      let both = memory.apart Receive Transmit number found.0 within found.1 (sym same ∙ sym found.2) in
      let clash : Receive ≡ Transmit = both.0 in cc);
  posts = λ posts. posts;
}

pub arrived-left : (t : NetState) (mem' : Memory) (regs : Registers) (frame : List ℕ) (log log' : List LogEntry) (verdict : Verdict) → OnHeard (Ok verdict) (IsHeard t.mem mem' regs frame log log') → OnUnheard (Ok verdict) (mem' ≡ t.mem)
    → (Heard ≡ verdict → (h : IsHeard t.mem mem' regs frame log log') → SendsLeft t.med t.med t.mem mem' t.sends) → SendsLeft t.med t.med t.mem mem' t.sends
arrived-left t mem' regs frame log log' Filtered heard same law = left-same t.med t.mem mem' t.sends same
arrived-left t mem' regs frame log log' Missed heard same law = left-same t.med t.mem mem' t.sends same
arrived-left t mem' regs frame log log' Heard heard same law = law refl heard
