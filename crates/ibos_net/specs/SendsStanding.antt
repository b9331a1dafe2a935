-- Buffers and sends that stand for what a journal says of them.
use Rattle.std.specs.Prelude.{ℕ, ◌≡◌, ◌≢◌, ◌+◌, ◌<◌, ◌==◌, ◌&&◌, List, [], ◌∷◌, Bool, true, not}
use Rattle.std.specs.Prelude.{length, map, drop, is_some, slice_index_or, Option, Some, None}
use Rattle.std.specs.Prelude.{if◌then◌else◌}
use Rattle.std.specs.List.{list_any}
use Rattle.ibos_kinds.specs.declared.names.Instance.{Instance}
use Rattle.ibos_kinds.specs.Parties.{same}
use Rattle.ibos_kinds.specs.Sends.{Send, frame_of_send, send_at}
use Rattle.ibos_pool.specs.Memory.{Memory, buffer_at}
use Rattle.ibos_pool.specs.Names.{Held}
use Rattle.ibos_send.specs.declared.sending.Post.{Post}
use Rattle.ibos_send.specs.declared.sending.Waiting.{Waiting}
use Rattle.ibos_send.specs.Buffers.{Table, home_in, homes_in, size_of}
use Rattle.ibos_send.specs.Sends.{Outgoing, count_of, frame_in, is_waiting, numbers_of}
use Rattle.ibos_model.specs.Network.{Network, waits}
use Rattle.ibos_model.specs.Tabs.{Life, Unborn, Alive}

-- The sends are numbered as in the journal, and as many were posted and told as sent. Those wait
-- that were accepted and not posted.
pub record CountsStand (n : Network) (s : Outgoing) : Type 0 where
  pub count : count_of s ≡ length n.sends
  pub posts : n.rings.posts ≡ numbers_of s.posts
  pub told : n.rings.sent ≡ s.told
  pub waiting : (send : ℕ) → is_waiting s send ≡ waits n send
  pub below : (send : ℕ) → list_any (λ k. k == send) n.rings.posts ≡ true → send < length n.sends

-- the frames of the sends that were posted and are not sent
abbrev pub unsent_sends : Network → List (List ℕ)
unsent_sends n = map (λ k. frame_of_send (send_at n.sends k)) (drop n.rings.sent n.rings.posts)

-- ---- how many sends have a buffer

abbrev pub is_from : Instance → ℕ → Instance → ℕ → Bool
is_from p b who buffer = same who p && buffer == b

abbrev pub one_if : Bool → ℕ
one_if is = if is then 1 else 0

-- of those that wait
abbrev pub waiting_from : Instance → ℕ → List (Option Waiting) → ℕ
waiting_from p b [] = 0
waiting_from p b (None ∷ ws) = waiting_from p b ws
waiting_from p b (Some w ∷ ws) = one_if (is_from p b w.who w.buffer) + waiting_from p b ws

-- of those that were posted
abbrev pub posted_from : Instance → ℕ → List Post → ℕ
posted_from p b [] = 0
posted_from p b (post ∷ posts) = one_if (is_from p b post.who post.buffer) + posted_from p b posts

-- ---- what the buffers have

-- a buffer at a place is an instance's that started; its bytes are the journal's while it lives
pub record HoldsFor (life : Instance → Life) (buffers : Instance → ℕ → List ℕ) (mem : Memory)
    (who : Instance) (buffer : ℕ) (h : Held) : Type 0 where
  pub started : life who ≢ Unborn
  pub bytes : life who ≡ Alive → buffer_at mem h.place ≡ buffers who buffer

-- a send waits that was accepted, with its frame
pub record IsWaitingFor (life : Instance → Life) (sends : List Send)
    (buffers : Instance → ℕ → List ℕ) (mem : Memory) (number : ℕ) (w : Waiting) : Type 0 where
  pub send : send_at sends number ≡ Some (record {
    who = w.who;
    buffer = w.buffer;
    bytes = frame_in mem w;
  })
  pub holds : HoldsFor life buffers mem w.who w.buffer w.loan

-- a send was posted that was accepted, and the buffer in the ring is its
pub record IsPostedFor (life : Instance → Life) (sends : List Send)
    (buffers : Instance → ℕ → List ℕ) (mem : Memory) (post : Post) (h : Held) : Type 0 where
  pub send : (x : Send) × (send_at sends post.number ≡ Some x) × (x.who ≡ post.who)
      × (x.buffer ≡ post.buffer)
  pub holds : HoldsFor life buffers mem post.who post.buffer h

-- each post in the ring and its buffer, the oldest first
abbrev pub ArePosted : (Instance → Life) → List Send → (Instance → ℕ → List ℕ) → Memory
    → List Post → List Held → Type 0
ArePosted life sends buffers mem [] [] = Unit {0}
ArePosted life sends buffers mem [] (h ∷ held) = ⊥
ArePosted life sends buffers mem (post ∷ posts) [] = ⊥
ArePosted life sends buffers mem (post ∷ posts) (h ∷ held) =
    IsPostedFor life sends buffers mem post h × ArePosted life sends buffers mem posts held

-- Of an instance that lives each buffer is at home, with the journal's bytes, or away with one
-- send, which waits or is in the ring.
-- homes, waiting, posted: the buffers at home, the sends that wait, and the posts in the ring,
-- whose buffers are held
pub record BuffersStand (life : Instance → Life) (sends : List Send)
    (buffers : Instance → ℕ → List ℕ) (away : Instance → ℕ → Bool) (homes : Table)
    (waiting : List (Option Waiting)) (posted : List Post) (held : List Held)
    (mem : Memory) : Type 0 where
  pub size : (p : Instance) → life p ≡ Alive → size_of (homes_in homes p) ≡ 4
  pub away_is : (p : Instance) (b : ℕ) → life p ≡ Alive → b < 4
      → away p b ≡ not (is_some (home_in homes p b))
  pub used : (p : Instance) (b : ℕ) → life p ≡ Alive → b < 4
      → waiting_from p b waiting + posted_from p b posted
      ≡ one_if (not (is_some (home_in homes p b)))
  pub home : (p : Instance) (b : ℕ) (h : Held) → life p ≡ Alive → home_in homes p b ≡ Some h
      → buffer_at mem h.place ≡ buffers p b
  pub waits_for : (number : ℕ) (w : Waiting) → slice_index_or waiting number None ≡ Some w
      → IsWaitingFor life sends buffers mem number w
  pub ring : ArePosted life sends buffers mem posted held
