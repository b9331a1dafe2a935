-- The sends that were accepted, without their senders' other buffers.
use Rattle.std.specs.Prelude.{◌≡◌, ℕ, ◌+◌, ◌<◌, ◌≤◌, ◌^◌, List, [], ◌∷◌, ◌++◌, length, map, drop}
use Rattle.std.specs.Prelude.{slice_set, Option, Some, None}
use Rattle.std.specs.List.{All}
use Rattle.ibos_kinds.specs.Limits.{IsNamed}
use Rattle.ibos_pool.specs.Names.{Held}
use Rattle.ibos_send.specs.declared.sending.Post.{Post}
use Rattle.ibos_send.specs.declared.sending.Waiting.{Waiting}
use Rattle.ibos_send.specs.Buffers.{gathered}

-- waiting: one place for each send, with those that were not posted
-- posts: the sends that were posted, in the order of their posts
-- returned, told: how many of these came back, and were told as sent
pub record SendList : Type 0 where
  pub waiting : List (Option Waiting)
  pub posts : List Post
  pub returned : ℕ
  pub told : ℕ

abbrev pub held_waiting : Option Waiting → List Held
held_waiting None = []
held_waiting (Some w) = w.loan ∷ []

-- the numbers of posts
abbrev pub numbers_of : List Post → List ℕ
numbers_of posts = map (λ (post : Post). post.number) posts

abbrev pub untold_in : SendList → List ℕ
untold_in l = numbers_of (drop l.told l.posts)

-- a send that waited is posted
abbrev pub post_of : ℕ → Waiting → Post
post_of number w = record { number = number; who = w.who; buffer = w.buffer }

abbrev pub with_post : ℕ → Waiting → SendList → SendList
with_post number w l = record l {
  waiting = slice_set l.waiting number None;
  posts = l.posts ++ post_of number w ∷ [];
}

-- a frame's length, and a buffer of an instance
abbrev pub IsWaiting : Option Waiting → Type 0
IsWaiting None = Unit {0}
IsWaiting (Some w) = (42 ≤ w.len) × (w.len ≤ 1514) × IsNamed w.who × (w.buffer < 4)

abbrev pub IsPost : Post → Type 0
IsPost post = IsNamed post.who × (post.buffer < 4)

-- what is true of the sends at all times, where there is room for so many posts: each send waits or
-- was posted
pub record IsSendList (l : SendList) (room : ℕ) : Type 0 where
  pub counted : length l.posts + length (gathered held_waiting l.waiting) ≡ length l.waiting
  pub most : length l.waiting ≤ 2 ^ 31
  pub roomy : length l.waiting ≤ room
  pub each : All IsWaiting l.waiting
  pub posts : All IsPost l.posts
