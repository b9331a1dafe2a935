-- The sends that were accepted: those that wait to be posted, and those that were posted.
use Rattle.std.specs.Prelude.{◌≡◌, ℕ, List, ◌++◌, Bool, not, is_some}
use Rattle.std.specs.Prelude.{length, take, drop, slice_index_or, Option, Some, None}
use Rattle.std.specs.Prelude.{Result, Ok, Err}
use Rattle.ibos_kinds.specs.declared.names.Instance.{Instance}
use Rattle.ibos_kinds.specs.declared.rule.Rule.{Rule}
use Rattle.ibos_pool.specs.Memory.{Memory, buffer_at}
use Rattle.ibos_pool.specs.Names.{Held}
use Rattle.ibos_mediate.specs.Mediated.{Mediated}
use Rattle.ibos_send.specs.declared.sending.Post.{Post}
use Rattle.ibos_send.specs.declared.sending.Waiting.{Waiting}
use Rattle.ibos_send.specs.declared.fault.SendFault.{SendFault}
use Rattle.ibos_send.specs.declared.fault.SendFault.TheVariants.{Denied, Memory as NoMemory}
use Rattle.ibos_send.specs.Buffers.{Homes, Table, gathered, held_at_home, home_in, homes_in}
pub use Rattle.ibos_send.specs.Lists.{held_waiting, numbers_of}

-- homes: the buffers that are at home
-- waiting: one place for each send that was accepted, with those that were not posted
-- posts: the sends that were posted, in the order of their posts
-- returned, told: how many of these came back, and were told as sent
pub record Outgoing : Type 0 where
  pub homes : Table
  pub waiting : List (Option Waiting)
  pub posts : List Post
  pub returned : ℕ
  pub told : ℕ

-- ---- instances and their buffers

abbrev pub homes_by : Outgoing → Instance → Option Homes
homes_by s who = homes_in s.homes who

-- an instance was added and not ended
abbrev pub is_open : Outgoing → Instance → Bool
is_open s who = is_some (homes_by s who)

-- the buffer of that number, where it is at home
abbrev pub home_by : Outgoing → Instance → ℕ → Option Held
home_by s who buffer = home_in s.homes who buffer

-- an accepted send has the buffer, and it did not come back
abbrev pub is_away : Outgoing → Instance → ℕ → Bool
is_away s who buffer = not (is_some (home_by s who buffer))

-- ---- sends

-- how many sends were accepted; they are numbered in this order, from 0
abbrev pub count_of : Outgoing → ℕ
count_of s = length s.waiting

-- the send of that number, where it was accepted and not posted
abbrev pub waiting_at : Outgoing → ℕ → Option Waiting
waiting_at s number = slice_index_or s.waiting number None

abbrev pub is_waiting : Outgoing → ℕ → Bool
is_waiting s number = is_some (waiting_at s number)

-- the frame of a send that waits: what its buffer begins with
abbrev pub frame_in : Memory → Waiting → List ℕ
frame_in mem w = take w.len (buffer_at mem w.loan.place)

-- the sends whose buffers are in the ring, the oldest first
abbrev pub posted_in : Outgoing → List Post
posted_in s = drop s.returned s.posts

-- the numbers of those that were not told as sent
abbrev pub untold_of : Outgoing → List ℕ
untold_of s = numbers_of (drop s.told s.posts)

-- ---- buffers at hand

-- all buffers at hand: those at home, and those of sends that wait
abbrev pub held_in : Outgoing → List Held
held_in s = held_at_home s.homes ++ gathered held_waiting s.waiting

-- ---- what the mediator keeps beside

-- The transmit ring has the posts of these sends, and as many were taken back.
pub record IsInRing (s : Outgoing) (m : Mediated) : Type 0 where
  pub posted : m.transmit.values.posted ≡ length s.posts
  pub taken : m.transmit.values.taken ≡ s.returned

-- ---- answers

-- nothing, or the rule that was broken
abbrev pub answer_of : Option Rule → Result Unit Rule
answer_of None = Ok tt
answer_of (Some rule) = Err rule

-- the first broken rule; memory is wanted only where none is broken
abbrev pub Submits : Result Unit SendFault → Option Rule → Type 0
Submits (Ok x) rule = rule ≡ None
Submits (Err (Denied r)) rule = rule ≡ Some r
Submits (Err NoMemory) rule = rule ≡ None

abbrev pub OnDenied : Result Unit SendFault → Type 0 → Type 0
OnDenied (Ok x) P = Unit {0}
OnDenied (Err (Denied r)) P = P
OnDenied (Err NoMemory) P = Unit {0}

-- the sends of new are those of old
pub record AreSameSends (old new : Outgoing) : Type 0 where
  pub waiting : new.waiting ≡ old.waiting
  pub posts : new.posts ≡ old.posts
  pub returned : new.returned ≡ old.returned
  pub told : new.told ≡ old.told
