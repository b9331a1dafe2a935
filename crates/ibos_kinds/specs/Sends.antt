-- Transmit buffers, and the frames that are sent from them: what a process may write, what it may
-- have sent, and what a transmit bell tells. There is no ring, descriptor or memory in it.
use Rattle.std.specs.Prelude.{ℕ, ◌+◌, List, [], ◌∷◌, ◌++◌, Bool, ◌==◌, ◌||◌, not, nat_lt, length}
use Rattle.std.specs.Prelude.{take, drop, replicate, slice_get, Option, Some, None, Result, Ok, Err}
use Rattle.std.specs.Prelude.{if◌then◌else◌}
use Rattle.ibos_kinds.specs.declared.names.Dir.TheVariants.{Out}
use Rattle.ibos_kinds.specs.declared.names.Heading.{Heading}
use Rattle.ibos_kinds.specs.declared.names.Instance.{Instance}
use Rattle.ibos_kinds.specs.declared.names.Local.{Local}
use Rattle.ibos_kinds.specs.declared.rule.Rule.{Rule}
use Rattle.ibos_kinds.specs.declared.rule.Rule.TheVariants.{F12, N3, N4, N5}
use Rattle.ibos_kinds.specs.declared.outcome.Item.{Item}
use Rattle.ibos_kinds.specs.declared.outcome.Item.TheVariants.{Home, Returned}
use Rattle.ibos_kinds.specs.Flows.{Bound, admitted_by}
use Rattle.ibos_kinds.specs.Judged.{judged}
use Rattle.ibos_kinds.specs.Parties.{same}
use Rattle.ibos_kinds.specs.Ports.{owner_of}

-- a send that was accepted: whose it is, the buffer that it is sent from, and its frame
pub record Send : Type 0 where
  pub who : Instance
  pub buffer : ℕ
  pub bytes : List ℕ

-- the send with that number; they are numbered from 0, in the order in which they were accepted
abbrev pub send_at : List Send → ℕ → Option Send
send_at sends number = slice_get sends number

-- ---- what is written

-- a buffer at the start of its instance
abbrev pub fresh_buffer : List ℕ
fresh_buffer = replicate 2048 0

-- bytes over those that are there, from a place on
abbrev pub overlaid : ℕ → List ℕ → List ℕ → List ℕ
overlaid place bytes old = take place old ++ (bytes ++ drop (place + length bytes) old)

-- N3: the buffer is away. N5: the bytes pass its end
abbrev pub fill_rule : Bool → ℕ → ℕ → Option Rule
fill_rule away place len =
    if away then Some N3
    else if nat_lt 2048 (place + len) then Some N5
    else None

-- ---- what is sent

-- a heading at the flow of the instance that has its port
abbrev pub checked_by : Instance → Option Bound → Option (Instance × ℕ) → Heading → Result ℕ Rule
checked_by who bound None heading = Err F12
checked_by who bound (Some (owner, flow)) heading =
    if same owner who then admitted_by bound flow heading else Err F12

abbrev pub broken_of : {A : Type 0} → Result A Rule → Option Rule
broken_of (Ok x) = None
broken_of (Err rule) = Some rule

-- F12, F13: no open flow of the instance has the heading, by what it has bound
abbrev pub flow_rule : Instance → Option Bound → Result Heading Rule → Option Rule
flow_rule who bound (Ok heading) =
    broken_of (checked_by who bound (owner_of heading.port) heading)
flow_rule who bound (Err rule) = Some rule

-- the first rule that keeps a frame of an instance from being sent: F1 to F11, F15, F12, F13
unfoldable pub sending_rule : Local → Instance → Option Bound → List ℕ → Option Rule
sending_rule local who bound w = flow_rule who bound (judged local Out w)

-- the frame is what the buffer begins with. N4: it has not 42 to 1,514 bytes
abbrev pub submit_rule : Local → Instance → Option Bound → Bool → ℕ → List ℕ → Option Rule
submit_rule local who bound away len buffer =
    if away then Some N3
    else if nat_lt len 42 || nat_lt 1514 len then Some N4
    else sending_rule local who bound (take len buffer)

-- ---- what comes back

-- a buffer is its sender's again where the sender has not ended
abbrev pub home_items : (Instance → Bool) → Option Send → List Item
home_items ended None = []
home_items ended (Some send) =
    if ended send.who then [] else Home send.who send.buffer ∷ []

-- the items of a transmit bell over the sends with these numbers
unfoldable pub returned_items : (Instance → Bool) → List Send → List ℕ → List Item
returned_items ended sends [] = []
returned_items ended sends (number ∷ numbers) = Returned number
    ∷ (home_items ended (send_at sends number) ++ returned_items ended sends numbers)

-- the instance's buffer, if the send is its
abbrev pub home_of : Instance → Option Send → List ℕ
home_of p None = []
home_of p (Some send) = if same send.who p then send.buffer ∷ [] else []

-- the instance's buffers among the sends with these numbers
unfoldable pub homes_of : Instance → List Send → List ℕ → List ℕ
homes_of p sends [] = []
homes_of p sends (number ∷ numbers) = home_of p (send_at sends number) ++ homes_of p sends numbers

-- the frame of a send
abbrev pub frame_of_send : Option Send → List ℕ
frame_of_send None = []
frame_of_send (Some send) = send.bytes
