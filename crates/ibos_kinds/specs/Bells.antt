-- A receive bell: what each frame that was heard gives, in order. There is no ring, descriptor,
-- buffer or inbox in it.
use Rattle.std.specs.Prelude.{ℕ, ◌+◌, List, [], ◌∷◌, ◌++◌, nat_lt, Option, Some, None, Result, Ok}
use Rattle.std.specs.Prelude.{Err, if◌then◌else◌}
use Rattle.ibos_kinds.specs.declared.names.Instance.{Instance}
use Rattle.ibos_kinds.specs.declared.names.Handle.{Handle}
use Rattle.ibos_kinds.specs.declared.names.Heading.{Heading}
use Rattle.ibos_kinds.specs.declared.names.Local.{Local}
use Rattle.ibos_kinds.specs.declared.names.Dir.TheVariants.{In}
use Rattle.ibos_kinds.specs.declared.rule.Rule.{Rule}
use Rattle.ibos_kinds.specs.declared.rule.Rule.TheVariants.{F12, F14}
use Rattle.ibos_kinds.specs.declared.outcome.Item.{Item}
use Rattle.ibos_kinds.specs.declared.outcome.Item.TheVariants.{LentIs, Arrived, Dropped}
use Rattle.ibos_kinds.specs.Flows.{Bound, admitted_by}
use Rattle.ibos_kinds.specs.Judged.{judged}
use Rattle.ibos_kinds.specs.Parties.{same}
use Rattle.ibos_kinds.specs.Ports.{owner_of}

-- where a frame goes by its headers: the flow that has its port
pub record Aim : Type 0 where
  pub who : Instance
  pub flow : ℕ
  pub heading : Heading

abbrev pub aim_at : Option (Instance × ℕ) → Heading → Result Aim Rule
aim_at None heading = Err F12
aim_at (Some (who, flow)) heading = Ok (record { who = who; flow = flow; heading = heading })

abbrev pub aim_by : Result Heading Rule → Result Aim Rule
aim_by (Ok heading) = aim_at (owner_of heading.port) heading
aim_by (Err rule) = Err rule

-- the aim of a frame, or the first rule that it breaks by itself
unfoldable pub aim_of : Local → List ℕ → Result Aim Rule
aim_of local w = aim_by (judged local In w)

-- an instance has room for 16 unread frames
abbrev pub room_rule : ℕ → Option Rule
room_rule unread = if nat_lt unread 16 then None else Some F14

abbrev pub rule_by : Result ℕ Rule → ℕ → Option Rule
rule_by (Ok flow) unread = room_rule unread
rule_by (Err rule) unread = Some rule

-- the first rule that keeps a frame from its instance, by what that has bound and how many of its
-- frames are unread
abbrev pub frame_rule : Option Bound → ℕ → Aim → Option Rule
frame_rule ear unread aim = rule_by (admitted_by ear aim.flow aim.heading) unread

abbrev pub frame_item : Option Rule → Instance → ℕ → List ℕ → Item
frame_item None who flow w = Arrived who flow w
frame_item (Some rule) who flow w = Dropped rule

-- the item of a frame
abbrev pub heard_item : (Instance → Option Bound) → (Instance → ℕ) → List ℕ → Result Aim Rule → Item
heard_item ears unread w (Ok aim) = frame_item (frame_rule (ears aim.who) (unread aim.who) aim)
    aim.who aim.flow w
heard_item ears unread w (Err rule) = Dropped rule

abbrev pub unread_after : Option Rule → ℕ → ℕ
unread_after None n = n + 1
unread_after (Some rule) n = n

abbrev pub at : {A : Type 0} → Instance → A → (Instance → A) → Instance → A
at who x f q = if same who q then x else f q

-- how many frames of each instance are unread after a frame
abbrev pub unread_then : (Instance → Option Bound) → (Instance → ℕ) → Result Aim Rule → Instance → ℕ
unread_then ears unread (Ok aim) = at aim.who (unread_after (frame_rule (ears aim.who)
    (unread aim.who) aim) (unread aim.who)) unread
unread_then ears unread (Err rule) = unread

abbrev pub first_handle : List Handle → Handle
first_handle [] = record { name = 0; turn = 0 }
first_handle (h ∷ hs) = h

abbrev pub other_handles : List Handle → List Handle
other_handles [] = []
other_handles (h ∷ hs) = hs

-- The items of a bell, where the buffers of the frames are the driver's again under these handles:
-- each frame is judged after the frames before it.
unfoldable pub bell : Local → (Instance → Option Bound) → (Instance → ℕ) → List Handle
    → List (List ℕ) → List Item
bell local ears unread hs [] = []
bell local ears unread hs (w ∷ ws) = LentIs (first_handle hs)
    ∷ heard_item ears unread w (aim_of local w)
    ∷ bell local ears (unread_then ears unread (aim_of local w)) (other_handles hs) ws

-- the frames that items deliver
abbrev pub frame_in : Item → List (List ℕ)
frame_in (Arrived who flow w) = w ∷ []
frame_in other = []

abbrev pub frames_in : List Item → List (List ℕ)
frames_in [] = []
frames_in (item ∷ items) = frame_in item ++ frames_in items
