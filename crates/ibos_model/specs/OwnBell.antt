-- A receive bell for one instance, from its own frames alone.
use Rattle.std.specs.Prelude.{ℕ, List, [], ◌∷◌, ◌++◌, Bool, false, Option, Some, None, Result, Ok}
use Rattle.std.specs.Prelude.{Err}
use Rattle.ibos_kinds.specs.declared.names.Instance.{Instance}
use Rattle.ibos_kinds.specs.declared.names.Local.{Local}
use Rattle.ibos_kinds.specs.declared.rule.Rule.{Rule}
use Rattle.ibos_kinds.specs.declared.outcome.Item.{Item}
use Rattle.ibos_kinds.specs.declared.outcome.Item.TheVariants.{Arrived}
use Rattle.ibos_kinds.specs.Bells.{Aim, aim_of, frame_rule, unread_after}
use Rattle.ibos_kinds.specs.Flows.{Bound}
use Rattle.ibos_kinds.specs.Parties.{same}

abbrev pub is_aimed : Instance → Result Aim Rule → Bool
is_aimed p (Ok aim) = same aim.who p
is_aimed p (Err rule) = false

-- the frame breaks no rule by itself, and its local port is one of the instance's
abbrev pub is_for : Local → Instance → List ℕ → Bool
is_for local p w = is_aimed p (aim_of local w)

abbrev pub own_item : Option Rule → Instance → ℕ → List ℕ → List Item
own_item None p flow w = Arrived p flow w ∷ []
own_item (Some rule) p flow w = []

abbrev pub own_heard : Instance → Option Bound → ℕ → List ℕ → Result Aim Rule → List Item
own_heard p ear unread w (Ok aim) = own_item (frame_rule ear unread aim) p aim.flow w
own_heard p ear unread w (Err rule) = []

abbrev pub own_unread : Option Bound → ℕ → Result Aim Rule → ℕ
own_unread ear unread (Ok aim) = unread_after (frame_rule ear unread aim) unread
own_unread ear unread (Err rule) = unread

unfoldable pub own_bell : Local → Instance → Option Bound → ℕ → List (List ℕ) → List Item
own_bell local p ear unread [] = []
own_bell local p ear unread (w ∷ ws) = own_heard p ear unread w (aim_of local w)
    ++ own_bell local p ear (own_unread ear unread (aim_of local w)) ws
