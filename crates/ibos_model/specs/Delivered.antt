-- What a journal delivers to a party: the heads of its acts, and the items to it.
use Rattle.std.specs.Prelude.{List, [], ◌∷◌, ◌++◌, map, filter, if◌then◌else◌}
use Rattle.ibos_kinds.specs.declared.outcome.Head.{Head}
use Rattle.ibos_kinds.specs.declared.outcome.Item.{Item}
use Rattle.ibos_kinds.specs.declared.party.Party.{Party}
use Rattle.ibos_kinds.specs.Parties.{is_by, is_to}
use Rattle.ibos_model.specs.Folds.{in_order}
use Rattle.ibos_model.specs.Journal.{Entry, Journal}

pub data Delivery : Type 0 where
  Answer : (head : Head) → Delivery
  Told : (item : Item) → Delivery

abbrev pub told : Party → List Item → List Delivery
told party items = map Told (filter (is_to party) items)

abbrev pub told_at : Party → Entry → List Delivery
told_at party e = (if is_by party e.act then Answer e.outcome.head ∷ [] else [])
    ++ told party e.outcome.items

abbrev pub delivered : Party → Journal → List Delivery
delivered party J = in_order (λ before e. told_at party e) J
