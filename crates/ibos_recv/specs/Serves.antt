-- What a receive bell does beside its items.
use Rattle.std.specs.Prelude.{◌≡◌, ◌≢◌, ℕ, List, ◌∷◌, ◌++◌, false, length, map}
use Rattle.std.specs.Prelude.{Option, None, Some, Result, Ok, Err}
use Rattle.ibos_kinds.specs.declared.names.Instance.{Instance}
use Rattle.ibos_kinds.specs.declared.names.Local.{Local}
use Rattle.ibos_kinds.specs.declared.outcome.Item.{Item}
use Rattle.ibos_kinds.specs.declared.rule.Rule.{Rule}
use Rattle.ibos_kinds.specs.Bells.{Aim, bell, frame_rule}
use Rattle.ibos_kinds.specs.Flows.{Bound}
use Rattle.ibos_pool.specs.declared.name.Name.{Name}
use Rattle.ibos_pool.specs.declared.place.Place.{Place}
use Rattle.ibos_pool.specs.Hands.{AreExchanged, has_name}
use Rattle.ibos_pool.specs.Memory.{IsKept, Memory, bytes_at}
use Rattle.ibos_pool.specs.Names.{Held, IsClaimed, Names, is_taken, place_of}
use Rattle.ibos_mediate.specs.Frames.{Arrival}

-- the items of a bell over what the receive ring has to tell
abbrev pub bell_over : Local → (Instance → Option Bound) → (Instance → ℕ) → List Arrival → List Item
bell_over local ears unread heard = bell local ears unread (map (λ (a : Arrival). a.handle) heard)
    (map (λ (a : Arrival). a.bytes) heard)

-- the instance and the flow that get a frame, or the first rule that keeps it from them
abbrev pub landed : Option Rule → Aim → Result (Instance × ℕ) Rule
landed None aim = Ok (aim.who, aim.flow)
landed (Some rule) aim = Err rule

abbrev pub landing : (Instance → Option Bound) → (Instance → ℕ) → Result Aim Rule
    → Result (Instance × ℕ) Rule
landing ears unread (Ok aim) = landed (frame_rule (ears aim.who) (unread aim.who) aim) aim
landing ears unread (Err rule) = Err rule

-- A loan is passed to these buffers: one of them has the loan's place from then on, and the loan's
-- name has the place of that one.
pub record IsPassed (loan : Held) (held held' : List Held) (pool pool' : Names) : Type 0 where
  pub free : Held
  pub front : List Held
  pub back : List Held
  pub was : held ≡ front ++ free ∷ back
  pub now : held' ≡ front ++ record { name = free.name; place = loan.place } ∷ back
  pub exchanged : AreExchanged pool pool' loan.name free.name

-- What becomes of the loan that a frame lies in: it is given to the pool, as it is where a rule
-- keeps the frame from all instances, and else after it was passed to these buffers.
abbrev pub IsSpent : Result (Instance × ℕ) Rule → Held → List Held → List Held → Names → Names
    → Type 0
IsSpent (Ok r) loan held held' pool pool' = (between : Names)
    × IsPassed loan held held' pool between × IsClaimed between pool' loan.name false
IsSpent (Err rule) loan held held' pool pool' = (held' ≡ held)
    × IsClaimed pool pool' loan.name false

-- A bell leaves which names are taken but for those of receive buffers, and the place of each name
-- that is neither a receive buffer's nor one of these buffers'. It writes no byte.
pub record IsServed (held : List Held) (pool pool' : Names) (mem mem' : Memory) : Type 0 where
  pub names : (name : Name) → name.area ≢ 0 → is_taken pool' name ≡ is_taken pool name
  pub places : (name : Name) → name.area ≢ 0 → has_name held name ≡ false
      → place_of pool' name ≡ place_of pool name
  pub pool_areas : length pool' ≡ length pool
  pub bytes : (from n : ℕ) → bytes_at mem' from n ≡ bytes_at mem from n
  pub kept : (p : Place) → IsKept mem p → IsKept mem' p
  pub areas : length mem' ≡ length mem
