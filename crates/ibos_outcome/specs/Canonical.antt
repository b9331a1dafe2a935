-- Which outcomes are canonical: each field of an item has the range of its meaning, and where there
-- is none any value of its type.
use Rattle.std.specs.Prelude.{◌≡◌, ◌≢◌, ◌≤◌, ◌<◌, ◌^◌, ◌-◌, ◌==◌, ℕ, List, Bool, true, false}
use Rattle.std.specs.Prelude.{length, slice_index, take, codes, All, Result, Err}
use Rattle.std.specs.List.{list_all}
use Rattle.hex.specs.Hex.{IsBytes}
use Rattle.ibos_kinds.specs.declared.outcome.Item.{Item}
use Rattle.ibos_kinds.specs.declared.outcome.Item.TheVariants.{Opened, Moved, Ended, KeyTo, ClickTo}
use Rattle.ibos_kinds.specs.declared.outcome.Item.TheVariants.{Cookies, RowIs, FlowIs}
use Rattle.ibos_kinds.specs.declared.outcome.Item.TheVariants.{Arrived, ValueIs, LentIs, VerdictIs}
use Rattle.ibos_kinds.specs.declared.outcome.Item.TheVariants.{Dropped, Home, SendIs, Returned}
use Rattle.ibos_kinds.specs.declared.outcome.Item.TheVariants.{SentIs, Idle, Accepted, VersionIs}
use Rattle.ibos_kinds.specs.declared.outcome.Item.TheVariants.{RequestIs, Object, NoObject}
use Rattle.ibos_kinds.specs.declared.outcome.Item.TheVariants.{StorePut, StoreAsk}
use Rattle.ibos_kinds.specs.declared.outcome.Outcome.{Outcome}
use Rattle.ibos_kinds.specs.Limits.{IsNamed}
use Rattle.ibos_fields.specs.Printable.{is_printable, IsWord}
use Rattle.ibos_outcome.specs.declared.fault.OutcomeFault.{OutcomeFault}
use Rattle.ibos_outcome.specs.declared.fault.OutcomeFault.TheVariants.{NotCanonical}

-- bytes 0x20 to 0x7E
abbrev pub IsPrintable : List ℕ → Type 0
IsPrintable text = list_all is_printable text ≡ true

-- the last byte is a space
abbrev pub ends_in_space : List ℕ → Bool
ends_in_space text = slice_index text (length text - 1) == 32

-- a row of the screen without the spaces at its end
pub record IsCells (text : List ℕ) : Type 0 where
  pub short : length text ≤ 80
  pub printable : IsPrintable text
  pub trimmed : ends_in_space text ≡ false

-- the cookies of an origin, of which there may be none. A lone `-` tells none, and is no such text.
pub record AreCookies (text : List ℕ) : Type 0 where
  pub printable : IsPrintable text
  pub no_dash : text ≢ codes "-"

abbrev pub IsCanonicalItem : Item → Type 0
IsCanonicalItem (Opened who url) = IsNamed who × IsPrintable url
IsCanonicalItem (Moved who url) = IsNamed who × IsPrintable url
IsCanonicalItem (Ended who) = IsNamed who
IsCanonicalItem (KeyTo who byte) = IsNamed who × (byte < 2 ^ 8)
IsCanonicalItem (ClickTo who row col) = IsNamed who × (row < 2 ^ 8) × (col < 2 ^ 8)
IsCanonicalItem (Cookies who text) = IsNamed who × AreCookies text
IsCanonicalItem (RowIs row text) = (row < 2 ^ 8) × IsCells text
IsCanonicalItem (FlowIs who flow port remote) = IsNamed who × (flow < 16) × (port < 2 ^ 16)
    × (remote.addr < 2 ^ 32) × (remote.port < 2 ^ 16)
IsCanonicalItem (Arrived who flow bytes) = IsNamed who × (flow < 16) × IsBytes bytes
IsCanonicalItem (ValueIs value) = value < 2 ^ 32
IsCanonicalItem (LentIs handle) = (handle.name < 2 ^ 8) × (handle.turn < 2 ^ 32)
IsCanonicalItem (VerdictIs verdict) = Unit {0}
IsCanonicalItem (Dropped rule) = Unit {0}
IsCanonicalItem (Home who buffer) = IsNamed who × (buffer < 2 ^ 8)
IsCanonicalItem (SendIs send) = send < 2 ^ 32
IsCanonicalItem (Returned send) = send < 2 ^ 32
IsCanonicalItem (SentIs send) = send < 2 ^ 32
IsCanonicalItem Idle = Unit {0}
IsCanonicalItem (Accepted send who bytes) = (send < 2 ^ 32) × IsNamed who × IsBytes bytes
IsCanonicalItem (VersionIs who version) = IsNamed who × (version < 2 ^ 32)
IsCanonicalItem (RequestIs who request) = IsNamed who × (request < 2 ^ 32)
IsCanonicalItem (Object who request version bytes) =
    IsNamed who × (request < 2 ^ 32) × (version < 2 ^ 32) × IsBytes bytes
IsCanonicalItem (NoObject who request) = IsNamed who × (request < 2 ^ 32)
IsCanonicalItem (StorePut origin key version len) =
    IsWord origin × IsWord key × (version < 2 ^ 32) × (len < 2 ^ 32)
IsCanonicalItem (StoreAsk who request origin key) =
    IsNamed who × (request < 2 ^ 32) × IsWord origin × IsWord key

-- each item is; any head may stand before them
abbrev pub IsCanonical : Outcome → Type 0
IsCanonical outcome = All IsCanonicalItem outcome.items

-- the first text is a front of the second
abbrev pub IsFront : List ℕ → List ℕ → Type 0
IsFront front text = take (length front) text ≡ front

-- what holds where no outcome was found
abbrev pub OnNotCanonical : {T : Type 0} → Result T OutcomeFault → Type 0 → Type 0
OnNotCanonical (Err NotCanonical) fact = fact
OnNotCanonical other fact = Unit {0}
