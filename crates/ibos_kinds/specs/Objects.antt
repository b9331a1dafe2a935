-- Stored objects: of each origin the keys in the order of their first put, and of each key its
-- newest version.
use Rattle.std.specs.Prelude.{ℕ, ◌+◌, List, [], ◌∷◌, Bool, ◌&&◌, nat_lt, nat_le, sum_by, length}
use Rattle.std.specs.Prelude.{bytes_eq, Option, Some, None, if◌then◌else◌}
use Rattle.std.specs.List.{list_all}

-- the newest version of an object: its number, which is the count of the puts; how many bytes it
-- has, or had; and these bytes, unless they were lost
pub record Newest : Type 0 where
  pub version : ℕ
  pub len : ℕ
  pub bytes : Option (List ℕ)

pub record KeyObject : Type 0 where
  pub key : List ℕ
  pub newest : Newest

-- a key is 1 to 64 bytes, each printable and no space
abbrev pub is_key_byte : ℕ → Bool
is_key_byte b = nat_le 0x21 b && nat_le b 0x7e

unfoldable pub is_key : List ℕ → Bool
is_key key = nat_lt 0 (length key) && nat_le (length key) 64 && list_all is_key_byte key

-- what stands under a key, if anything was put there
abbrev pub newest_in : List KeyObject → List ℕ → Option Newest
newest_in [] key = None
newest_in (object ∷ objects) key =
    if bytes_eq key object.key then Some object.newest else newest_in objects key

-- how many puts of a key were accepted
abbrev pub version_of : Option Newest → ℕ
version_of None = 0
version_of (Some newest) = newest.version

-- the newest version after one put more
abbrev pub after_put : Option Newest → List ℕ → Newest
after_put found bytes = record {
  version = version_of found + 1;
  len = length bytes;
  bytes = Some bytes;
}

-- the newest version after its bytes were lost
abbrev pub after_loss : Newest → Newest
after_loss newest = record newest { bytes = None }

-- another newest version under a key, which keeps its place, or is the last
abbrev pub with_newest : List ℕ → Newest → List KeyObject → List KeyObject
with_newest key newest [] = record { key = key; newest = newest } ∷ []
with_newest key newest (object ∷ objects) =
    if bytes_eq key object.key then record { key = key; newest = newest } ∷ objects
    else object ∷ with_newest key newest objects

-- the objects of an origin after a put, and after the newest version of a key was lost
abbrev pub with_put : List ℕ → List ℕ → List KeyObject → List KeyObject
with_put key bytes objects = with_newest key (after_put (newest_in objects key) bytes) objects

abbrev pub with_loss_of : Option Newest → List ℕ → List KeyObject → List KeyObject
with_loss_of None key objects = objects
with_loss_of (Some newest) key objects = with_newest key (after_loss newest) objects

abbrev pub with_loss : List ℕ → List KeyObject → List KeyObject
with_loss key objects = with_loss_of (newest_in objects key) key objects

-- keys and newest versions together, lost ones as before their loss
abbrev pub stored_bytes : List KeyObject → ℕ
stored_bytes objects = sum_by (λ o. length o.key + o.newest.len) objects

-- an origin may store 65,536 bytes
unfoldable pub is_over : List KeyObject → Bool
is_over objects = nat_lt 65536 (stored_bytes objects)
