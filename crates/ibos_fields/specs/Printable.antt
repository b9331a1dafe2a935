-- Printable bytes, and words of them.
use Rattle.std.specs.Prelude.{◌≡◌, ℕ, ◌<◌, List, Bool, true, ◌&&◌, nat_le, length}
use Rattle.std.specs.List.{list_all}

-- 0x20 to 0x7E
abbrev pub is_printable : ℕ → Bool
is_printable b = nat_le 32 b && nat_le b 126

-- printable, and no space
abbrev pub is_graph : ℕ → Bool
is_graph b = nat_le 33 b && nat_le b 126

-- one word
pub record IsWord (word : List ℕ) : Type 0 where
  pub graph : list_all is_graph word ≡ true
  pub some : 0 < length word
