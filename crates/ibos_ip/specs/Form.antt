-- What each viewed datagram keeps.
use Rattle.std.specs.Prelude.{ℕ, ◌*◌, ◌≤◌, List, length}
use Rattle.ibos_kinds.specs.Frames.{ip_words, ip_total}

-- the lengths of header, datagram and bytes rise
pub record HasLengths (bytes : List ℕ) : Type 0 where
  pub header : 20 ≤ length bytes
  pub words : 4 * ip_words bytes ≤ ip_total bytes
  pub total : ip_total bytes ≤ length bytes
