-- What contracts see of a viewed segment.
use Rattle.std.specs.Prelude.{ℕ, ◌*◌, ◌≤◌, List, length}
use Rattle.ibos_kinds.specs.declared.names.Proto.{Proto}
use Rattle.ibos_kinds.specs.declared.names.Proto.TheVariants.{Tcp, Udp}
use Rattle.ibos_kinds.specs.Frames.{tcp_words, udp_len}

pub record Segment : Type 0 where
  pub proto : Proto
  pub bytes : List ℕ

-- the header, and the payload that its length field gives, lie within the bytes
abbrev pub HasLengths : Proto → List ℕ → Type 0
HasLengths Tcp bytes = (20 ≤ length bytes) × (4 * tcp_words bytes ≤ length bytes)
HasLengths Udp bytes = (8 ≤ udp_len bytes) × (udp_len bytes ≤ length bytes)
