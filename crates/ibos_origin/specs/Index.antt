-- The hosts that an index by name holds, in its order.
use Rattle.std.specs.Prelude.{ℕ, List, map}
use Rattle.std.specs.Global.{Vec}
use Rattle.ibos_origin.specs.Hosts.{Host}

abbrev pub named_hosts : List (Vec ℕ × ℕ) → List Host
named_hosts entries = map (λ entry. record { name = entry.0.items; addr = entry.1 }) entries
