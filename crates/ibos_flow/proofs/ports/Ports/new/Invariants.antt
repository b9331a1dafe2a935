use Rattle.std.proofs.Common.{◌≡◌, replicate, vec_len, ◌≤◌}
use Rattle.std.specs.Vec.{vec_capacity}
use Rattle.ibos_flow.specs.Ports.{unbound}
use Rattle.ibos_flow.proofs.ports.Ports.new.Given as goal

-- the list is filled with unbound ports, in the room that it has
abbrev pub invariant-filled : goal.invariant-filled
invariant-filled l = record {
  items : l.places.items ≡ replicate l._place unbound;
  count : vec_len l.places ≡ l._place;
  room : 32768 ≤ vec_capacity l.places;
}
