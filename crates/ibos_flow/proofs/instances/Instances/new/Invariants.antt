use Rattle.std.proofs.Common.{◌≡◌, replicate, None, vec_len, ◌≤◌}
use Rattle.std.specs.Vec.{vec_capacity}
use Rattle.ibos_flow.proofs.instances.Instances.new.Given as goal

-- the table is filled with empty places, in the room that it has
abbrev pub invariant-filled : goal.invariant-filled
invariant-filled l = record {
  items : l.places.items ≡ replicate l._place None;
  count : vec_len l.places ≡ l._place;
  room : 2048 ≤ vec_capacity l.places;
}
