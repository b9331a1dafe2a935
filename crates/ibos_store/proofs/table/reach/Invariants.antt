use Rattle.std.proofs.Common.{◌≡◌, ℕ, ◌+◌, ◌≤◌, get_or, None, vec_len}
use Rattle.std.specs.Vec.{vec_capacity}
use Rattle.ibos_store.proofs.table.reach.Given as goal

-- the table grows by empty places, in the room that it has
abbrev pub invariant-filled : goal.invariant-filled
invariant-filled l = record {
  count : vec_len l.places ≡ l._place;
  room : l.place + 1 ≤ vec_capacity l.places;
  same : (k : ℕ) → get_or l.places.items k None ≡ get_or l.fn.places.items k None;
}
