-- What is true of an inbox at all times.
use Rattle.std.specs.Prelude.{◌≡◌, ◌<◌, ◌≤◌, length}
use Rattle.std.specs.List.{All}
use Rattle.ibos_pool.specs.Sizes.{buffer_bytes}
use Rattle.ibos_recv.specs.Inboxes.{Inbox}

-- sixteen buffers, and no more frames, each of which has room in one
pub record IsInbox (inbox : Inbox) : Type 0 where
  pub held : length inbox.held ≡ 16
  pub head : inbox.head < 16
  pub few : length inbox.lens ≤ 16
  pub small : All (λ len. len ≤ buffer_bytes) inbox.lens
