-- The frames of all instances, where buffers stay as they are.
use Rattle.std.proofs.Common.{◌≡◌, ℕ, ◌+◌, ◌%◌, true, false, List, ◌++◌, length, refl, ap}
use Rattle.std.specs.Prelude.{Option, Some, None, slice_get, take}
use Rattle.ibos_pool.proofs.HandLemmas.{not_true}
use Rattle.ibos_recv.proofs.FrameLists.{from-length, from-same}
use Rattle.ibos_recv.proofs.PartedHands.{front_of, in_list, kept_in, none_shared}
use Rattle.ibos_recv.proofs.TablePlaces.{inbox-where}
use Rattle.ibos_recv.proofs.Words.{AreAtHand, Held, Inbox, Inboxes, Instance, IsKept, Memory, Names, Place, buffer_at, bytes_in, frames_at, frames_of, has_place, held_at, held_in, inbox_by, unread_at, unread_of}

pub frames-length : (mem : Memory) (t : Inboxes) (who : Instance) → length (frames_of mem t who) ≡ unread_of t who
frames-length mem t who = by_inbox (inbox_by t who)
  where
    by_inbox : (x : Option Inbox) → length (frames_at mem x) ≡ unread_at x
    by_inbox None = refl
    by_inbox (Some b) = from-length mem b.held b.head b.lens

pub bytes-same : (mem mem' : Memory) (held : List Held) → ((p : Place) → has_place held p ≡ true → buffer_at mem' p ≡ buffer_at mem p)
    → (k len : ℕ) → bytes_in mem' (slice_get held k) len ≡ bytes_in mem (slice_get held k) len
bytes-same mem mem' held each k len = by_item (slice_get held k) refl
  where
    by_item : (o : Option Held) → slice_get held k ≡ o → bytes_in mem' o len ≡ bytes_in mem o len
    by_item None is = refl
    by_item (Some h) is = ap (λ bs. take len bs) (each h.place (in_list held k h is))

-- one inbox's frames are the same where its buffers are
pub inbox-same : (mem mem' : Memory) (x : Option Inbox) → ((p : Place) → has_place (held_at x) p ≡ true → buffer_at mem' p ≡ buffer_at mem p) → frames_at mem' x ≡ frames_at mem x
inbox-same mem mem' None each = refl
inbox-same mem mem' (Some b) each = from-same mem mem' b.held b.held b.head b.lens (λ k below len. bytes-same mem mem' b.held each ((b.head + k) % 16) len)

pub frames-same : (mem mem' : Memory) (t : Inboxes) → ((p : Place) → has_place (held_in t) p ≡ true → buffer_at mem' p ≡ buffer_at mem p) → (who : Instance) → frames_of mem' t who ≡ frames_of mem t who
frames-same mem mem' t each who = inbox-same mem mem' (inbox_by t who) (λ p is. each p (inbox-where t who p is))

pub frames-hands : (names : Names) (mem mem' : Memory) (t : Inboxes) (more : List Held) → AreAtHand names mem (held_in t ++ more)
    → ((p : Place) → IsKept mem p → has_place more p ≡ false → buffer_at mem' p ≡ buffer_at mem p) → (who : Instance) → frames_of mem' t who ≡ frames_of mem t who
frames-hands names mem mem' t more hands each = frames-same mem mem' t
    (λ p is. each p (kept_in names mem (held_in t) p (front_of names mem (held_in t) more hands) is) (not_true _ (λ is'. none_shared names mem (held_in t) more hands p is is')))
