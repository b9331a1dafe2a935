-- A frame's buffer passes to an inbox.
use Rattle.std.proofs.Common.{◌≡◌, ◌≢◌, ℕ, zero, suc, ◌+◌, ◌-◌, ◌%◌, ◌<◌, ◌≤◌, List, [], ◌∷◌, ◌++◌, length, drop, sym, ◌∙◌, ap, arith, get_or, set, ⊎_elim}
use Rattle.std.specs.Prelude.{Some, slice_get, take}
use Rattle.std.specs.List.{SwappedAt}
use Rattle.std.proofs.lemmas.Bool.{cases_eq}
use Rattle.std.proofs.lemmas.List.{ext_get_or, get_or-set_other, get_or-set_same, get_or_append_left, get_or_push, length-set, set-get_or, set_split}
use Rattle.std.proofs.lemmas.Option.{slice_get-get_or}
use Rattle.ibos_pool.proofs.MemoryLemmas.{take-bytes_at}
use Rattle.ibos_recv.proofs.FrameLists.{from-done, from-get, from-push, from-same, read-get}
use Rattle.ibos_recv.proofs.PartedHands.{in_list, kept_in}
use Rattle.ibos_recv.proofs.Words.{AreAtHand, AreExchanged, Held, Inbox, IsInbox, IsKept, IsLoanOf, IsPassed, Memory, Names, address_of, buffer_at, buffer_bytes, bytes_at, bytes_in, frames_from, inbox_frames, no_buffer}

-- done with the oldest frame
pub frames-done : (mem : Memory) (b c : Inbox) → c.held ≡ b.held → c.head ≡ (b.head + 1) % 16 → c.lens ≡ drop 1 b.lens → inbox_frames mem c ≡ drop 1 (inbox_frames mem b)
frames-done mem b c held head lens =
    ap (λ hs. frames_from mem hs c.head c.lens) held ∙ ap (λ ls. frames_from mem b.held c.head ls) lens ∙ from-done mem b.held b.head c.head b.lens head

-- a buffer of a list that was read is at hand
pub read-kept : (names : Names) (mem : Memory) (held : List Held) (i : ℕ) (h : Held) → AreAtHand names mem held → i < length held → h ≡ get_or held i h → IsKept mem h.place
read-kept names mem held i h hands below is = kept_in names mem held h.place hands (in_list held i h (read-get held i h below is))

pub frame-read : (mem : Memory) (b : Inbox) (k len : ℕ) (h : Held) (bytes : List ℕ) → IsInbox b → k < length b.lens → h ≡ get_or b.held ((b.head + k) % 16) h → len ≡ get_or b.lens k 0 → bytes ≡ buffer_at mem h.place
    → take len bytes ≡ get_or (inbox_frames mem b) k []
frame-read mem b k len h bytes is below read told whole =
    let held = is.held in
    let at : slice_get b.held ((b.head + k) % 16) ≡ Some h = read-get b.held ((b.head + k) % 16) h (omega arith) read in
    ap (λ bs. take len bs) whole ∙ ap (λ n. take n (buffer_at mem h.place)) told ∙ sym (ap (λ o. bytes_in mem o (get_or b.lens k 0)) at) ∙ sym (from-get mem b.held b.head b.lens k below)

-- a buffer of a list is the pool's
pub loan-in : (names : Names) (mem : Memory) (held : List Held) (i : ℕ) → AreAtHand names mem held → i < length held → IsLoanOf names (get_or held i no_buffer)
loan-in names mem [] i hands below = absurd (omega (arith, below))
loan-in names mem (h ∷ held) zero hands below = hands.0
loan-in names mem (h ∷ held) (suc i) hands below = loan-in names mem held i hands.3 (omega (arith, below))

-- One of a list leaves, for which the last comes. Another is added at the end, and these two change over.
pub put-back : (xs less ys zs : List Held) (n at last : ℕ) (y : Held) → n ≡ length xs → at < n → length less + 1 ≡ n → last ≡ n - 1
    → ((d : Held) → at + 1 < n → get_or less at d ≡ get_or xs (n - 1) d) → ((k : ℕ) (d : Held) → k ≢ at → k + 1 < n → get_or less k d ≡ get_or xs k d)
    → ys ≡ less ++ y ∷ [] → SwappedAt ys zs at last → length zs ≡ n → zs ≡ set xs at y
put-back xs less ys zs n at last y long below shorter end moved others is swapped size = ext_get_or y zs (set xs at y) (size ∙ long ∙ sym (length-set xs at y)) each
  where
    at-end : get_or ys last y ≡ y
    at-end = ap (λ (l : List Held). get_or l last y) is ∙ get_or_push less y y last (omega (arith, shorter, end))

    before : (k : ℕ) → k < length less → get_or ys k y ≡ get_or less k y
    before k low = ap (λ (l : List Held). get_or l k y) is ∙ get_or_append_left less (y ∷ []) y k low

    other-one : (k : ℕ) → k < n → k ≢ at → get_or zs k y ≡ get_or xs k y
    other-one k low differ = ⊎_elim
        (λ (this : k ≡ last).
        let inner : at + 1 < n = omega (arith, below, this, end, differ) in
        let same : k ≡ n - 1 = this ∙ end in
        ap (λ i. get_or zs i y) this ∙ swapped.1 y ∙ before at (omega (arith, inner, shorter)) ∙ moved y inner ∙ ap (λ i. get_or xs i y) (sym same))
        (λ (inner : k ≢ last). swapped.2 k y differ inner ∙ before k (omega (arith, low, inner, end, shorter)) ∙ others k y differ (omega (arith, low, inner, end)))
        (cases_eq k last)

    each : (k : ℕ) → k < length zs → get_or zs k y ≡ get_or (set xs at y) k y
    each k low = ⊎_elim
        (λ (this : k ≡ at). ap (λ i. get_or zs i y) this ∙ swapped.0 y ∙ at-end ∙ sym (get_or-set_same xs at y y (omega (arith, below, long))) ∙ ap (λ i. get_or (set xs at y) i y) (sym this))
        (λ (other : k ≢ at). other-one k (omega (arith, low, size)) other ∙ sym (get_or-set_other xs at k y y other))
        (cases_eq k at)

-- one of an inbox's buffers gets the place of a loan
module _ (b : Inbox) (held' : List Held) (h : Held) (len : ℕ) (is : IsInbox b) (room : length b.lens < 16) (same : held' ≡ set b.held ((b.head + length b.lens) % 16) (record { name = (get_or b.held ((b.head + length b.lens) % 16) no_buffer).name; place = h.place })) where
  abbrev slot : ℕ
  slot = (b.head + length b.lens) % 16

  abbrev free : Held
  free = get_or b.held slot no_buffer

  abbrev filled : Held
  filled = record { name = free.name; place = h.place }

  pub slot-within : slot < length b.held
  slot-within = let held = is.held in omega (arith, held)

  size : length held' ≡ length b.held
  size = ap (λ (l : List Held). length l) same ∙ length-set b.held slot filled

  get-same : get_or held' slot no_buffer ≡ filled
  get-same = ap (λ (l : List Held). get_or l slot no_buffer) same ∙ get_or-set_same b.held slot filled no_buffer slot-within

  get-other : (k : ℕ) → k ≢ slot → get_or held' k no_buffer ≡ get_or b.held k no_buffer
  get-other k differ = ap (λ (l : List Held). get_or l k no_buffer) same ∙ get_or-set_other b.held slot k filled no_buffer differ

  own : (mem : Memory) → len ≤ buffer_bytes → bytes_in mem (slice_get held' slot) len ≡ bytes_at mem (address_of h.place) len
  own mem fits =
      let within = slot-within in
      let at : slice_get held' slot ≡ Some filled = slice_get-get_or held' slot no_buffer (omega (arith, within, size)) ∙ ap Some get-same in
      ap (λ o. bytes_in mem o len) at ∙ take-bytes_at mem (address_of h.place) buffer_bytes len fits

  -- the frames that lie there stay
  others-stay : (mem : Memory) (k : ℕ) → k < length b.lens → (l : ℕ) → bytes_in mem (slice_get held' ((b.head + k) % 16)) l ≡ bytes_in mem (slice_get b.held ((b.head + k) % 16)) l
  others-stay mem k below l =
      let held = is.held in
      let within : (b.head + k) % 16 < length b.held = omega (arith, held) in
      let other : (b.head + k) % 16 ≢ (b.head + length b.lens) % 16 = omega (arith, below, room) in
      ap (λ o. bytes_in mem o l) (slice_get-get_or held' ((b.head + k) % 16) no_buffer (omega (arith, within, size)) ∙ ap Some (get-other ((b.head + k) % 16) other) ∙ sym (slice_get-get_or b.held ((b.head + k) % 16) no_buffer within))

  pub push-frames : (mem : Memory) → len ≤ buffer_bytes → frames_from mem held' b.head (b.lens ++ len ∷ []) ≡ inbox_frames mem b ++ bytes_at mem (address_of h.place) len ∷ []
  push-frames mem fits =
      from-push mem held' b.head b.lens len
      ∙ ap (λ f. frames_from mem held' b.head b.lens ++ f ∷ []) (own mem fits)
      ∙ ap (λ fs. fs ++ bytes_at mem (address_of h.place) len ∷ []) (from-same mem mem b.held held' b.head b.lens (others-stay mem))

  pub push-passed : (pool pool' : Names) → AreExchanged pool pool' h.name free.name → IsPassed h b.held held' pool pool'
  push-passed pool pool' change = record {
    free = free;
    front = take slot b.held;
    back = drop (suc slot) b.held;
    was = sym (set-get_or b.held slot no_buffer) ∙ set_split b.held slot free slot-within;
    now = same ∙ set_split b.held slot filled slot-within;
    exchanged = change;
  }
