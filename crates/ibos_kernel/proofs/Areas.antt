-- How many instances have started, after a tab's seat is written.
use Rattle.std.proofs.Common.{◌≡◌, ℕ, ◌+◌, ◌*◌, ◌<◌, ◌≤◌, List, [], ◌∷◌, length, zero, suc, arith}
use Rattle.std.specs.Prelude.{slice_index_or, slice_set}
use Rattle.ibos_page.specs.Seats.{Seat}
use Rattle.ibos_page.specs.Tabs.{empty_seat}
use Rattle.ibos_kernel.specs.Tables.{started}

pub started_set : (seats : List Seat) (i : ℕ) (seat : Seat) → i < length seats → started (slice_set seats i seat) + (slice_index_or seats i empty_seat).count ≡ started seats + seat.count
started_set [] i seat low = absurd (omega (arith, low))
started_set (old ∷ seats) zero seat low = omega arith
started_set (old ∷ seats) (suc i) seat low =
    let rest = started_set seats i seat (omega (arith, low)) in
    omega (arith, rest)

pub started_few : (seats : List Seat) → ((tab : ℕ) → (slice_index_or seats tab empty_seat).count ≤ 32) → started seats ≤ 32 * length seats
started_few [] few = omega arith
started_few (seat ∷ seats) few =
    let first : seat.count ≤ 32 = few 0 in
    let rest = started_few seats (λ tab. few (suc tab)) in
    omega (arith, first, rest)
