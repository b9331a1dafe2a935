-- The own address in the registers is that of the frames, and so the device's verdict is the journal's.
use Rattle.std.proofs.Common.{refl, ◌∙◌, ap, arith}
use Rattle.std.specs.Int.{bytes_low_first}
use Rattle.std.specs.Prelude.{◌||◌}
use Rattle.ibos_nic.specs.Device.{is_for_us}
use Rattle.ibos_model.specs.Rings.{verdict_at}
use Rattle.ibos_net.proofs.Words.{ℕ, ◌≡◌, ◌+◌, ◌*◌, ◌/◌, ◌%◌, ◌<◌, ◌≤◌, ◌==◌, ◌&&◌, ◌++◌, ◌∷◌, Bool, true, false, not, List, [], address_high, address_low, bytes_high_first, mac_byte, own_address, Registers, Ral0, Rah0, Rctl, Rdh, Rdt, Receive, Rings, RingsStand, Mediated, Memory, IsInMemory, register, Reg, Local, if◌then◌else◌, Filtered, Missed, Heard, is_let_in, verdict_of, is_enabled, can_receive, RingValues}
use Rattle.std.proofs.lemmas.Bool.Decides.{nat_tests}

low-byte : (a b c d : ℕ) → a < 256 → b < 256 → c < 256 → d < 256 → let x : ℕ = a + 256 * b + 65536 * c + 16777216 * d in (x % 256 ≡ a) × (x / 256 % 256 ≡ b) × (x / 65536 % 256 ≡ c) × (x / 16777216 % 256 ≡ d)
low-byte a b c d a< b< c< d< = (omega arith, omega arith, omega arith, omega arith)

high-byte : (a b : ℕ) → a < 256 → b < 256 → let x : ℕ = a + 256 * b + 2147483648 in (x % 256 ≡ a) × (x / 256 % 256 ≡ b)
high-byte a b a< b< = (omega arith, omega arith)

mac-small : (mac i : ℕ) → mac_byte mac i < 256
mac-small mac i = omega arith

low-bytes : (mac : ℕ) → bytes_low_first 0 4 (address_low mac) ≡ mac_byte mac 0 ∷ mac_byte mac 1 ∷ mac_byte mac 2 ∷ mac_byte mac 3 ∷ []
low-bytes mac = let b = low-byte (mac_byte mac 0) (mac_byte mac 1) (mac_byte mac 2) (mac_byte mac 3) (mac-small mac 0) (mac-small mac 1) (mac-small mac 2) (mac-small mac 3) in
    rw (b.0, b.1, b.2, b.3) refl

high-bytes : (mac : ℕ) → bytes_low_first 0 2 (address_high mac) ≡ mac_byte mac 4 ∷ mac_byte mac 5 ∷ []
high-bytes mac = let b = high-byte (mac_byte mac 4) (mac_byte mac 5) (mac-small mac 4) (mac-small mac 5) in rw (b.0, b.1) refl

last-byte : (mac : ℕ) → mac_byte mac 5 ≡ mac % 256
last-byte mac = omega arith

pub own-address : (mac : ℕ) (regs : Registers) → regs Ral0 ≡ address_low mac → regs Rah0 ≡ address_high mac → own_address regs ≡ bytes_high_first 6 mac
own-address mac regs low high =
    ap (λ x. bytes_low_first 0 4 x ++ bytes_low_first 0 2 (regs Rah0)) low ∙ ap (λ x. bytes_low_first 0 4 (address_low mac) ++ bytes_low_first 0 2 x) high
    ∙ ap (λ xs. xs ++ bytes_low_first 0 2 (address_high mac)) (low-bytes mac) ∙ ap (λ xs. (mac_byte mac 0 ∷ mac_byte mac 1 ∷ mac_byte mac 2 ∷ mac_byte mac 3 ∷ []) ++ xs) (high-bytes mac)
    ∙ ap (λ x. mac_byte mac 0 ∷ mac_byte mac 1 ∷ mac_byte mac 2 ∷ mac_byte mac 3 ∷ mac_byte mac 4 ∷ x ∷ []) (last-byte mac)

-- at most 63 slots apart
heads-meet : (heard rung : ℕ) → heard ≤ rung → rung < heard + 64 → (heard % 64 == rung % 64) ≡ (heard == rung)
heads-meet heard rung low high = grind (arith, nat_tests)

let-in : (mac : ℕ) (regs : Registers) (frame : List ℕ) → regs Ral0 ≡ address_low mac → regs Rah0 ≡ address_high mac → is_for_us regs frame ≡ is_let_in (bytes_high_first 6 mac) frame
unfolding is_for_us
let-in mac regs frame low high = ap (λ own. is_let_in own frame) (own-address mac regs low high)

verdict-cases : (l e q : Bool) → (if l then (if e && not q then Heard else Missed) else Filtered) ≡ (if not l then Filtered else if not e || q then Missed else Heard)
verdict-cases false e q = refl
verdict-cases true false q = refl
verdict-cases true true false = refl
verdict-cases true true true = refl

can-receive : (rings : Rings) (regs : Registers) → regs Rctl ≡ rings.receive.control → regs Rdh ≡ rings.heard % 64 → regs Rdt ≡ rings.receive.rung % 64 → rings.heard ≤ rings.receive.rung → rings.receive.rung < rings.heard + 64
    → can_receive regs ≡ (is_enabled rings.receive.control && not (rings.heard == rings.receive.rung))
can-receive rings regs control head tail low high =
    ap (λ x. is_enabled x && not (regs Rdh == regs Rdt)) control ∙ ap (λ x. is_enabled rings.receive.control && not (x == regs Rdt)) head ∙ ap (λ x. is_enabled rings.receive.control && not (rings.heard % 64 == x)) tail
    ∙ ap (λ x. is_enabled rings.receive.control && not x) (heads-meet rings.heard rings.receive.rung low high)

verdict-is : (local : Local) (rings : Rings) (regs : Registers) (frame : List ℕ) → ((r : Reg) → regs r ≡ register local rings r) → rings.heard ≤ rings.receive.rung → rings.receive.rung < rings.heard + 64
    → verdict_of regs frame ≡ verdict_at local rings frame
unfolding verdict_at
verdict-is local rings regs frame is low high =
    ap (λ x. if x then (if can_receive regs then Heard else Missed) else Filtered) (let-in local.mac regs frame (is Ral0) (is Rah0))
    ∙ ap (λ x. if is_let_in (bytes_high_first 6 local.mac) frame then (if x then Heard else Missed) else Filtered) (can-receive rings regs (is Rctl) (is Rdh) (is Rdt) low high)
    ∙ verdict-cases (is_let_in (bytes_high_first 6 local.mac) frame) (is_enabled rings.receive.control) (rings.heard == rings.receive.rung)

-- the counts are at most a ring apart
pub verdict-same : (local : Local) (rings : Rings) (frames : List (List ℕ)) (m : Mediated) (mem : Memory) (regs : Registers) (frame : List ℕ) → RingsStand rings frames m mem → IsInMemory m mem
    → ((r : Reg) → regs r ≡ register local rings r) → verdict_of regs frame ≡ verdict_at local rings frame
verdict-same local rings frames m mem regs frame s memory is =
    let ring = memory.ring Receive in
    let room = ring.balanced.room in
    let posted = ring.balanced.posted in
    let taken = ring.taken in
    let rung = ring.rung in
    let heard = s.heard in
    let same : rings.receive.rung ≡ m.receive.values.rung = ap (λ (v : RingValues). v.rung) s.receive in
    verdict-is local rings regs frame is (omega arith) (omega arith)
