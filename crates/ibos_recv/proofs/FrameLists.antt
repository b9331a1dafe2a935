-- The frames of an inbox.
use Rattle.std.proofs.Common.{◌≡◌, ℕ, zero, suc, ◌+◌, ◌%◌, ◌<◌, List, [], ◌∷◌, ◌++◌, length, drop, get_or, refl, sym, ◌∙◌, ap, subst, arith}
use Rattle.std.specs.Prelude.{Some, slice_get}
use Rattle.ibos_recv.proofs.Words.{Held, Memory, bytes_in, frames_from}

pub from-length : (mem : Memory) (held : List Held) (at : ℕ) (lens : List ℕ) → length (frames_from mem held at lens) ≡ length lens
from-length mem held at [] = refl
from-length mem held at (len ∷ lens) = ap suc (from-length mem held (at + 1) lens)

-- frames are the same where their buffers are
pub from-same : (mem mem' : Memory) (held held' : List Held) (at : ℕ) (lens : List ℕ)
    → ((k : ℕ) → k < length lens → (len : ℕ) → bytes_in mem' (slice_get held' ((at + k) % 16)) len ≡ bytes_in mem (slice_get held ((at + k) % 16)) len)
    → frames_from mem' held' at lens ≡ frames_from mem held at lens
from-same mem mem' held held' at [] each = refl
from-same mem mem' held held' at (len ∷ lens) each =
    let first : bytes_in mem' (slice_get held' (at % 16)) len ≡ bytes_in mem (slice_get held (at % 16)) len = subst (λ n. bytes_in mem' (slice_get held' (n % 16)) len ≡ bytes_in mem (slice_get held (n % 16)) len) (omega arith) (each 0 (omega arith) len) in
    let rest : frames_from mem' held' (at + 1) lens ≡ frames_from mem held (at + 1) lens = from-same mem mem' held held' (at + 1) lens
    (λ k below l.
    let shift : at + suc k ≡ (at + 1) + k = omega arith in
    subst (λ n. bytes_in mem' (slice_get held' (n % 16)) l ≡ bytes_in mem (slice_get held (n % 16)) l) shift (each (suc k) (omega arith) l)) in
    ap (λ b. b ∷ frames_from mem' held' (at + 1) lens) first ∙ ap (λ fs. bytes_in mem (slice_get held (at % 16)) len ∷ fs) rest

-- one more frame comes behind the others
pub from-push : (mem : Memory) (held : List Held) (at : ℕ) (lens : List ℕ) (len : ℕ)
    → frames_from mem held at (lens ++ len ∷ []) ≡ frames_from mem held at lens ++ bytes_in mem (slice_get held ((at + length lens) % 16)) len ∷ []
from-push mem held at [] len = let shift : at ≡ at + 0 = omega arith in ap (λ n. bytes_in mem (slice_get held (n % 16)) len ∷ []) shift
from-push mem held at (l ∷ lens) len =
    let shift : (at + 1) + length lens ≡ at + suc (length lens) = omega arith in
    ap (λ fs. bytes_in mem (slice_get held (at % 16)) l ∷ fs)
    (from-push mem held (at + 1) lens len ∙ ap (λ n. frames_from mem held (at + 1) lens ++ bytes_in mem (slice_get held (n % 16)) len ∷ []) shift)

-- where one goes around, nothing changes
pub from-around : (mem : Memory) (held : List Held) (a b : ℕ) (lens : List ℕ) → a % 16 ≡ b % 16 → frames_from mem held a lens ≡ frames_from mem held b lens
from-around mem held a b [] same = refl
from-around mem held a b (len ∷ lens) same =
    let next : (a + 1) % 16 ≡ (b + 1) % 16 = omega (arith, same) in
    ap (λ n. bytes_in mem (slice_get held n) len ∷ frames_from mem held (a + 1) lens) same
    ∙ ap (λ fs. bytes_in mem (slice_get held (b % 16)) len ∷ fs) (from-around mem held (a + 1) (b + 1) lens next)

-- without the first
pub from-done : (mem : Memory) (held : List Held) (at next : ℕ) (lens : List ℕ) → next ≡ (at + 1) % 16 → frames_from mem held next (drop 1 lens) ≡ drop 1 (frames_from mem held at lens)
from-done mem held at next [] is = refl
from-done mem held at next (len ∷ lens) is = let around : next % 16 ≡ (at + 1) % 16 = omega (arith, is) in from-around mem held next (at + 1) lens around

-- the frame at a place of the list
pub from-get : (mem : Memory) (held : List Held) (at : ℕ) (lens : List ℕ) (k : ℕ) → k < length lens
    → get_or (frames_from mem held at lens) k [] ≡ bytes_in mem (slice_get held ((at + k) % 16)) (get_or lens k 0)
from-get mem held at [] k below = absurd (omega (arith, below))
from-get mem held at (len ∷ lens) zero below = let shift : at ≡ at + 0 = omega arith in ap (λ n. bytes_in mem (slice_get held (n % 16)) len) shift
from-get mem held at (len ∷ lens) (suc k) below =
    let shift : (at + 1) + k ≡ at + suc k = omega arith in
    from-get mem held (at + 1) lens k (omega (arith, below)) ∙ ap (λ n. bytes_in mem (slice_get held (n % 16)) (get_or lens k 0)) shift

-- an item that was read
pub read-get : {X : Type 0} (xs : List X) (i : ℕ) (x : X) → i < length xs → x ≡ get_or xs i x → slice_get xs i ≡ Some x
read-get [] i x below is = absurd (omega (arith, below))
read-get (y ∷ xs) zero x below is = ap Some (sym is)
read-get (y ∷ xs) (suc i) x below is = read-get xs i x (omega (arith, below)) is
