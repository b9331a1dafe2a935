-- The buffers that the rings hold are away.
use Rattle.std.proofs.Common.{◌≡◌, ℕ, ◌+◌, ◌-◌, ◌<◌, List, ◌++◌, length, sym, ◌∙◌, ap, subst, arith}
use Rattle.ibos_mediate.proofs.Words.{AreGiven, AreAway, AreOwned, Held, IsInMemory, IsLent, IsLoanOf, IsOpen, Mediated, Memory, Names, Receive, Ring, Transmit, no_buffer, ring_of, slice_index_or}
use Rattle.ibos_pool.proofs.GivingLemmas.{away-append, away-each, given-both, not_placed}

abbrev buffer_in : List Held → ℕ → Held
buffer_in held k = slice_index_or held k no_buffer

module _ (m : Mediated) (mem : Memory) (names : Names) (memory : IsInMemory m mem) (owned : (ring : Ring) → AreOwned ring (ring_of m ring) names) where
  -- the buffer at a place of the list is that of an open descriptor
  its_open : (ring : Ring) (k : ℕ) → k < length (ring_of m ring).held → IsOpen (ring_of m ring) ((ring_of m ring).values.taken + k)
  its_open ring k below =
      let is = memory.ring ring in
      let held = is.balanced.held in
      (omega arith, omega arith)

  at : (ring : Ring) (k : ℕ) → (ring_of m ring).values.taken + k - (ring_of m ring).values.taken ≡ k
  at ring k = omega arith

  apart : (one other : Ring) (j k : ℕ) → j < length (ring_of m one).held → k < length (ring_of m other).held
      → (buffer_in (ring_of m one).held j).place ≡ (buffer_in (ring_of m other).held k).place → (one ≡ other) × ((ring_of m one).values.taken + j ≡ (ring_of m other).values.taken + k)
  apart one other j k below below' same = memory.apart one other ((ring_of m one).values.taken + j) ((ring_of m other).values.taken + k) (its_open one j below) (its_open other k below')
      (ap (λ i. (buffer_in (ring_of m one).held i).place) (at one j) ∙ same ∙ sym (ap (λ i. (buffer_in (ring_of m other).held i).place) (at other k)))

  pub away-ring : (ring : Ring) → AreAway names mem (ring_of m ring).held
  away-ring ring = away-each names mem (ring_of m ring).held
      (λ k below.
      let is = memory.ring ring in
      let open' = its_open ring k below in
      let P : ℕ → Type 0 = λ i. IsLoanOf names (buffer_in (ring_of m ring).held i) × IsLent mem (buffer_in (ring_of m ring).held i).place in
      subst P (at ring k) ((owned ring _ open').0, (is.each _ open').lent))
      (λ j k order below same. let one = (apart ring ring j k (omega arith) below same).1 in omega arith)

  pub away-both : AreAway names mem (m.receive.held ++ m.transmit.held)
  away-both = away-append names mem m.receive.held m.transmit.held (away-ring Receive) (away-ring Transmit)
      (λ k below. not_placed _ m.transmit.held (λ j below' same. let clash : Receive ≡ Transmit = (apart Receive Transmit k j below below' same).0 in cc))

-- both lists were given, one after the other
pub given-lists : (xs ys xs' ys' : List Held) (names names' names'' : Names) (mem mem' mem'' : Memory) → xs ≡ xs' → ys ≡ ys' → AreGiven xs names names' mem mem' → AreGiven ys names' names'' mem' mem''
    → AreGiven (xs' ++ ys') names names'' mem mem''
given-lists xs ys xs' ys' names names' names'' mem mem' mem'' is is' one two = given-both xs' ys' names names' names'' mem mem' mem'' (subst (λ zs. AreGiven zs names names' mem mem') is one) (subst (λ zs. AreGiven zs names' names'' mem' mem'') is' two)
