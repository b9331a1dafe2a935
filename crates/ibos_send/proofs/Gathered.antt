-- The buffers of a list's parts, around one of them.
use Rattle.std.proofs.Common.{◌≡◌, ℕ, zero, suc, ◌<◌, List, [], ◌∷◌, ◌++◌, length, refl, sym, ◌∙◌, ap, arith, get_or, replicate}
use Rattle.std.specs.Prelude.{slice_set}
use Rattle.std.proofs.lemmas.List.{append-nil, append_assoc}
use Rattle.ibos_send.proofs.Words.{Held, gathered}

module _ {A : Type 0} (f : A → List Held) where
  -- what one part more holds
  pub gathered-push : (xs : List A) (x : A) → gathered f (xs ++ x ∷ []) ≡ gathered f xs ++ f x
  gathered-push [] x = append-nil (f x)
  gathered-push (y ∷ ys) x = ap (λ hs. f y ++ hs) (gathered-push ys x) ∙ sym (append_assoc (f y) (gathered f ys) (f x))

  -- parts that hold nothing
  pub gathered-nil : (n : ℕ) (x : A) → f x ≡ [] → gathered f (replicate n x) ≡ []
  gathered-nil zero x none = refl
  gathered-nil (suc n) x none = ap (λ hs. hs ++ gathered f (replicate n x)) none ∙ gathered-nil n x none

  -- What a list holds, around one of its places.
  pub record IsAround (xs : List A) (k : ℕ) (x : A) (front back : List Held) : Type 0 where
    pub was : gathered f xs ≡ front ++ (f x ++ back)
    pub set : (y : A) → gathered f (slice_set xs k y) ≡ front ++ (f y ++ back)

  abbrev pub Around : List A → ℕ → A → Type 0
  Around xs k x = (front : List Held) × (back : List Held) × IsAround xs k x front back

  around_next : (x d : A) (xs : List A) (k : ℕ) → Around xs k (get_or xs k d) → Around (x ∷ xs) (suc k) (get_or xs k d)
  around_next x d xs k rest = (f x ++ rest.0, rest.1, record { was = was; set = set })
    where
      was : f x ++ gathered f xs ≡ (f x ++ rest.0) ++ (f (get_or xs k d) ++ rest.1)
      was = ap (λ zs. f x ++ zs) rest.2.was ∙ sym (append_assoc (f x) rest.0 (f (get_or xs k d) ++ rest.1))

      set : (y : A) → f x ++ gathered f (slice_set xs k y) ≡ (f x ++ rest.0) ++ (f y ++ rest.1)
      set y = ap (λ zs. f x ++ zs) (rest.2.set y) ∙ sym (append_assoc (f x) rest.0 (f y ++ rest.1))

  pub around : (xs : List A) (k : ℕ) (d : A) → k < length xs → Around xs k (get_or xs k d)
  around [] k d below = absurd (omega (arith, below))
  around (x ∷ xs) zero d below = ([], gathered f xs, record { was = refl; set = λ y. refl })
  around (x ∷ xs) (suc k) d below = around_next x d xs k (around xs k d (omega (arith, below)))
