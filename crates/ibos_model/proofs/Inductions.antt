-- One induction for every law that says: what entries tell is what their facts give.
use Rattle.std.proofs.Common.{◌≡◌, List, [], ◌∷◌, ◌++◌, refl, sym, ◌∙◌, ap, append_assoc}
use Rattle.ibos_model.specs.Folds.{counted, given, in_order}

pub given-append : {S F D : Type 0} (gives : S → F → List D) (after : S → F → S) (s : S) (xs ys : List F)
    → given gives after s (xs ++ ys) ≡ given gives after s xs ++ given gives after (counted after s xs) ys
given-append gives after s [] ys = refl
given-append gives after s (x ∷ xs) ys =
    ap (λ ds. gives s x ++ ds) (given-append gives after (after s x) xs ys)
    ∙ sym (append_assoc (gives s x) (given gives after (after s x) xs) (given gives after (counted after (after s x) xs) ys))

pub counted-append : {S F : Type 0} (after : S → F → S) (s : S) (xs ys : List F) → counted after s (xs ++ ys) ≡ counted after (counted after s xs) ys
counted-append after s [] ys = refl
counted-append after s (x ∷ xs) ys = counted-append after (after s x) xs ys

-- A law of entries: the facts that an entry adds and what it tells; what a fact gives and how it is counted; and what is
-- counted, read from the entries.
pub record Law (E S F D : Type 0) : Type 0 where
  pub facts : List E → E → List F
  pub tells : List E → E → List D
  pub gives : S → F → List D
  pub after : S → F → S
  pub state : List E → S

-- one more entry tells what its facts give, and is counted as they are
pub record OneMore {E S F D : Type 0} (law : Law E S F D) (J : List E) (e : E) : Type 0 where
  pub told : law.tells J e ≡ given law.gives law.after (law.state J) (law.facts J e)
  pub mine : law.state (e ∷ J) ≡ counted law.after (law.state J) (law.facts J e)

-- the law of these entries, with what is counted
pub record Holds {E S F D : Type 0} (law : Law E S F D) (J : List E) : Type 0 where
  pub told : in_order law.tells J ≡ given law.gives law.after (law.state []) (in_order law.facts J)
  pub mine : law.state J ≡ counted law.after (law.state []) (in_order law.facts J)

next_holds : {E S F D : Type 0} (law : Law E S F D) (J : List E) (e : E) → OneMore law J e → Holds law J → Holds law (e ∷ J)
next_holds law J e agree before = record {
  told = ap (λ ds. ds ++ law.tells J e) before.told
      ∙ ap (λ ds. given law.gives law.after (law.state []) (in_order law.facts J) ++ ds) (agree.told ∙ ap (λ s. given law.gives law.after s (law.facts J e)) before.mine)
      ∙ sym (given-append law.gives law.after (law.state []) (in_order law.facts J) (law.facts J e));
  mine = agree.mine ∙ ap (λ s. counted law.after s (law.facts J e)) before.mine
      ∙ sym (counted-append law.after (law.state []) (in_order law.facts J) (law.facts J e));
}

-- the law of all good entries, where every entry of good ones agrees
pub holds : {E S F D : Type 0} (law : Law E S F D) (Good : List E → Type 0) → ((J : List E) (e : E) → Good (e ∷ J) → Good J)
    → ((J : List E) (e : E) → Good (e ∷ J) → OneMore law J e) → (J : List E) → Good J → Holds law J
holds law Good before agrees [] good = record { told = refl; mine = refl }
holds law Good before agrees (e ∷ J) good = next_holds law J e (agrees J e good) (holds law Good before agrees J (before J e good))

-- what one more entry tells is what the facts that it adds give, after those before it
pub adds : {E S F D : Type 0} (law : Law E S F D) (J : List E) (e : E) → Holds law J → Holds law (e ∷ J)
    → given law.gives law.after (law.state []) (in_order law.facts (e ∷ J)) ≡ given law.gives law.after (law.state []) (in_order law.facts J) ++ law.tells J e
adds law J e before now = sym now.told ∙ ap (λ ds. ds ++ law.tells J e) before.told

-- entries with equal facts tell the same
pub same_told : {E S F D : Type 0} (law : Law E S F D) (J K : List E) → Holds law J → Holds law K → in_order law.facts J ≡ in_order law.facts K → in_order law.tells J ≡ in_order law.tells K
same_told law J K first second same = first.told ∙ ap (given law.gives law.after (law.state [])) same ∙ sym second.told
