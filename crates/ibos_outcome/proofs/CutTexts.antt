-- Texts that were cut short.
use Rattle.std.proofs.Common.{◌≡◌, ℕ, Result, Ok, Err, ◌<◌, List, ◌++◌, length, take, drop, get_or, suc, sym, ap, subst, ◌∙◌, append_assoc, drop-cons}
use Rattle.std.proofs.lemmas.List.{take-append-drop}
use Rattle.std.proofs.lemmas.List.Concat.{flat_map-append}
use Rattle.std.specs.List.{flat_map}
use Rattle.ibos_outcome.specs.Printed.{IsCutShort, Appends}

-- the first of two texts was cut short
pub IsCutShort-first : (old new first second : List ℕ) → IsCutShort old new first → IsCutShort old new (first ++ second)
IsCutShort-first old new first second cut = record {
  front = cut.front;
  rest = cut.rest ++ second;
  written = cut.written;
  whole = sym (append_assoc cut.front cut.rest second) ∙ ap (λ text. text ++ second) cut.whole;
}

-- the second was
pub IsCutShort-second : (old between new first second : List ℕ) → between ≡ old ++ first → IsCutShort between new second → IsCutShort old new (first ++ second)
IsCutShort-second old between new first second e cut = record {
  front = first ++ cut.front;
  rest = cut.rest;
  written = cut.written ∙ ap (λ text. text ++ cut.front) e ∙ append_assoc old first cut.front;
  whole = append_assoc first cut.front cut.rest ∙ ap (λ text. first ++ text) cut.whole;
}

-- what appends the second text after the first appends both
pub Appends-second : {T E : Type 0} (result : Result T E) (old between new first second : List ℕ) → between ≡ old ++ first → Appends result between new second → Appends result old new (first ++ second)
Appends-second (Ok x) old between new first second e written = written ∙ ap (λ text. text ++ second) e ∙ append_assoc old first second
Appends-second (Err x) old between new first second e cut = IsCutShort-second old between new first second e cut

-- pieces that are appended in two steps
pub four_more : (a b c d e f g h : List ℕ) → a ++ b ++ c ++ d ++ (e ++ f ++ g ++ h) ≡ a ++ b ++ c ++ d ++ e ++ f ++ g ++ h
four_more a b c d e f g h = simp append_assoc

pub eight_more : (a b c d e f g h i j k l : List ℕ) → a ++ b ++ c ++ d ++ e ++ f ++ g ++ h ++ (i ++ j ++ k ++ l) ≡ a ++ b ++ c ++ d ++ e ++ f ++ g ++ h ++ i ++ j ++ k ++ l
eight_more a b c d e f g h i j k l = simp append_assoc

pub named_more : (x y m n a b c d e f g h : List ℕ) → x ++ y ++ (m ++ n) ++ (a ++ b ++ c ++ d ++ e ++ f ++ g ++ h) ≡ x ++ y ++ m ++ n ++ a ++ b ++ c ++ d ++ e ++ f ++ g ++ h
named_more x y m n a b c d e f g h = simp append_assoc

-- some of the pieces were written, and the next was not
pub IsCutShort-pieces : {X : Type 0} (f : X → List ℕ) (xs : List X) (i : ℕ) (old new : List ℕ) → new ≡ old ++ flat_map f (take i xs) → IsCutShort old new (flat_map f xs)
IsCutShort-pieces f xs i old new written = record {
  front = flat_map f (take i xs);
  rest = flat_map f (drop i xs);
  written = written;
  whole = sym (flat_map-append f (take i xs) (drop i xs)) ∙ ap (flat_map f) (take-append-drop i xs);
}

-- some of the pieces were written, and the next was cut short
pub IsCutShort-in_piece : {X : Type 0} (f : X → List ℕ) (xs : List X) (i : ℕ) (d : X) (old between new : List ℕ) → i < length xs → between ≡ old ++ flat_map f (take i xs) → IsCutShort between new (f (get_or xs i d)) → IsCutShort old new (flat_map f xs)
IsCutShort-in_piece f xs i d old between new within written cut =
    let parts : flat_map f (take i xs) ++ (f (get_or xs i d) ++ flat_map f (drop (suc i) xs)) ≡ flat_map f xs =
    ap (λ rest. flat_map f (take i xs) ++ flat_map f rest) (sym (drop-cons xs i d within)) ∙ sym (flat_map-append f (take i xs) (drop i xs)) ∙ ap (flat_map f) (take-append-drop i xs) in
    subst (IsCutShort old new) parts (IsCutShort-second old between new (flat_map f (take i xs)) _ written (IsCutShort-first between new (f (get_or xs i d)) (flat_map f (drop (suc i) xs)) cut))
