-- Lines that are spelled, word by word.
use Rattle.std.proofs.Common.{◌≡◌, ℕ, ◌+◌, List, [], ◌∷◌, ◌++◌, Bool, true, false, not, cond, length, take, drop, refl, ◌∙◌, ap, arith}
use Rattle.std.specs.Prelude.{◌==◌, ◌&&◌}
use Rattle.std.specs.List.{list_all}
use Rattle.std.proofs.Math.Seq.{take-append_seam, drop-append_seam}
use Rattle.std.proofs.lemmas.Bool.{cond-false}
use Rattle.std.proofs.lemmas.Bool.Decides.{nat_tests}
use Rattle.std.proofs.lemmas.List.Folds.{list_all-append}
use Rattle.ibos_text.specs.Parts.{len_before}
use Rattle.ibos_text.specs.Words.{after_spaces, first_word, after_word, has_word}
use Rattle.ibos_fields.specs.Printable.{is_printable}
use Rattle.ibos_fields.specs.Printable.{is_graph, IsWord}

first_of : (first rest : Bool) → (first && rest) ≡ true → (first ≡ true) × (rest ≡ true)
first_of true rest h = (refl, h)
first_of false rest h = cc

pub all_weaker : (p q : ℕ → Bool) → ((b : ℕ) → p b ≡ true → q b ≡ true) → (xs : List ℕ) → list_all p xs ≡ true → list_all q xs ≡ true
all_weaker p q each [] all = refl
all_weaker p q each (b ∷ xs) all =
    let h = first_of (p b) (list_all p xs) all in
    rw (each b h.0) (all_weaker p q each xs h.1)

passed : (t : Bool) (n len : ℕ) → t ≡ false → n ≡ len → cond (not t) (1 + n) 0 ≡ 1 + len
passed false n len is same = omega (arith, same)
passed true n len is same = cc

no_byte : (t : Bool) → not t ≡ true → t ≡ false
no_byte true h = cc
no_byte false h = refl

-- what stands before a stop
pub len_before-front : (stop : ℕ) (word tail : List ℕ) → list_all (λ b. not (b == stop)) word ≡ true → len_before stop tail ≡ 0 → len_before stop (word ++ tail) ≡ length word
len_before-front stop [] tail all none = none
len_before-front stop (b ∷ word) tail all none =
    let h = first_of (not (b == stop)) (list_all (λ c. not (c == stop)) word) all in
    passed (b == stop) (len_before stop (word ++ tail)) (length word) (no_byte (b == stop) h.0) (len_before-front stop word tail h.1 none) ∙ omega arith

no_space : (b : ℕ) → is_graph b ≡ true → not (b == 32) ≡ true
no_space b h = grind (arith, nat_tests, h)

pub after_spaces-word : (word tail : List ℕ) → IsWord word → after_spaces (word ++ tail) ≡ word ++ tail
after_spaces-word [] tail is = absurd (omega (arith, is.some))
after_spaces-word (b ∷ word) tail is =
    let h = first_of (is_graph b) (list_all is_graph word) is.graph in
    cond-false _ _ _ (no_byte (b == 32) (no_space b h.0))

len_is : (word tail : List ℕ) → IsWord word → len_before 32 tail ≡ 0 → len_before 32 (word ++ tail) ≡ length word
len_is word tail is none = len_before-front 32 word tail (all_weaker is_graph (λ b. not (b == 32)) no_space word is.graph) none

pub first_is : (word tail : List ℕ) → IsWord word → len_before 32 tail ≡ 0 → first_word (word ++ tail) ≡ word
unfolding first_word
first_is word tail is none =
    ap (λ line. take (len_before 32 line) line) (after_spaces-word word tail is) ∙ ap (λ n. take n (word ++ tail)) (len_is word tail is none) ∙ take-append_seam word tail

pub after_is : (word tail : List ℕ) → IsWord word → len_before 32 tail ≡ 0 → after_word (word ++ tail) ≡ tail
unfolding after_word
after_is word tail is none =
    ap (λ line. drop (len_before 32 line) line) (after_spaces-word word tail is) ∙ ap (λ n. drop n (word ++ tail)) (len_is word tail is none) ∙ drop-append_seam word tail

pub has_is : (word tail : List ℕ) → IsWord word → has_word (word ++ tail) ≡ true
unfolding has_word
has_is [] tail is = absurd (omega (arith, is.some))
has_is (b ∷ word) tail is =
    let h = first_of (is_graph b) (list_all is_graph word) is.graph in
    rw (no_space b h.0) refl

-- a space before a word changes nothing
pub first_spaced : (line : List ℕ) → first_word (32 ∷ line) ≡ first_word line
unfolding first_word
first_spaced line = refl

pub after_spaced : (line : List ℕ) → after_word (32 ∷ line) ≡ after_word line
unfolding after_word
after_spaced line = refl

pub has_spaced : (line : List ℕ) → has_word (32 ∷ line) ≡ has_word line
unfolding has_word
has_spaced line = refl

pub has_none : has_word [] ≡ false
unfolding has_word
has_none = refl

-- printable lines
graph_printable : (b : ℕ) → is_graph b ≡ true → is_printable b ≡ true
graph_printable b h = grind (arith, nat_tests, h)

pub word_printable : (word : List ℕ) → IsWord word → list_all is_printable word ≡ true
word_printable word is = all_weaker is_graph is_printable graph_printable word is.graph

pub spaced_printable : (word rest : List ℕ) → IsWord word → list_all is_printable rest ≡ true → list_all is_printable (word ++ 32 ∷ rest) ≡ true
spaced_printable word rest is all = list_all-append is_printable word (32 ∷ rest) ∙ rw (word_printable word is, all) refl
