-- Texts whose bytes pass a test, a block at a time.
use Rattle.std.proofs.Common.{◌≡◌, ℕ, ◌+◌, ◌-◌, ◌≤◌, List, Bool, true, false, ◌&&◌, length, take, drop, refl, sym, ◌∙◌, ap, arith}
use Rattle.std.specs.List.{list_all}
use Rattle.std.proofs.Math.Seq.{take-add}
use Rattle.std.proofs.lemmas.List.{length-drop, take_all, take-append-drop}
use Rattle.std.proofs.lemmas.List.Folds.{list_all-append}

-- what stands from a place on
from_place : (text : List ℕ) (at : ℕ) → take (length text - at) (drop at text) ≡ drop at text
from_place text at = take_all (length text - at) (drop at text) (omega (arith, length-drop at text))

-- a block more passes
pub passed_more : (p : ℕ → Bool) (text : List ℕ) (at : ℕ) → list_all p (take at text) ≡ true → list_all p (take 16 (take (length text - at) (drop at text))) ≡ true → list_all p (take (at + 16) text) ≡ true
passed_more p text at front block =
    ap (list_all p) (take-add at 16 text) ∙ list_all-append p (take at text) (take 16 (drop at text))
    ∙ rw (front, sym (ap (λ (bytes : List ℕ). list_all p (take 16 bytes)) (from_place text at)) ∙ block) refl

parts : (p : ℕ → Bool) (text : List ℕ) (at : ℕ) → list_all p text ≡ (list_all p (take at text) && list_all p (drop at text))
parts p text at = ap (list_all p) (sym (take-append-drop at text)) ∙ list_all-append p (take at text) (drop at text)

false_second : (t u : Bool) → u ≡ false → (t && u) ≡ false
false_second true u h = h
false_second false u h = refl

-- a block fails
pub fails_at : (p : ℕ → Bool) (text : List ℕ) (at : ℕ) → list_all p (take 16 (take (length text - at) (drop at text))) ≡ false → list_all p text ≡ false
fails_at p text at block =
    let here : list_all p (take 16 (drop at text)) ≡ false = sym (ap (λ (bytes : List ℕ). list_all p (take 16 bytes)) (from_place text at)) ∙ block in
    parts p text at ∙ false_second (list_all p (take at text)) (list_all p (drop at text)) (parts p (drop at text) 16 ∙ rw here refl)

true_first : (t u : Bool) → (t && u) ≡ true → t ≡ true
true_first true u h = refl
true_first false u h = h

front_passes : (p : ℕ → Bool) (text : List ℕ) (k more : ℕ) → list_all p (take (k + more) text) ≡ true → list_all p (take k text) ≡ true
front_passes p text k more all =
    true_first (list_all p (take k text)) (list_all p (take more (drop k text)))
    (sym (list_all-append p (take k text) (take more (drop k text))) ∙ ap (list_all p) (sym (take-add k more text)) ∙ all)

-- the last 16 bytes decide where all before some place among them pass
pub last_decides : (p : ℕ → Bool) (text : List ℕ) (at k : ℕ) → k ≤ at → length text ≡ k + 16 → list_all p (take at text) ≡ true → list_all p (take 16 (take (length text - k) (drop k text))) ≡ list_all p text
last_decides p text at k within long passed =
    let place : k + (at - k) ≡ at = omega (arith, within) in
    let front : list_all p (take k text) ≡ true = front_passes p text k (at - k) (ap (λ n. list_all p (take n text)) place ∙ passed) in
    let block : take 16 (drop k text) ≡ drop k text = take_all 16 (drop k text) (omega (arith, length-drop k text, long)) in
    ap (λ (bytes : List ℕ). list_all p (take 16 bytes)) (from_place text k) ∙ ap (list_all p) block
    ∙ sym (parts p text k ∙ rw front refl)
