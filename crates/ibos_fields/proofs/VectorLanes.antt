-- Vectors that were computed lane by lane.
use Rattle.std.proofs.Common.{◌≡◌, ℕ, ◌+◌, ◌*◌, ◌%◌, ◌^◌, eqb, ◌<◌, zero, suc, Bool, true, false, not, cond, ltb, ◌&&◌, List, [], ◌∷◌, map, length, get_or, replicate, Fits, w8, ltb-true, refl, sym, ap, ap₂, ◌∙◌, arith}
use Rattle.std.specs.List.{list_all}
use Rattle.std.proofs.lemmas.Bool.{agree_below, agree_below_at, eqb-true}
use Rattle.std.proofs.lemmas.Bool.Decides.{nat_tests}
use Rattle.std.proofs.lemmas.List.{ext_get_or, get_or-map, length-map}
use Rattle.std.proofs.lemmas.Simd.{SwzOk, SwzOk-from_below, get_or-swz_l_below, length-swz_l, map-map, mask_l-mod, swz_l, zip2-map}
use lib.Lanes.{zip2, sel_l, mask_l, top, Each1}

-- an operation on two vectors that were computed from v
pub combined : (h : ℕ → ℕ → ℕ) (f g : ℕ → ℕ) (v : List ℕ) {a b : List ℕ} → a ≡ map f v → b ≡ map g v → zip2 h a b ≡ map (λ x. h (f x) (g x)) v
combined h f g v p q = ap₂ (zip2 h) p q ∙ zip2-map h f g v

pub splat_is : (v : List ℕ) (n y : ℕ) → length v ≡ n → replicate n y ≡ map (λ _. y) v
splat_is [] n y e = ap (λ k. replicate k y) (sym e)
splat_is (x ∷ xs) n y e = ap (λ k. replicate k y) (sym e) ∙ ap (λ r. y ∷ r) (splat_is xs (length xs) y refl)

pub itself : (v : List ℕ) → v ≡ map (λ x. x) v
itself [] = refl
itself (x ∷ xs) = ap (λ r. x ∷ r) (itself xs)

chosen-map : (m f g : ℕ → ℕ) (v : List ℕ) → sel_l (map (top 7) (map m v)) (map f v) (map g v) ≡ map (λ x. cond (top 7 (m x)) (f x) (g x)) v
chosen-map m f g [] = refl
chosen-map m f g (x ∷ xs) = ap (λ r. cond (top 7 (m x)) (f x) (g x) ∷ r) (chosen-map m f g xs)

-- a choice by a mask
pub chosen : (m f g : ℕ → ℕ) (v : List ℕ) {a b c : List ℕ} → a ≡ map m v → b ≡ map f v → c ≡ map g v → sel_l (map (top 7) a) b c ≡ map (λ x. cond (top 7 (m x)) (f x) (g x)) v
chosen m f g v p q r = rw (p, q, r) (chosen-map m f g v)

agree_on_bytes : (f g : ℕ → ℕ) (v : List ℕ) → Each1 (Fits w8) v → agree_below (λ x. eqb (f x) (g x)) (λ _. true) 256 ≡ true → map f v ≡ map g v
agree_on_bytes f g [] fits all = refl
agree_on_bytes f g (x ∷ xs) fits all =
    let first : f x ≡ g x = eqb-true _ _ (agree_below_at (λ y. eqb (f y) (g y)) (λ _. true) 256 x all fits.0.fits) in
    ap₂ (λ (y : ℕ) (r : List ℕ). y ∷ r) first (agree_on_bytes f g xs fits.1 all)

-- what two functions make of a vector that agree at each byte
pub lanes_are : (f g : ℕ → ℕ) (v z : List ℕ) → Each1 (Fits w8) v → z ≡ map f v → agree_below (λ x. eqb (f x) (g x)) (λ _. true) 256 ≡ true → z ≡ map g v
lanes_are f g v z fits is all = is ∙ agree_on_bytes f g v fits all

-- a lane whose mask isn't set
unset_lane : (t u r : Bool) (m : ℕ) → not t ≡ u → eqb m 0 ≡ r → eqb (cond t 1 0 + 2 * m) 0 ≡ (u && r)
unset_lane true true r m opposite rest = cc opposite
unset_lane true false r m opposite rest = grind (arith, nat_tests)
unset_lane false true r m opposite rest = grind (arith, nat_tests, rest)
unset_lane false false r m opposite rest = cc opposite

none_set : (t q : ℕ → Bool) (v : List ℕ) → Each1 (Fits w8) v → agree_below (λ x. not (t x)) q 256 ≡ true → eqb (mask_l (map t v)) 0 ≡ list_all q v
none_set t q [] fits all = refl
none_set t q (x ∷ xs) fits all =
    unset_lane (t x) (q x) _ _ (agree_below_at (λ y. not (t y)) q 256 x all fits.0.fits) (none_set t q xs fits.1 all)

-- no lane's mask is set where each byte passes the opposite test
pub mask_is_none : (f : ℕ → ℕ) (q : ℕ → Bool) (v z : List ℕ) → (length v ≡ 16) × Each1 (Fits w8) v → z ≡ map f v → agree_below (λ x. not (top 7 (f x))) q 256 ≡ true → eqb (mask_l (map (top 7) z) % 18446744073709551616) 0 ≡ list_all q v
mask_is_none f q v z fits is all =
    let t : ℕ → Bool = λ x. top 7 (f x) in
    let mask : mask_l (map (top 7) z) % 2 ^ 64 ≡ mask_l (map t v) = ap (λ l. mask_l l % 2 ^ 64) (ap (map (top 7)) is ∙ map-map (top 7) f v) ∙ mask_l-mod (map t v) 64 (omega (arith, length-map v t, fits.0)) in
    ap (λ m. eqb m 0) mask ∙ none_set t q v fits.1 all

-- ---- look-ups in a table of 16

below_16 : (g : ℕ → ℕ) (v : List ℕ) → Each1 (Fits w8) v → agree_below (λ x. ltb (g x) 16) (λ _. true) 256 ≡ true → Each1 (λ j. j < 16) (map g v)
below_16 g [] fits all = tt
below_16 g (x ∷ xs) fits all = (ltb-true _ _ (agree_below_at (λ y. ltb (g y) 16) (λ _. true) 256 x all fits.0.fits), below_16 g xs fits.1 all)

at_below : (js : List ℕ) (i : ℕ) → Each1 (λ j. j < 16) js → get_or js i 0 < 16
at_below [] i small = omega arith
at_below (j ∷ js) zero small = small.0
at_below (j ∷ js) (suc i) small = at_below js i small.1

taken : (t js : List ℕ) → length js ≡ 16 → Each1 (λ j. j < 16) js → swz_l w8 16 t 0 js ≡ map (λ j. get_or t j 0) js
taken t js long small =
    ext_get_or 0 _ _ (length-swz_l w8 16 t 0 js ∙ sym (length-map js (λ j. get_or t j 0))) (λ i h.
    let within : i < length js = omega (arith, length-swz_l w8 16 t 0 js) in
    get_or-swz_l_below w8 16 t 0 js i within (at_below js i small)
    ∙ ap (λ k. get_or t k 0) (omega (arith, within, long))
    ∙ sym (get_or-map (λ j. get_or t j 0) js i 0 0 within))

-- places g x below 16 are those of a table's bytes
pub places_ok : (g : ℕ → ℕ) (v js : List ℕ) → (length v ≡ 16) × Each1 (Fits w8) v → js ≡ map g v → agree_below (λ x. ltb (g x) 16) (λ _. true) 256 ≡ true → SwzOk w8 16 16 0 js
places_ok g v js fits is all = rw is (SwzOk-from_below w8 16 1 16 0 (map g v) refl (omega (arith, length-map v g, fits.0)) (below_16 g v fits.1 all))

-- what a table has at such places
pub looked_up : (t : List ℕ) (g : ℕ → ℕ) (v js : List ℕ) → (length v ≡ 16) × Each1 (Fits w8) v → js ≡ map g v → agree_below (λ x. ltb (g x) 16) (λ _. true) 256 ≡ true → swz_l w8 16 t 0 js ≡ map (λ x. get_or t (g x) 0) v
looked_up t g v js fits is all =
    ap (swz_l w8 16 t 0) is ∙ taken t (map g v) (length-map v g ∙ fits.0) (below_16 g v fits.1 all) ∙ map-map (λ j. get_or t j 0) g v
