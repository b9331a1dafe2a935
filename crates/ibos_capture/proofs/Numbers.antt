-- Numbers in either byte order, in the first bytes.
use Rattle.std.proofs.Common.{◌≡◌, ◌∙◌, ℕ, ◌+◌, ◌≤◌, List, ◌++◌, length, take, drop, ap, sym, arith}
use Rattle.std.proofs.lemmas.List.{drop-take, take-take}
use Rattle.byteorder.specs.Numbers.{big_from-append, little_from-append, big_from-take, little_from-take}
use Rattle.ibos_capture.specs.declared.fields.Endian.{Endian}
use Rattle.ibos_capture.specs.declared.fields.Endian.TheVariants.{Big, Little}
use Rattle.ibos_capture.specs.Fields.{number}

pub number-append : (endian : Endian) (n : ℕ) (xs ys : List ℕ) → n ≤ length xs → number endian n (xs ++ ys) ≡ number endian n xs
unfolding number
number-append Big n xs ys h = big_from-append n xs ys h
number-append Little n xs ys h = little_from-append n xs ys h

pub number-take : (endian : Endian) (n : ℕ) (xs : List ℕ) → number endian n (take n xs) ≡ number endian n xs
unfolding number
number-take Big n xs = big_from-take 0 n n xs (omega arith)
number-take Little n xs = little_from-take 0 n n xs (omega arith)

-- a number that lies in a front of the bytes
pub number_front : (endian : Endian) (at k m : ℕ) (xs : List ℕ) → k ≤ m → number endian k (drop at (take (at + m) xs)) ≡ number endian k (drop at xs)
number_front endian at k m xs fits =
    ap (number endian k) (drop-take at m xs) ∙ sym (number-take endian k (take m (drop at xs))) ∙ ap (number endian k) (take-take k m (drop at xs) fits) ∙ number-take endian k (drop at xs)
