-- A MAC address, pair by pair.
use Rattle.std.proofs.Common.{◌≡◌, ℕ, ◌+◌, ◌*◌, ◌^◌, ◌<◌, true, false, List, ◌∷◌, Option, Some, None, length, map, fold, lit<, arith}
use Rattle.std.proofs.Math.Nat.{pow-le-pow_right}
use Rattle.std.specs.Prelude.{◌==◌, ◌&&◌, if◌then◌else◌}
use Rattle.std.specs.List.{list_all}
use Rattle.std.specs.Str.Parse.{digits_value}
use Rattle.std.proofs.lemmas.Bool.Decides.{nat_tests}
use Rattle.std.proofs.lemmas.List.Splits.{length-slice_split}
use Rattle.ibos_text.specs.Parts.{parts_of}
use Rattle.ibos_origin.specs.Addresses.{is_pair, mac_in}

-- the address whose first `count` pairs are `mac`
abbrev pub mac_from : ℕ → ℕ → List (List ℕ) → Option ℕ
mac_from count mac pairs =
    if (count + length pairs == 6) && list_all is_pair pairs then Some (fold (λ number byte. number * 256 + byte) mac (map (digits_value 16) pairs)) else None

pub mac_in-start : (word : List ℕ) → mac_from 0 0 (parts_of 58 word) ≡ mac_in word
unfolding mac_in
mac_in-start word = grind (arith, nat_tests)

pub mac_from-pair : (count mac : ℕ) (pair : List ℕ) (pairs : List (List ℕ)) → is_pair pair ≡ true
    → mac_from (count + 1) (mac * 256 + digits_value 16 pair) pairs ≡ mac_from count mac (pair ∷ pairs)
mac_from-pair count mac pair pairs is = grind (arith, nat_tests)

pub mac_from-wrong : (count mac : ℕ) (pair : List ℕ) (pairs : List (List ℕ)) → is_pair pair ≡ false → mac_from count mac (pair ∷ pairs) ≡ None
mac_from-wrong count mac pair pairs wrong = grind (arith, nat_tests)

-- after six pairs no part may be left
pub mac_from-full : (mac : ℕ) (text : List ℕ) → mac_from 6 mac (parts_of 58 text) ≡ None
mac_from-full mac text = grind (arith, nat_tests, length-slice_split (λ b. b == 58) text)

-- fewer than six pairs leave room for one more
pub mac_below : (count mac : ℕ) → mac < 256 ^ count → count < 6 → mac < 256 ^ 5
mac_below count mac small few = omega (arith, pow-le-pow_right {n = 256} (lit< tt) {i = count} {j = 5} (omega arith))
