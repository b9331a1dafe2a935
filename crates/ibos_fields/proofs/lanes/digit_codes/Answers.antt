use Rattle.std.proofs.Common.{ℕ, refl}
use Rattle.std.proofs.lemmas.Simd.{zip2_splat}
use Rattle.ibos_fields.proofs.VectorLanes.{combined, splat_is, chosen, lanes_are}
use Rattle.ibos_fields.proofs.HexDigits.{code}
use Rattle.ibos_fields.proofs.lanes.digit_codes.Goals as goal

pub returns : goal.returns
returns c =
    let v = c.args.bytes in
    let long = c.fits-bytes.0 in
    let digit = zip2_splat {Y = ℕ} _ v 16 48 long in
    let letter = combined _ _ _ v (zip2_splat {Y = ℕ} _ v 16 32 long) (splat_is v 16 97 long) in
    let is_digit = combined _ _ _ v digit (splat_is v 16 10 long) in
    let is_letter = combined _ _ _ v letter (splat_is v 16 6 long) in
    let others = chosen _ _ _ v is_letter (combined _ _ _ v letter (splat_is v 16 10 long)) (splat_is v 16 255 long) in
    lanes_are _ code v _ c.fits-bytes.1 (chosen _ _ _ v is_digit digit others) refl
