use Rattle.std.proofs.Common.{ℕ, refl}
use Rattle.std.proofs.lemmas.Simd.{zip2_splat}
use Rattle.ibos_fields.specs.declared.lanes.TheConstants.{LOWER}
use Rattle.ibos_fields.proofs.VectorLanes.{lanes_are, looked_up, places_ok}
use Rattle.ibos_fields.proofs.EncodedDigits.{low}
use Rattle.ibos_fields.proofs.lanes.low_digits.Goals as goal

pub swizzle : goal.swizzle
swizzle c = places_ok _ c.args.bytes _ c.fits-bytes (zip2_splat {Y = ℕ} _ c.args.bytes 16 15 c.fits-bytes.0) refl

pub returns : goal.returns
returns c =
    let v = c.args.bytes in
    lanes_are _ low v _ c.fits-bytes.1 (looked_up LOWER _ v _ c.fits-bytes (zip2_splat {Y = ℕ} _ v 16 15 c.fits-bytes.0) refl) refl
