use Rattle.std.proofs.Common.{ℕ, nat_lt, cond, refl}
use Rattle.std.proofs.lemmas.Simd.{zip2_splat}
use Rattle.ibos_fields.specs.Printable.{is_printable}
use Rattle.ibos_fields.proofs.VectorLanes.{combined, splat_is, mask_is_none}
use Rattle.ibos_fields.proofs.lanes.are_printable.Goals as goal

pub returns : goal.returns
returns c =
    let v = c.args.bytes in
    let long = c.fits-bytes.0 in
    mask_is_none _ is_printable v _ c.fits-bytes (combined (λ a b. cond (nat_lt a b) 255 0) _ _ v (splat_is v 16 94 long) (zip2_splat {Y = ℕ} _ v 16 32 long)) refl
