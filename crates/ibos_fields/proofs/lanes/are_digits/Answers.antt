use Rattle.std.proofs.Common.{leb, nat_lt, cond, refl}
use Rattle.ibos_fields.proofs.VectorLanes.{combined, splat_is, itself, mask_is_none}
use Rattle.ibos_fields.proofs.lanes.are_digits.Goals as goal

pub returns : goal.returns
returns c =
    let v = c.args.codes in
    mask_is_none _ (λ code. nat_lt code 16) v _ c.fits-codes (combined (λ a b. cond (leb a b) 255 0) _ _ v (splat_is v 16 16 c.fits-codes.0) (itself v)) refl
