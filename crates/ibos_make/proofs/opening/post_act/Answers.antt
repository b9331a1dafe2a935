use Rattle.std.proofs.Common.{◌≡◌, ℕ, ◌+◌, [], ◌∷◌, map, Some, ap, sym, ◌∙◌, arith}
use Rattle.std.specs.List.{range_with_len}
use Rattle.ibos_kinds.specs.declared.act.Act.TheVariants.{RxPost, RegWrite}
use Rattle.ibos_make.specs.Drill.{handle}
use Rattle.ibos_make.proofs.Places.{slice_get-front, slice_get-range}
use Rattle.ibos_make.proofs.opening.post_act.Goals as goal

pub returns-then-place-clause-act : goal.returns-then-place-clause-act
returns-then-place-clause-act c =
    let same : 0 + c.args.place ≡ c.args.place = omega arith in
    slice_get-front (map (λ (i : ℕ). RxPost i (handle i 0)) (range_with_len 0 63)) (RegWrite 0x2818 0x3f ∷ []) c.args.place (omega arith)
    ∙ slice_get-range (λ (i : ℕ). RxPost i (handle i 0)) 0 63 c.args.place (omega arith)
    ∙ ap (λ i. Some (RxPost i (handle i 0))) same
    ∙ ap (λ i. Some (RxPost i (handle c.args.place 0))) (sym c.from.ensures)
