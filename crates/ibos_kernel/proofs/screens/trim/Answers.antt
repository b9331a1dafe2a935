use Rattle.std.proofs.Common.{◌≡◌, take, sym, ◌∙◌, ap, arith}
use Rattle.ibos_kernel.proofs.RowsTrimmed.{front-space, front-other}
use Rattle.ibos_kernel.proofs.screens.trim.Goals as goal
use Rattle.ibos_kernel.proofs.screens.trim.Goals.{then-spaces-test+else-cells-len-eq32, else-spaces-test}

pub spaces-preserved : goal.spaces-preserved
spaces-preserved c =
    let within = c.spaces.invariant.within in
    let some = c.spaces-test.true in
    record {
      within = omega (arith, within);
      same = sym (front-space c.spaces.len c.args.cells.now some within c.if-cells-len-eq32.true) ∙ c.spaces.invariant.same;
    }

pub returns : goal.returns
returns c =
    let within = c.spaces.invariant.within in
    let same = c.spaces.invariant.same in
    elim c.spaces-test.branch [
      | then-spaces-test+else-cells-len-eq32 w ↦ sym (front-other c.spaces.len c.args.cells.now w.spaces-test.true within w.if-cells-len-eq32.false) ∙ same
      | else-spaces-test w ↦ let none : c.spaces.len ≡ 0 = omega (arith, w.spaces-test.false) in ap (λ n. take n c.args.cells.now) none ∙ (rw none at same)
    ]
