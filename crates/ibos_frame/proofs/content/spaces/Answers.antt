use Rattle.std.proofs.Common.{◌≡◌, ℕ, ◌-◌, ◌∙◌, ap, arith, List, [], ◌++◌, take, replicate, vec_len}
use Rattle.std.proofs.lemmas.List.{take_all}
use Rattle.ibos_frame.proofs.content.spaces.Goals as goal

filled : (xs new : List ℕ) (n m : ℕ) → xs ≡ [] → m ≡ 0 → new ≡ take n xs ++ replicate (n - m) 32 → new ≡ replicate n 32
filled xs new n m none zero is =
    let front : take n xs ≡ [] = ap (λ ys. take n ys) none ∙ take_all n [] (omega arith) in
    let rest : n - m ≡ n = omega (arith, zero) in
    is ∙ ap (λ ys. ys ++ replicate (n - m) 32) front ∙ ap (λ k. replicate k 32) rest

pub returns : goal.returns
returns c = filled c.new-spaces.result.items c.resize.new.self.items c.args.count (vec_len c.new-spaces.result) c.new-spaces.ensures.items c.new-spaces.ensures.len c.in_ok-resize.ensures.items
