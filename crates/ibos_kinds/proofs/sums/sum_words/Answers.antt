use Rattle.std.proofs.Common.{◌≡◌, ℕ, ◌+◌, refl, ap, ◌∙◌, arith}
use Rattle.ibos_kinds.specs.Sums.{plain_sum, carried, sum_words}
use Rattle.ibos_kinds.proofs.WordSums.{plain_sum-split, carried-add, carried-le, sum_words-append}
use Rattle.ibos_kinds.proofs.sums.sum_words.Goals as goal

pub loop-rest-preserved : goal.loop-rest-preserved
loop-rest-preserved c =
    let total : ℕ = c.loop-rest.total in
    let piece : ℕ = plain_sum c.split_at.result.0.now in
    let after : ℕ = plain_sum c.split_at.result.1.now in
    let split : plain_sum c.loop-rest.rest.now ≡ piece + after =
    plain_sum-split c.loop-rest.rest.now 32768 (omega arith) ∙ (rw (c.split_at.ensures.front, c.split_at.ensures.back) refl) in
    let now : c.with_piece-total.result ≡ carried (total + piece) = c.with_piece-total.ensures in
    let regroup : total + piece + after ≡ total + (plain_sum c.loop-rest.rest.now) = omega (arith, split) in
    record {
      word = omega (arith, now, carried-le (total + piece));
      so_far = ap (λ n. carried (n + after)) now ∙ carried-add (total + piece) after ∙ ap carried regroup ∙ c.loop-rest.invariant.so_far;
    }

pub returns-clause-parts : goal.returns-clause-parts
unfolding sum_words
returns-clause-parts c = λ first front even start.
    let summed : c.with_piece.result ≡ sum_words c.args.start c.args.bytes.now = c.with_piece.ensures ∙ c.loop-rest.invariant.so_far in
    summed ∙ ap (λ n. sum_words n c.args.bytes.now) start ∙ sum_words-append first front c.args.bytes.now even
