use Rattle.std.proofs.Common.{List, ℕ, ◌∙◌, ap, subst, rules}
use Rattle.std.specs.List.{flat_map}
use Rattle.ibos_outcome.specs.Printed.{Appends}
use Rattle.ibos_outcome.proofs.HexTexts.{wide-digits}
use Rattle.ibos_outcome.proofs.printed.push_wide.Goals as goal

pub returns : goal.returns
returns c =
    let P : List ℕ → Type 0 = λ x. Appends c.push_slice.result c.args.text.now c.push_slice.new.self x in
    let pieces : P c.as_flattened.result.now = search rules in
    subst P (c.as_flattened.ensures.value ∙ ap (flat_map (λ xs. xs)) c.as_slice.ensures
    ∙ wide-digits c.args.bytes.now c.encode_block.result.0 c.encode_block.result.1 c.encode_block-2.result.0 c.encode_block-2.result.1
    c.encode_block-3.result.0 c.encode_block-3.result.1 c.encode_block-4.result.0 c.encode_block-4.result.1
    c.encode_block.ensures c.encode_block-2.ensures c.encode_block-3.ensures c.encode_block-4.ensures) pieces
