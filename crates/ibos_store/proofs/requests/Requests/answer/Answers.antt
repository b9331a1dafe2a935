use Rattle.std.proofs.Common.{◌∙◌, ap, rules, List}
use Rattle.std.specs.Prelude.{not}
use Rattle.std.proofs.lemmas.Fn.{filter_same}
use Rattle.ibos_kinds.specs.Requests.{Asked, is_numbered, without_request}
use Rattle.ibos_store.proofs.requests.Requests.answer.Goals as goal

pub returns : goal.returns
returns c =
    let kept = filter_same _ (λ (asked : Asked). not (is_numbered c.args.number asked)) _ (λ x b f' r. search rules) _ _ c.retain.ensures.filtered in
    ap (λ (asked : List Asked). record { count = c.self.inside.count; unanswered = asked }) kept ∙ ap (without_request c.args.number) c.self.view_is
