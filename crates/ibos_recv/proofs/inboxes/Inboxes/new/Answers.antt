use Rattle.std.proofs.Common.{◌≡◌, ◌∙◌, ap, arith, replicate, None}
use Rattle.ibos_recv.proofs.TablePlaces.{held-nil, inbox-nil}
use Rattle.ibos_recv.proofs.Words.{Inboxes, held_in, inbox_by}
use Rattle.ibos_recv.proofs.inboxes.Inboxes.new.Goals as goal

pub returns-clause-none : goal.returns-clause-none
returns-clause-none c who =
    let all : c.filled._place ≡ 2048 = omega arith in
    ap (λ (t : Inboxes). inbox_by t who) (c.filled.invariant.items ∙ ap (λ n. replicate n None) all) ∙ inbox-nil who

pub returns-clause-held : goal.returns-clause-held
returns-clause-held c = ap (λ (t : Inboxes). held_in t) c.filled.invariant.items ∙ held-nil c.filled._place
