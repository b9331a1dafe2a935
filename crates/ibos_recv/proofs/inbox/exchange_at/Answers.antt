use Rattle.std.proofs.Common.{◌-◌, arith, ◌∙◌, ap, set, vec_len}
use Rattle.std.proofs.lemmas.List.{get_or_read}
use Rattle.ibos_recv.proofs.Passings.{put-back}
use Rattle.ibos_recv.proofs.Words.{Held, no_buffer}
use Rattle.ibos_recv.proofs.inbox.exchange_at.Goals as goal

pub returns-clause-items : goal.returns-clause-items
returns-clause-items c =
    let loans = c.args.loans.now in
    let less = c.swap_remove-free.new.self in
    let longer = c.push_reserved.new.self in
    let done = c.swap.new.self in
    let F : Held → Held = λ h. record { name = h.name; place = c.args.loan.place } in
    let free = get_or_read loans.items c.args.at c.swap_remove-free.result c.requires.at c.swap_remove-free.ensures.value no_buffer in
    let filled = c.exchange-loan.ensures.second ∙ ap F free in
    put-back loans.items less.items longer.items done.items (vec_len loans) c.args.at (c.len-last.result - 1) c.exchange-loan.result.1 loans.ok.0 (omega (arith, loans.ok.0, c.requires.at)) (omega (arith, less.ok.0, c.swap_remove-free.ensures.len))
    (omega (arith, c.len-last.ensures, c.push_reserved.ensures.len, longer.ok.0, c.swap_remove-free.ensures.len)) c.swap_remove-free.ensures.by_index.0 c.swap_remove-free.ensures.by_index.1 c.push_reserved.ensures.items c.swap.ensures.by_index
    (omega (arith, done.ok.0, c.swap.ensures.len, c.push_reserved.ensures.len, c.swap_remove-free.ensures.len))
    ∙ ap (λ h. set loans.items c.args.at h) filled
