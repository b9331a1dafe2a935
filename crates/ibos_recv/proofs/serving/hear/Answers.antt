use Rattle.std.proofs.Common.{◌≡◌, ℕ, ◌∷◌, [], ◌++◌, Ok, Err, false, refl, sym, ◌∙◌, ap, subst}
use Rattle.std.specs.Prelude.{take}
use Rattle.std.proofs.lemmas.List.{append-nil}
use Rattle.ibos_kinds.specs.declared.outcome.Item.{Item}
use Rattle.ibos_kinds.specs.declared.outcome.Item.TheVariants.{Arrived}
use Rattle.ibos_kinds.specs.Bells.{aim_of}
use Rattle.ibos_flow.specs.Flows.{bound_by}
use Rattle.ibos_recv.proofs.Hearings.{counts-own, frames-arrived, frames-own, frames_for, heard-bytes, heard-lost, heard-own, then-lost, then-own}
use Rattle.ibos_recv.proofs.Landings.{landing_is}
use Rattle.ibos_recv.proofs.Words.{Instance, IsClaimed, IsSpent, address_of, bytes_at, frames_at, frames_of, held_in, landing, unread_at, unread_of}
use Rattle.ibos_recv.proofs.serving.hear.Goals as goal

pub push-loan-requires-clause-hands : goal.push-loan-requires-clause-hands
push-loan-requires-clause-hands c = (c.args.mem.now, c.requires.hands.3)

pub returns-in_ok-bytes-in-Ok-clause-item : goal.returns-in_ok-bytes-in-Ok-clause-item
returns-in_ok-bytes-in-Ok-clause-item c =
    let w = bytes_at c.args.mem.now (address_of c.args.loan.place) c.args.len in
    let same : take c.from.result c.bytes.result.now ≡ w = heard-bytes c.args.mem.now c.args.loan.place c.from.result c.args.len c.bytes.result.now c.from.ensures c.requires.size c.bytes.ensures.value in
    let r : Instance × ℕ = (c.in-Ok.who, c.in-Ok.flow) in
    let answer : landing_is (Ok r) ≡ landing (bound_by c.args.flows.now) (unread_of c.args.inboxes.now) (aim_of c.args.local.now w) = c.in-Ok.ensures.answer ∙ ap (λ v. landing (bound_by c.args.flows.now) (unread_of c.args.inboxes.now) (aim_of c.args.local.now v)) same in
    ap (λ bs. Arrived c.in-Ok.who c.in-Ok.flow bs) (c.in_ok-bytes-in-Ok.ensures ∙ same) ∙ sym (heard-own (bound_by c.args.flows.now) (unread_of c.args.inboxes.now) w r (aim_of c.args.local.now w) answer)

pub returns-in_ok-bytes-in-Ok-clause-unread : goal.returns-in_ok-bytes-in-Ok-clause-unread
returns-in_ok-bytes-in-Ok-clause-unread c p =
    let w = bytes_at c.args.mem.now (address_of c.args.loan.place) c.args.len in
    let same : take c.from.result c.bytes.result.now ≡ w = heard-bytes c.args.mem.now c.args.loan.place c.from.result c.args.len c.bytes.result.now c.from.ensures c.requires.size c.bytes.ensures.value in
    let r : Instance × ℕ = (c.in-Ok.who, c.in-Ok.flow) in
    let answer : landing_is (Ok r) ≡ landing (bound_by c.args.flows.now) (unread_of c.args.inboxes.now) (aim_of c.args.local.now w) = c.in-Ok.ensures.answer ∙ ap (λ v. landing (bound_by c.args.flows.now) (unread_of c.args.inboxes.now) (aim_of c.args.local.now v)) same in
    counts-own c.args.inboxes.now c.push-loan.new.self c.in-Ok.who c.push-loan.ensures.unread (λ q other. ap (λ x. unread_at x) (c.push-loan.ensures.others q other)) p ∙ sym (then-own (bound_by c.args.flows.now) (unread_of c.args.inboxes.now) w r (aim_of c.args.local.now w) answer p)

pub returns-in_ok-bytes-in-Ok-clause-frames : goal.returns-in_ok-bytes-in-Ok-clause-frames
returns-in_ok-bytes-in-Ok-clause-frames c p =
    let w = bytes_at c.args.mem.now (address_of c.args.loan.place) c.args.len in
    let same : take c.from.result c.bytes.result.now ≡ w = heard-bytes c.args.mem.now c.args.loan.place c.from.result c.args.len c.bytes.result.now c.from.ensures c.requires.size c.bytes.ensures.value in
    let r : Instance × ℕ = (c.in-Ok.who, c.in-Ok.flow) in
    let answer : landing_is (Ok r) ≡ landing (bound_by c.args.flows.now) (unread_of c.args.inboxes.now) (aim_of c.args.local.now w) = c.in-Ok.ensures.answer ∙ ap (λ v. landing (bound_by c.args.flows.now) (unread_of c.args.inboxes.now) (aim_of c.args.local.now v)) same in
    frames-own c.args.mem.now c.args.mem.now c.args.inboxes.now c.push-loan.new.self c.in-Ok.who w (c.push-loan.ensures.own c.args.mem.now) (λ q other. ap (λ x. frames_at c.args.mem.now x) (c.push-loan.ensures.others q other)) p
    ∙ ap (λ fs. frames_of c.args.mem.now c.args.inboxes.now p ++ fs) (sym (frames-arrived c.in-Ok.who p c.in-Ok.flow w) ∙ ap (λ (i : Item). frames_for p (i ∷ [])) (sym (heard-own (bound_by c.args.flows.now) (unread_of c.args.inboxes.now) w r (aim_of c.args.local.now w) answer)))

pub returns-in-Err-clause-item : goal.returns-in-Err-clause-item
returns-in-Err-clause-item c =
    let w = bytes_at c.args.mem.now (address_of c.args.loan.place) c.args.len in
    let same : take c.from.result c.bytes.result.now ≡ w = heard-bytes c.args.mem.now c.args.loan.place c.from.result c.args.len c.bytes.result.now c.from.ensures c.requires.size c.bytes.ensures.value in
    let answer : landing_is (Err c.in-Err.rule) ≡ landing (bound_by c.args.flows.now) (unread_of c.args.inboxes.now) (aim_of c.args.local.now w) = c.in-Err.ensures.answer ∙ ap (λ v. landing (bound_by c.args.flows.now) (unread_of c.args.inboxes.now) (aim_of c.args.local.now v)) same in
    sym (heard-lost (bound_by c.args.flows.now) (unread_of c.args.inboxes.now) w c.in-Err.rule (aim_of c.args.local.now w) answer)

pub returns-in-Err-clause-unread : goal.returns-in-Err-clause-unread
returns-in-Err-clause-unread c p =
    let w = bytes_at c.args.mem.now (address_of c.args.loan.place) c.args.len in
    let same : take c.from.result c.bytes.result.now ≡ w = heard-bytes c.args.mem.now c.args.loan.place c.from.result c.args.len c.bytes.result.now c.from.ensures c.requires.size c.bytes.ensures.value in
    let answer : landing_is (Err c.in-Err.rule) ≡ landing (bound_by c.args.flows.now) (unread_of c.args.inboxes.now) (aim_of c.args.local.now w) = c.in-Err.ensures.answer ∙ ap (λ v. landing (bound_by c.args.flows.now) (unread_of c.args.inboxes.now) (aim_of c.args.local.now v)) same in
    sym (then-lost (bound_by c.args.flows.now) (unread_of c.args.inboxes.now) w c.in-Err.rule (aim_of c.args.local.now w) answer p)

pub returns-in-Err-clause-frames : goal.returns-in-Err-clause-frames
returns-in-Err-clause-frames c p =
    let w = bytes_at c.args.mem.now (address_of c.args.loan.place) c.args.len in
    let same : take c.from.result c.bytes.result.now ≡ w = heard-bytes c.args.mem.now c.args.loan.place c.from.result c.args.len c.bytes.result.now c.from.ensures c.requires.size c.bytes.ensures.value in
    let answer : landing_is (Err c.in-Err.rule) ≡ landing (bound_by c.args.flows.now) (unread_of c.args.inboxes.now) (aim_of c.args.local.now w) = c.in-Err.ensures.answer ∙ ap (λ v. landing (bound_by c.args.flows.now) (unread_of c.args.inboxes.now) (aim_of c.args.local.now v)) same in
    sym (append-nil (frames_of c.args.mem.now c.args.inboxes.now p)) ∙ ap (λ (i : Item). frames_of c.args.mem.now c.args.inboxes.now p ++ frames_for p (i ∷ [])) (sym (heard-lost (bound_by c.args.flows.now) (unread_of c.args.inboxes.now) w c.in-Err.rule (aim_of c.args.local.now w) answer))

pub returns-in_err-bytes-in-Ok-clause-spent : goal.returns-in_err-bytes-in-Ok-clause-spent
returns-in_err-bytes-in-Ok-clause-spent c =
    let w = bytes_at c.args.mem.now (address_of c.args.loan.place) c.args.len in
    let same : take c.from.result c.bytes.result.now ≡ w = heard-bytes c.args.mem.now c.args.loan.place c.from.result c.args.len c.bytes.result.now c.from.ensures c.requires.size c.bytes.ensures.value in
    let r : Instance × ℕ = (c.in-Ok.who, c.in-Ok.flow) in
    let answer : landing_is (Ok r) ≡ landing (bound_by c.args.flows.now) (unread_of c.args.inboxes.now) (aim_of c.args.local.now w) = c.in-Ok.ensures.answer ∙ ap (λ v. landing (bound_by c.args.flows.now) (unread_of c.args.inboxes.now) (aim_of c.args.local.now v)) same in
    let passed = c.push-loan.ensures.passed in
    let claimed = subst (λ n. IsClaimed c.push-loan.new.pool c.give.new.self n false) c.push-loan.ensures.name c.give.ensures.claimed in
    subst (λ x. IsSpent x c.args.loan (held_in c.args.inboxes.now) (held_in c.push-loan.new.self) c.args.pool.now c.give.new.self) answer (c.push-loan.new.pool, passed, claimed)

pub returns-in_ok-bytes-in-Ok-clause-spent : goal.returns-in_ok-bytes-in-Ok-clause-spent
returns-in_ok-bytes-in-Ok-clause-spent c =
    let w = bytes_at c.args.mem.now (address_of c.args.loan.place) c.args.len in
    let same : take c.from.result c.bytes.result.now ≡ w = heard-bytes c.args.mem.now c.args.loan.place c.from.result c.args.len c.bytes.result.now c.from.ensures c.requires.size c.bytes.ensures.value in
    let r : Instance × ℕ = (c.in-Ok.who, c.in-Ok.flow) in
    let answer : landing_is (Ok r) ≡ landing (bound_by c.args.flows.now) (unread_of c.args.inboxes.now) (aim_of c.args.local.now w) = c.in-Ok.ensures.answer ∙ ap (λ v. landing (bound_by c.args.flows.now) (unread_of c.args.inboxes.now) (aim_of c.args.local.now v)) same in
    let passed = c.push-loan.ensures.passed in
    let claimed = subst (λ n. IsClaimed c.push-loan.new.pool c.give.new.self n false) c.push-loan.ensures.name c.give.ensures.claimed in
    subst (λ x. IsSpent x c.args.loan (held_in c.args.inboxes.now) (held_in c.push-loan.new.self) c.args.pool.now c.give.new.self) answer (c.push-loan.new.pool, passed, claimed)

pub returns-in-Err-clause-spent : goal.returns-in-Err-clause-spent
returns-in-Err-clause-spent c =
    let w = bytes_at c.args.mem.now (address_of c.args.loan.place) c.args.len in
    let same : take c.from.result c.bytes.result.now ≡ w = heard-bytes c.args.mem.now c.args.loan.place c.from.result c.args.len c.bytes.result.now c.from.ensures c.requires.size c.bytes.ensures.value in
    let answer : landing_is (Err c.in-Err.rule) ≡ landing (bound_by c.args.flows.now) (unread_of c.args.inboxes.now) (aim_of c.args.local.now w) = c.in-Err.ensures.answer ∙ ap (λ v. landing (bound_by c.args.flows.now) (unread_of c.args.inboxes.now) (aim_of c.args.local.now v)) same in
    subst (λ x. IsSpent x c.args.loan (held_in c.args.inboxes.now) (held_in c.args.inboxes.now) c.args.pool.now c.give-in-Err.new.self) answer (refl, c.give-in-Err.ensures.claimed)
