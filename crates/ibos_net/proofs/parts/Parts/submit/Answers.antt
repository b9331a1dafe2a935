use Rattle.std.proofs.Common.{refl, sym, subst, ap, ◌∙◌}
use Rattle.ibos_kinds.specs.declared.act.Act.TheVariants.{Submit}
use Rattle.ibos_net.proofs.Words.{Denied, Fine, IsSafe, Item, List, NetState, Outcome, [], ◌++◌, ◌≡◌, bound_by, bytes_of, count_of, held_in, held_to_send, home_by, is_away, submit_rule, take}
use Rattle.ibos_net.proofs.Outcomes.{outcome-of, served-now}
use Rattle.ibos_net.proofs.SubmitsMade.{IsSubmitted, denied-by, found, items_of, not-away, on-denied, on-ok, refused-serves, submitted-safe, submitted-serves, with_sends}
use Rattle.ibos_net.proofs.parts.Parts.submit.Goals.{in-Ok, in-Err-Denied, in-Err-Memory}
use Rattle.ibos_net.proofs.parts.Parts.submit.Goals as goal

pub submit-requires-clause-hands : goal.submit-requires-clause-hands
submit-requires-clause-hands c =
    let p = c.self.inside in
    let t : NetState = record { med = p.med; mem = p.mem; names = p.pool; flows = p.flows; inboxes = p.inboxes; sends = p.sends } in
    let safe : IsSafe t = subst IsSafe (sym c.self.view_is) c.requires.safe in
    (t.names, c.hands_are_parted.ensures.back t.names t.mem (held_in t.inboxes) (held_to_send t.sends) safe.hands)

pub returns-clause-serves : goal.returns-clause-serves
returns-clause-serves c =
    let p = c.self.inside in
    let t : NetState = record { med = p.med; mem = p.mem; names = p.pool; flows = p.flows; inboxes = p.inboxes; sends = p.sends } in
    let s' = c.submit.new.self in
    let e = c.submit.ensures in
    elim c.match-submit.branch [
      | in-Ok w ↦
          let done = w.in-Ok.ensures in
          let more : List Item = items_of (count_of t.sends) c.args.who (take c.args.len (bytes_of t.mem (home_by t.sends c.args.who c.args.buffer))) in
          let at = found (home_by t.sends c.args.who c.args.buffer) _ (not-away c.args.local.now c.args.who (bound_by t.flows c.args.who) (home_by t.sends c.args.who c.args.buffer) c.args.len (bytes_of t.mem (home_by t.sends c.args.who c.args.buffer)) done.answer) done.waiting in
          let is : IsSubmitted t.sends s' c.args.who c.args.buffer c.args.len at.0 = record { home = at.1; waiting = at.2; own = done.own; others = e.others; opened = e.open; sizes = e.sizes; posts = e.posts; returned = e.returned; told = e.told } in
          on-ok c.match-submit.result (λ regs log.
          served-now c.args.local.now (Submit c.args.who c.args.buffer c.args.len) _ _ t _ (with_sends s' t) _ regs regs log log
          (w.out-is ∙ outcome-of c.submit.new.out Fine more (e.head ∙ c.requires.head) (done.items ∙ ap (λ (xs : List Item). xs ++ more) c.requires.items)) c.self.view_is refl
          (λ life remote n s each lives. submitted-serves c.args.local.now life remote n t s' regs log c.args.who c.args.buffer c.args.len at.0 s each lives c.requires.buffer done.answer is))
      | in-Err-Denied w ↦
          let told = w.in-Err-Denied.ensures in
          let rule = w.in-Err-Denied.rule in
          let fault = w.in-Err-Denied.field-0-is in
          let breaks = denied-by w.in-Err-Denied.field-0 rule (submit_rule c.args.local.now c.args.who (bound_by t.flows c.args.who) (is_away t.sends c.args.who c.args.buffer) c.args.len (bytes_of t.mem (home_by t.sends c.args.who c.args.buffer))) fault told.answer in
          let kept : c.submit.new.out ≡ c.args.out.now = on-denied w.in-Err-Denied.field-0 rule fault told.denied in
          on-ok c.match-submit.result (λ regs log.
          served-now c.args.local.now (Submit c.args.who c.args.buffer c.args.len) _ _ t _ (with_sends s' t) _ regs regs log log
          (w.out-is ∙ outcome-of _ (Denied rule) [] refl (ap (λ (o : Outcome). o.items) kept ∙ c.requires.items)) c.self.view_is refl
          (rw told.err (λ life remote n s each lives. refused-serves c.args.local.now life remote n t regs log c.args.who c.args.buffer c.args.len rule s each lives c.requires.buffer breaks)))
      | in-Err-Memory w ↦ rw w.result-is tt
    ]

pub returns-clause-safe : goal.returns-clause-safe
returns-clause-safe c =
    let p = c.self.inside in
    let t : NetState = record { med = p.med; mem = p.mem; names = p.pool; flows = p.flows; inboxes = p.inboxes; sends = p.sends } in
    let safe : IsSafe t = subst IsSafe (sym c.self.view_is) c.requires.safe in
    let s' = c.submit.new.self in
    let e = c.submit.ensures in
    let parted = c.hands_are_parted.ensures in
    submitted-safe t s' safe
    (parted.swapped t.names t.mem (held_to_send s') (held_in t.inboxes) (e.hands t.names t.mem (held_in t.inboxes) (parted.swapped t.names t.mem (held_in t.inboxes) (held_to_send t.sends) safe.hands)))
    e.open e.posts e.returned e.told
