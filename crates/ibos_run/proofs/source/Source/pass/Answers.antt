use Rattle.std.proofs.Common.{◌∙◌, List, ℕ, ap}
use Rattle.std.specs.Prelude.{slice_range}
use Rattle.ibos_run.specs.Sources.{Unread, passed}
use Rattle.ibos_run.proofs.Windows.{slice_passed}
use Rattle.ibos_run.proofs.source.Source.pass.Goals as goal

pub returns : goal.returns
returns c =
    let w = c.self.inside in
    let xs : List ℕ = w.window.items in
    let with_bytes : List ℕ → Unread = λ bytes. record { bytes = bytes; place = w.place; over = w.over } in
    ap (λ n. with_bytes (slice_range xs n w.end)) c.min-self-inside.ensures
    ∙ ap with_bytes (slice_passed xs w.start w.end c.args.len c.self.invariant.ordered)
    ∙ ap (passed c.args.len) c.self.view_is
