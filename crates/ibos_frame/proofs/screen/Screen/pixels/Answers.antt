use Rattle.std.proofs.Common.{◌+◌, ◌*◌, ◌∙◌, ap, get_or}
use Rattle.ibos_frame.specs.ScreenStates.{ScreenState, seen_at}
use Rattle.ibos_frame.proofs.ScreenPixels.{pixel-seen}
use Rattle.ibos_frame.proofs.screen.Screen.pixels.Goals as goal

pub returns-clause-pixels : goal.returns-clause-pixels
returns-clause-pixels c r col rows columns =
    let s = c.self.inside in
    let f : ScreenState = record { contents = s.contents; shown = s.shown; chrome = s.rows.chrome } in
    ap (λ xs. get_or xs (80 * r + col) 0) c.as_slice.ensures.value ∙ pixel-seen f s.rows.body c.as_slice.ensures.chrome c.self.invariant r col rows columns ∙ ap (λ (g : ScreenState). seen_at g r col) c.self.view_is
