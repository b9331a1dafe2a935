use Rattle.std.proofs.Common.{◌≡◌, ◌-◌, ◌∙◌, ◌++◌, length, sym, ap, arith}
use Rattle.std.proofs.lemmas.List.{take-append-drop, length-take-le, length-drop}
use Rattle.ibos_frame.specs.ScreenStates.{Seen}
use Rattle.ibos_frame.proofs.rows.Rows.as_slice.Goals as goal

pub returns-clause-value : goal.returns-clause-value
returns-clause-value c = c.as_slice.ensures.value ∙ sym (take-append-drop 240 c.self.inside.pixels.items) ∙ ap (λ (s : Seen). s.chrome ++ s.body) c.self.view_is

pub returns-clause-chrome : goal.returns-clause-chrome
returns-clause-chrome c =
    let size : length c.self.inside.pixels.items ≡ 2000 = c.self.invariant in
    sym (ap (λ (s : Seen). length s.chrome) c.self.view_is) ∙ length-take-le 240 c.self.inside.pixels.items (omega (arith, size))

pub returns-clause-body : goal.returns-clause-body
returns-clause-body c =
    let size : length c.self.inside.pixels.items ≡ 2000 = c.self.invariant in
    sym (ap (λ (s : Seen). length s.body) c.self.view_is) ∙ length-drop 240 c.self.inside.pixels.items ∙ ap (λ n. n - 240) size
