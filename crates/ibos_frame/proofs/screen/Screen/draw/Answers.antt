use Rattle.std.proofs.Common.{◌∙◌, ap}
use Rattle.ibos_frame.specs.ScreenStates.{ScreenState, is_open}
use Rattle.ibos_frame.proofs.BodyDrawn.{body_drawn}
use Rattle.ibos_frame.proofs.screen.Screen.draw.Goals as goal

pub invariant_of-self : goal.invariant_of-self
invariant_of-self c =
    let a = c.args in
    let s = c.self.inside in
    let there = ap (λ (f : ScreenState). is_open f a.who) c.self.view_is ∙ c.requires in
    let drawn = c.draw-then-is_shown in
    body_drawn a.row a.col a.height a.width a.pixels.now s.rows.body drawn.new.self.body drawn.ensures.drawn drawn.ensures.size s.contents c.draw.new.self s.shown a.who
    (c.is_shown.ensures.0 c.if-is_shown.true) c.self.invariant there c.draw.ensures.«open» c.draw.ensures.size c.draw.ensures.own
