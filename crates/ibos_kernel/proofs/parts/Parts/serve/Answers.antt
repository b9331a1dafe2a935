use Rattle.std.proofs.Common.{◌∙◌, ap}
use Rattle.ibos_kernel.specs.DamagedRows.{damage_of}
use Rattle.ibos_kernel.specs.Tables.{Parts}
use Rattle.ibos_kernel.proofs.DamagedChrome.{rest_kept}
use Rattle.ibos_kernel.proofs.parts.Parts.serve.Goals as goal

pub redraw-requires-clause-rest : goal.redraw-requires-clause-rest
redraw-requires-clause-rest c =
    let a = c.args in
    rest_kept a.self.now c.make_and_follow.new.self a.act.now c.make_and_follow.new.out c.damage_of-damage.result (c.damage_of-damage.ensures ∙ ap (λ (p : Parts). damage_of p.tabs p.focus a.act.now) c.self.view_is) c.requires.tied.composed c.in_ok-make_and_follow.ensures.makes
