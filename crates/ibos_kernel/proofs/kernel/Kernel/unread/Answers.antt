use Rattle.std.proofs.Common.{length, sym, ap}
use Rattle.ibos_kernel.specs.Tables.{Tables}
use Rattle.ibos_model.specs.Network.{Network}
use Rattle.ibos_kernel.proofs.KernelSteps.{told_held}
use Rattle.ibos_kernel.proofs.kernel.Kernel.unread.Goals as goal

pub returns : goal.returns
returns c = λ J stands.
    told_held c.unread.result (λ (n : Network). length (n.unread c.args.who)) J c.args.self.now c.args.who c.self.inside.net (ap (λ (k : Tables). k.net) (sym c.self.view_is)) stands c.requires.lives c.unread.ensures
