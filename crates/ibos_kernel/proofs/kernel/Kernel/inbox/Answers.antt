use Rattle.std.proofs.Common.{[], sym, ap}
use Rattle.std.specs.Prelude.{slice_index_or}
use Rattle.ibos_kernel.specs.Tables.{Tables}
use Rattle.ibos_model.specs.Network.{Network}
use Rattle.ibos_kernel.proofs.KernelSteps.{told_held}
use Rattle.ibos_kernel.proofs.kernel.Kernel.inbox.Goals as goal

pub returns : goal.returns
returns c = λ J stands.
    told_held c.inbox.result.now (λ (n : Network). slice_index_or (n.unread c.args.who) c.args.k []) J c.args.self.now c.args.who c.self.inside.net (ap (λ (k : Tables). k.net) (sym c.self.view_is)) stands c.requires.lives c.inbox.ensures
