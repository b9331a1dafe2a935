use Rattle.std.proofs.Common.{ap, ◌∙◌}
use Rattle.ibos_origin.specs.Hosts.{address_of}
use Rattle.ibos_origin.proofs.HostNames.{lookup_named}
use Rattle.ibos_origin.proofs.index.HostIndex.address.Goals as goal

pub returns : goal.returns
returns c =
    c.copied.ensures ∙ c.get.ensures.value ∙ lookup_named c.self.inside.addrs.entries c.args.name.now
    ∙ ap (λ hosts. address_of hosts c.args.name.now) c.self.view_is
