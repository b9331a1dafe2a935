use Rattle.std.proofs.Common.{◌≡◌, ◌∙◌, ap, None}
use Rattle.std.specs.Prelude.{bytes_eq}
use Rattle.std.specs.Map.{lookup}
use Rattle.indexmap.proofs.CallerLemmas.{insert_entry-new}
use Rattle.ibos_origin.specs.Hosts.{address_of}
use Rattle.ibos_origin.specs.Index.{named_hosts}
use Rattle.ibos_origin.proofs.HostNames.{lookup_named, named_hosts-push}
use Rattle.ibos_origin.proofs.index.HostIndex.push.Goals as goal

pub returns-clause-ok : goal.returns-clause-ok
returns-clause-ok c =
    let name = c.in_ok-from_slice.field-0 in
    let entries = c.self.inside.addrs.entries in
    let absent : lookup (λ key. bytes_eq name.items key.items) entries ≡ None =
    lookup_named entries name.items ∙ ap (address_of (named_hosts entries)) c.in_ok-from_slice.ensures.items
    ∙ ap (λ hosts. address_of hosts c.args.name.now) c.self.view_is ∙ c.requires in
    let last = c.in_ok-insert.ensures.entries ∙ insert_entry-new _ c.self.inside.addrs name c.args.addr absent in
    named_hosts-push _ _ _ _ _ _ last c.in_ok-from_slice.ensures.items c.self.view_is
