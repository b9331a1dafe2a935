use Rattle.std.proofs.Common.{ap}
use Rattle.ibos_store.specs.Stores.{StoreState}
use Rattle.ibos_store.proofs.Finding.{puts_inserted}
use Rattle.ibos_store.proofs.store.Store.put_origin.Goals as goal

pub returns-clause-ok : goal.returns-clause-ok
returns-clause-ok c =
    puts_inserted c.args.origin.now c.args.objects c.in_ok-from_slice.field-0 c.self.inside.origins.entries c.insert.new.self.entries c.args.self.now.origins c.in_ok-insert.ensures.entries c.in_ok-from_slice.ensures.items (ap (λ (s : StoreState). s.origins) c.self.view_is)
