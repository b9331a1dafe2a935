use Rattle.ibos_store.specs.Stores.{objects_of}
use Rattle.ibos_kernel.proofs.StoredPuts.{short_if}
use Rattle.ibos_kernel.proofs.storage.put.Goals as goal

pub tell_put-requires-clause-short : goal.tell_put-requires-clause-short
tell_put-requires-clause-short c =
    short_if c.args.key.now c.args.bytes.now (objects_of c.args.store.now c.args.origin.now) c.in-Ok.version c.in-Ok.ensures.answer
