use Rattle.ibos_store.specs.Stores.{key_of, object_at}
use Rattle.ibos_store.proofs.Answered.{label_given}
use Rattle.ibos_store.proofs.store.Store.answer.Goals as goal

pub returns-clause-sealed : goal.returns-clause-sealed
returns-clause-sealed c =
    label_given (object_at c.args.self.now) (key_of c.args.self.now c.args.who c.args.request) c.args.own.now c.args.origin.now c.args.key.now c.args.version c.in_ok-bytes.bytes c.in_ok-bytes.ensures
