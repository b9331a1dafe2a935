use Rattle.std.proofs.Common.{◌∙◌, None, Some}
use Rattle.ibos_store.proofs.Places.{key_found}
use Rattle.ibos_store.proofs.table.RequestTable.key.Goals as goal

pub returns-in-Some : goal.returns-in-Some
returns-in-Some c = c.key.ensures ∙ key_found c.deref.result.now c.args.self.now c.args.who c.place_of.result c.args.number (Some c.in-Some.requests.now) (c.deref.ensures.value ∙ c.self.view_is) c.place_of.ensures.place c.place_of.ensures.tab c.in-Some.ensures

pub returns-in-None : goal.returns-in-None
returns-in-None c = key_found c.deref.result.now c.args.self.now c.args.who c.place_of.result c.args.number None (c.deref.ensures.value ∙ c.self.view_is) c.place_of.ensures.place c.place_of.ensures.tab c.in-None.ensures
