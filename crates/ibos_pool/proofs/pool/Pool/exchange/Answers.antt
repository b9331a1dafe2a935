use Rattle.ibos_pool.proofs.ExchangeLemmas.{exchange}
use Rattle.ibos_pool.proofs.pool.Pool.exchange.Goals as goal

pub invariant_of-self : goal.invariant_of-self
invariant_of-self c =
    let is = exchange c.self.inside.areas.items (record { name = c.one.inside.name; place = c.one.inside.place }) (record { name = c.other.inside.name; place = c.other.inside.place }) c.self.invariant
    (rw (← c.self.view_is, ← c.one.view_is) at c.requires.one) (rw (← c.self.view_is, ← c.other.view_is) at c.requires.other)
    c.from.result c.from.ensures c.index_mut.result.now c.index_mut.ensures.value c.move_to.new.self c.move_to.ensures
    c.from-2.result c.from-2.ensures c.index_mut-2.result.now c.index_mut-2.ensures.value c.move_to-2.new.self c.move_to-2.ensures in
    is.sound

pub returns-clause-exchanged : goal.returns-clause-exchanged
returns-clause-exchanged c =
    let is = exchange c.self.inside.areas.items (record { name = c.one.inside.name; place = c.one.inside.place }) (record { name = c.other.inside.name; place = c.other.inside.place }) c.self.invariant
    (rw (← c.self.view_is, ← c.one.view_is) at c.requires.one) (rw (← c.self.view_is, ← c.other.view_is) at c.requires.other)
    c.from.result c.from.ensures c.index_mut.result.now c.index_mut.ensures.value c.move_to.new.self c.move_to.ensures
    c.from-2.result c.from-2.ensures c.index_mut-2.result.now c.index_mut-2.ensures.value c.move_to-2.new.self c.move_to-2.ensures in
    rw (← c.self.view_is, ← c.one.view_is, ← c.other.view_is) is.exchanged

pub returns-clause-first_loan : goal.returns-clause-first_loan
returns-clause-first_loan c =
    let is = exchange c.self.inside.areas.items (record { name = c.one.inside.name; place = c.one.inside.place }) (record { name = c.other.inside.name; place = c.other.inside.place }) c.self.invariant
    (rw (← c.self.view_is, ← c.one.view_is) at c.requires.one) (rw (← c.self.view_is, ← c.other.view_is) at c.requires.other)
    c.from.result c.from.ensures c.index_mut.result.now c.index_mut.ensures.value c.move_to.new.self c.move_to.ensures
    c.from-2.result c.from-2.ensures c.index_mut-2.result.now c.index_mut-2.ensures.value c.move_to-2.new.self c.move_to-2.ensures in
    is.first

pub returns-clause-second_loan : goal.returns-clause-second_loan
returns-clause-second_loan c =
    let is = exchange c.self.inside.areas.items (record { name = c.one.inside.name; place = c.one.inside.place }) (record { name = c.other.inside.name; place = c.other.inside.place }) c.self.invariant
    (rw (← c.self.view_is, ← c.one.view_is) at c.requires.one) (rw (← c.self.view_is, ← c.other.view_is) at c.requires.other)
    c.from.result c.from.ensures c.index_mut.result.now c.index_mut.ensures.value c.move_to.new.self c.move_to.ensures
    c.from-2.result c.from-2.ensures c.index_mut-2.result.now c.index_mut-2.ensures.value c.move_to-2.new.self c.move_to-2.ensures in
    is.second

pub returns-clause-one_to_one : goal.returns-clause-one_to_one
returns-clause-one_to_one c =
    let is = exchange c.self.inside.areas.items (record { name = c.one.inside.name; place = c.one.inside.place }) (record { name = c.other.inside.name; place = c.other.inside.place }) c.self.invariant
    (rw (← c.self.view_is, ← c.one.view_is) at c.requires.one) (rw (← c.self.view_is, ← c.other.view_is) at c.requires.other)
    c.from.result c.from.ensures c.index_mut.result.now c.index_mut.ensures.value c.move_to.new.self c.move_to.ensures
    c.from-2.result c.from-2.ensures c.index_mut-2.result.now c.index_mut-2.ensures.value c.move_to-2.new.self c.move_to-2.ensures in
    let sound = is.sound in sound.one_to_one
