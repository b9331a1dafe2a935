use Rattle.std.proofs.Common.{rules, refl}
use Rattle.ibos_send.proofs.PartedHands.{clash}
use Rattle.ibos_send.proofs.Takings.{taking-begins, taking-free, taking-named, taking-next}
use Rattle.ibos_send.proofs.homes.take_all.Goals as goal

pub taken-init : goal.taken-init
taken-init c = let a = c.in_ok-loans.ensures in record {
  taking = rw a.items (taking-begins c.args.area c.args.pool.now c.areas-areas.ensures.one_to_one);
  count = search rules;
  room = search rules;
}

pub take-requires : goal.take-requires
take-requires c = taking-named c.args.area c.taken.index c.args.pool.now c.taken.pool c.taken.loans.items c.requires c.taken-test.true c.taken.invariant.taking

pub unreachable-requires : goal.unreachable-requires
unreachable-requires c = clash _ (c.in-None.ensures.none.0 refl) (taking-free c.args.area c.taken.index c.args.pool.now c.taken.pool c.taken.loans.items c.requires c.taken-test.true c.taken.invariant.taking)

pub taken-preserved : goal.taken-preserved
taken-preserved c = record {
  taking =
      let p = c.push_reserved.ensures in
      rw p.items (taking-next c.other_names_keep_the_relation.ensures.whole_taken c.args.area c.taken.index c.args.pool.now c.taken.pool c.take.new.self c.taken.loans.items c.in-Some.loan c.requires
      c.taken-test.true c.taken.invariant.taking c.in-Some.ensures.name c.in-Some.ensures.loan c.in-Some.ensures.claimed c.in-Some.ensures.one_to_one);
  count = search rules;
  room = search rules;
}
