use Rattle.std.proofs.Common.{arith}
use Rattle.ibos_page.proofs.Places.{kept-new, seen-empty}
use Rattle.ibos_page.proofs.pages.Pages.new.Goals as goal

pub invariant_of-result : goal.invariant_of-result
invariant_of-result c = kept-new c.places.places.items c.in_ok-with_capacity.field-0 (omega (arith, c.places.invariant.length, c.places.places.ok.0)) c.places.invariant.empty c.in_ok-with_capacity.ensures.empty c.in_ok-with_capacity.ensures.capacity

pub returns-clause-empty : goal.returns-clause-empty
returns-clause-empty c = seen-empty c.in_ok-with_capacity.field-0 c.places.places.items c.places.invariant.empty
