use Rattle.std.proofs.Common.{ℕ}
use Rattle.ibos_kinds.specs.declared.names.Dir.TheVariants.{In, Out}
use Rattle.ibos_kinds.specs.Datagrams.{Datagram}
use Rattle.ibos_make.specs.Building.{parts_for, receiver, sender}
use Rattle.ibos_make.proofs.Built.{FitsSpec, built_in, built_out}
use Rattle.ibos_make.proofs.Joined.{none_broken}
use Rattle.ibos_make.proofs.building.build.Goals as goal
use Rattle.ibos_make.proofs.building.build.Goals.{In_ok-frame}

fits : (c : In_ok-frame) → FitsSpec c.args.spec.now
fits c = record {
  to = c.requires.to;
  from = c.requires.from;
  src = c.in_ok-frame.ensures.addrs.0;
  dst = c.in_ok-frame.ensures.addrs.1;
  src_port = c.in_ok-frame.ensures.ports.0;
  dst_port = c.in_ok-frame.ensures.ports.1;
  payload = c.requires.payload;
}

comes_in : (c : In_ok-frame) (gateway : ℕ) → Datagram (receiver c.args.spec.now gateway) In c.in_ok-frame.frame (parts_for c.args.spec.now)
comes_in c gateway = built_in c.args.spec.now gateway c.in_ok-frame.frame (fits c) c.in_ok-frame.ensures.bytes

goes_out : (c : In_ok-frame) → Datagram (sender c.args.spec.now) Out c.in_ok-frame.frame (parts_for c.args.spec.now)
goes_out c = built_out c.args.spec.now c.in_ok-frame.frame (fits c) c.in_ok-frame.ensures.bytes

pub returns-clause-comes_in : goal.returns-clause-comes_in
returns-clause-comes_in c = comes_in c

pub returns-clause-goes_out : goal.returns-clause-goes_out
returns-clause-goes_out c = goes_out c

pub returns-clause-none_in : goal.returns-clause-none_in
returns-clause-none_in c = λ gateway. none_broken (receiver c.args.spec.now gateway) In c.in_ok-frame.frame (parts_for c.args.spec.now) (comes_in c gateway)

pub returns-clause-none_out : goal.returns-clause-none_out
returns-clause-none_out c = none_broken (sender c.args.spec.now) Out c.in_ok-frame.frame (parts_for c.args.spec.now) (goes_out c)
