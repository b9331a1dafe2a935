use Rattle.ibos_kernel.proofs.KernelSteps.{step_denied, step_few, step_log, step_loses, step_sound, steps}
use Rattle.ibos_kernel.proofs.kernel.Kernel.step.Goals as goal

pub serve-requires-clause-few : goal.serve-requires-clause-few
serve-requires-clause-few g c =
    step_few c.requires.device.0 c.args.self.now c.self.inside.parts c.self.inside.net c.self.inside.acts c.self.inside.usable c.self.view_is c.requires.device.1 c.requires.acts

pub invariant_of-self : goal.invariant_of-self
invariant_of-self g c = λ usable.
    step_sound c.isolation_of_each_entry.ensures c.sends_are_right.ensures.sent c.requires.device.0 c.args.self.now c.self.inside.parts c.serve.new.pages c.self.inside.net c.serve.new.net c.self.inside.acts c.self.inside.usable c.args.act.now c.serve.new.out
    (g.N.Nic.regs c.args.nic.now) (g.N.Nic.regs c.serve.new.nic) (g.N.Nic.log c.args.nic.now) (g.N.Nic.log c.serve.new.nic) c.self.view_is c.requires.device.1 c.requires.device.2 c.in-Ok.ensures.hosts c.in-Ok.ensures.goes
    (c.self.invariant usable) c.in-Ok.ensures.counted c.in-Ok.ensures.posts

pub returns-in-Ok-clause-outcome : goal.returns-in-Ok-clause-outcome
returns-in-Ok-clause-outcome g c = λ J stands agrees.
    (steps c.isolation_of_each_entry.ensures c.sends_are_right.ensures.sent J c.args.self.now c.self.inside.parts c.serve.new.pages c.self.inside.net c.serve.new.net c.self.inside.acts c.self.inside.usable c.args.act.now c.serve.new.out
    (g.N.Nic.regs c.args.nic.now) (g.N.Nic.regs c.serve.new.nic) (g.N.Nic.log c.args.nic.now) (g.N.Nic.log c.serve.new.nic) c.self.view_is stands agrees c.in-Ok.ensures.hosts c.in-Ok.ensures.goes).outcome_is

pub returns-in-Ok-clause-carried : goal.returns-in-Ok-clause-carried
returns-in-Ok-clause-carried g c = λ J stands agrees.
    (steps c.isolation_of_each_entry.ensures c.sends_are_right.ensures.sent J c.args.self.now c.self.inside.parts c.serve.new.pages c.self.inside.net c.serve.new.net c.self.inside.acts c.self.inside.usable c.args.act.now c.serve.new.out
    (g.N.Nic.regs c.args.nic.now) (g.N.Nic.regs c.serve.new.nic) (g.N.Nic.log c.args.nic.now) (g.N.Nic.log c.serve.new.nic) c.self.view_is stands agrees c.in-Ok.ensures.hosts c.in-Ok.ensures.goes).carried

pub returns-in-Ok-clause-sends : goal.returns-in-Ok-clause-sends
returns-in-Ok-clause-sends g c = λ J stands agrees.
    (steps c.isolation_of_each_entry.ensures c.sends_are_right.ensures.sent J c.args.self.now c.self.inside.parts c.serve.new.pages c.self.inside.net c.serve.new.net c.self.inside.acts c.self.inside.usable c.args.act.now c.serve.new.out
    (g.N.Nic.regs c.args.nic.now) (g.N.Nic.regs c.serve.new.nic) (g.N.Nic.log c.args.nic.now) (g.N.Nic.log c.serve.new.nic) c.self.view_is stands agrees c.in-Ok.ensures.hosts c.in-Ok.ensures.goes).sends

pub returns-in-Ok-clause-stands : goal.returns-in-Ok-clause-stands
returns-in-Ok-clause-stands g c = λ J stands agrees.
    (steps c.isolation_of_each_entry.ensures c.sends_are_right.ensures.sent J c.args.self.now c.self.inside.parts c.serve.new.pages c.self.inside.net c.serve.new.net c.self.inside.acts c.self.inside.usable c.args.act.now c.serve.new.out
    (g.N.Nic.regs c.args.nic.now) (g.N.Nic.regs c.serve.new.nic) (g.N.Nic.log c.args.nic.now) (g.N.Nic.log c.serve.new.nic) c.self.view_is stands agrees c.in-Ok.ensures.hosts c.in-Ok.ensures.goes).stands

pub returns-in-Ok-clause-agrees : goal.returns-in-Ok-clause-agrees
returns-in-Ok-clause-agrees g c = λ J stands agrees.
    (steps c.isolation_of_each_entry.ensures c.sends_are_right.ensures.sent J c.args.self.now c.self.inside.parts c.serve.new.pages c.self.inside.net c.serve.new.net c.self.inside.acts c.self.inside.usable c.args.act.now c.serve.new.out
    (g.N.Nic.regs c.args.nic.now) (g.N.Nic.regs c.serve.new.nic) (g.N.Nic.log c.args.nic.now) (g.N.Nic.log c.serve.new.nic) c.self.view_is stands agrees c.in-Ok.ensures.hosts c.in-Ok.ensures.goes).agrees

pub returns-in-Ok-clause-log : goal.returns-in-Ok-clause-log
returns-in-Ok-clause-log g c = λ J stands agrees.
    step_log J c.args.self.now c.self.inside.parts c.self.inside.net c.self.inside.acts c.self.inside.usable c.args.act.now c.serve.new.out (g.N.Nic.regs c.args.nic.now) (g.N.Nic.log c.args.nic.now) (g.N.Nic.log c.serve.new.nic)
    c.self.view_is stands agrees c.in-Ok.ensures.log

pub returns-in-Ok-clause-denied : goal.returns-in-Ok-clause-denied
returns-in-Ok-clause-denied g c = λ denied.
    step_denied c.args.self.now c.self.inside.parts c.serve.new.pages c.self.inside.net c.serve.new.net c.self.inside.acts c.self.inside.usable c.self.view_is
    (c.in-Ok.ensures.denied_pages denied) (c.in-Ok.ensures.denied_net denied)

pub returns-in-Err-clause-loses : goal.returns-in-Err-clause-loses
returns-in-Err-clause-loses g c = λ J stands agrees.
    step_loses J c.args.self.now c.self.inside.parts c.self.inside.net c.self.inside.acts c.self.inside.usable c.args.act.now (g.N.Nic.regs c.args.nic.now) (g.N.Nic.log c.args.nic.now) (g.N.Nic.log c.serve.new.nic)
    c.self.view_is stands agrees c.in-Err.ensures.loses
