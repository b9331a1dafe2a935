use Rattle.std.proofs.Common.{◌∙◌, ap}
use Rattle.ibos_store.specs.Stores.{StoreState, requests_of}
use Rattle.ibos_kernel.proofs.ActsStand.{new_holds}
use Rattle.ibos_kernel.proofs.KernelSteps.{new_agrees, new_counted, new_net, new_sound, new_stands}
use Rattle.ibos_kernel.proofs.kernel.Kernel.new.Goals as goal

pub invariant_of-result : goal.invariant_of-result
invariant_of-result g c = λ usable.
    let made = c.compose.ensures in
    let tabs = c.in_ok-tabs.ensures in
    let pages = new_holds c.compose.new.self c.in_ok-tabs.tabs made.tabs tabs.room tabs.seats tabs.active (made.jars ∙ c.new-3.ensures) (ap (λ (s : StoreState). s.origins) made.store ∙ c.new-4.ensures.objects) (λ q. ap (λ (s : StoreState). requests_of s q) made.store ∙ c.new-4.ensures.requests q) (made.focus ∙ c.new-5.ensures) made.beside made.composed in
    new_sound c.compose.new.self c.in_ok-net.net pages (new_net c.compose.new.self.hosts c.in_ok-net.net c.in_ok-net.ensures.stands)
    (new_counted c.compose.new.self.tabs c.in_ok-tabs.tabs c.in_ok-net.net made.tabs tabs.seats c.in_ok-net.ensures.areas) c.in_ok-net.ensures.posts

pub returns-clause-stands : goal.returns-clause-stands
returns-clause-stands g c =
    let made = c.compose.ensures in
    let tabs = c.in_ok-tabs.ensures in
    let pages = new_holds c.compose.new.self c.in_ok-tabs.tabs made.tabs tabs.room tabs.seats tabs.active (made.jars ∙ c.new-3.ensures) (ap (λ (s : StoreState). s.origins) made.store ∙ c.new-4.ensures.objects) (λ q. ap (λ (s : StoreState). requests_of s q) made.store ∙ c.new-4.ensures.requests q) (made.focus ∙ c.new-5.ensures) made.beside made.composed in
    new_stands c.compose.new.self c.in_ok-net.net pages (new_net c.compose.new.self.hosts c.in_ok-net.net c.in_ok-net.ensures.stands)

pub returns-clause-agrees : goal.returns-clause-agrees
returns-clause-agrees g c =
    new_agrees c.args.hosts (g.N.Nic.regs c.new-6.new.nic) (g.N.Nic.log c.new-6.new.nic) c.local-local.result c.local-local.ensures
    (λ r. c.in_ok-net.ensures.registers r) (c.in_ok-net.ensures.log ∙ c.requires.log)
