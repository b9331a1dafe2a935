use Rattle.std.proofs.Common.{sym, ◌∙◌, ap}
use Rattle.ibos_kinds.specs.declared.act.Act.TheVariants.{Fill, Submit, TxPost, TxBell, WireOut}
use Rattle.ibos_net.proofs.Words.{Bind, Done, List, RegRead, RegWrite, RxBell, RxPost, Unbind, WireIn, ℕ}
use Rattle.ibos_net.proofs.Outcomes.{left-at, on-err, served-at}
use Rattle.ibos_net.proofs.net.Net.serve.Goals as goal

pub returns-in_ok-bind-in-Bind-clause-makes : goal.returns-in_ok-bind-in-Bind-clause-makes
returns-in_ok-bind-in-Bind-clause-makes g c =
    let regs = g.N.Nic.regs c.args.nic.now in
    let log = g.N.Nic.log c.args.nic.now in
    served-at c.args.local.now (Bind c.in-Bind.who c.in-Bind.proto) c.args.act.now c.bind.new.out c.self.inside.parts c.args.self.now c.bind.new.self regs regs log log c.in-Bind.is c.self.view_is (c.in_ok-bind-in-Bind.ensures.serves c.args.local.now regs log)

pub returns-in-Unbind-clause-makes : goal.returns-in-Unbind-clause-makes
returns-in-Unbind-clause-makes g c =
    let regs = g.N.Nic.regs c.args.nic.now in
    let log = g.N.Nic.log c.args.nic.now in
    served-at c.args.local.now (Unbind c.in-Unbind.who c.in-Unbind.flow) c.args.act.now c.unbind.new.out c.self.inside.parts c.args.self.now c.unbind.new.self regs regs log log c.in-Unbind.is c.self.view_is (c.unbind.ensures.serves c.args.local.now regs log)

pub returns-in-Done-clause-makes : goal.returns-in-Done-clause-makes
returns-in-Done-clause-makes g c =
    let regs = g.N.Nic.regs c.args.nic.now in
    let log = g.N.Nic.log c.args.nic.now in
    served-at c.args.local.now (Done c.in-Done.who) c.args.act.now c.done.new.out c.self.inside.parts c.args.self.now c.done.new.self regs regs log log c.in-Done.is c.self.view_is (c.done.ensures.serves c.args.local.now regs log)

pub returns-in_ok-read-in-RegRead-clause-makes : goal.returns-in_ok-read-in-RegRead-clause-makes
returns-in_ok-read-in-RegRead-clause-makes g c =
    let regs = g.N.Nic.regs c.args.nic.now in
    let log = g.N.Nic.log c.args.nic.now in
    served-at c.args.local.now (RegRead c.in-RegRead.offset) c.args.act.now c.read.new.out c.self.inside.parts c.args.self.now c.read.new.self regs (g.N.Nic.regs c.read.new.nic) log (g.N.Nic.log c.read.new.nic) c.in-RegRead.is c.self.view_is (c.in_ok-read-in-RegRead.ensures.serves c.args.local.now)

pub returns-in-RegWrite-clause-makes : goal.returns-in-RegWrite-clause-makes
returns-in-RegWrite-clause-makes g c =
    let regs = g.N.Nic.regs c.args.nic.now in
    let log = g.N.Nic.log c.args.nic.now in
    served-at c.args.local.now (RegWrite c.in-RegWrite.offset c.in-RegWrite.value) c.args.act.now c.write.new.out c.self.inside.parts c.args.self.now c.write.new.self regs (g.N.Nic.regs c.write.new.nic) log (g.N.Nic.log c.write.new.nic) c.in-RegWrite.is c.self.view_is (c.write.ensures.serves c.args.local.now)

pub returns-in-RxPost-clause-makes : goal.returns-in-RxPost-clause-makes
returns-in-RxPost-clause-makes g c =
    let regs = g.N.Nic.regs c.args.nic.now in
    let log = g.N.Nic.log c.args.nic.now in
    served-at c.args.local.now (RxPost c.in-RxPost.slot c.in-RxPost.handle) c.args.act.now c.post.new.out c.self.inside.parts c.args.self.now c.post.new.self regs regs log log c.in-RxPost.is c.self.view_is (c.post.ensures.serves c.args.local.now regs log)

pub returns-in_ok-bell-in-RxBell-clause-makes : goal.returns-in_ok-bell-in-RxBell-clause-makes
returns-in_ok-bell-in-RxBell-clause-makes g c =
    let regs = g.N.Nic.regs c.args.nic.now in
    let log = g.N.Nic.log c.args.nic.now in
    served-at c.args.local.now RxBell c.args.act.now c.bell.new.out c.self.inside.parts c.args.self.now c.bell.new.self regs regs log log c.in-RxBell.is c.self.view_is (c.in_ok-bell-in-RxBell.ensures.serves regs log)

pub returns-in_ok-arrive-in-WireIn-clause-makes : goal.returns-in_ok-arrive-in-WireIn-clause-makes
returns-in_ok-arrive-in-WireIn-clause-makes g c =
    let regs = g.N.Nic.regs c.args.nic.now in
    let log = g.N.Nic.log c.args.nic.now in
    served-at c.args.local.now (WireIn c.as_slice.result.now) c.args.act.now c.arrive.new.out c.self.inside.parts c.args.self.now c.arrive.new.self regs (g.N.Nic.regs c.arrive.new.nic) log (g.N.Nic.log c.arrive.new.nic) (c.in-WireIn.is ∙ ap (λ (f : List ℕ). WireIn f) (sym c.as_slice.ensures)) c.self.view_is (c.in_ok-arrive-in-WireIn.ensures.serves c.args.local.now)

pub returns-in_err-arrive-in-WireIn-clause-loses : goal.returns-in_err-arrive-in-WireIn-clause-loses
returns-in_err-arrive-in-WireIn-clause-loses g c =
    on-err c.from_residual-in_err-arrive-in-WireIn.result (left-at c.args.local.now (WireIn c.as_slice.result.now) c.args.act.now c.self.inside.parts c.args.self.now (g.N.Nic.regs c.args.nic.now) (g.N.Nic.log c.args.nic.now) (g.N.Nic.log c.arrive.new.nic) (c.in-WireIn.is ∙ ap (λ (f : List ℕ). WireIn f) (sym c.as_slice.ensures)) c.self.view_is (c.in_err-arrive-in-WireIn.ensures.leaves c.args.local.now))

pub returns-in-Fill-clause-makes : goal.returns-in-Fill-clause-makes
returns-in-Fill-clause-makes g c =
    let regs = g.N.Nic.regs c.args.nic.now in
    let log = g.N.Nic.log c.args.nic.now in
    served-at c.args.local.now (Fill c.in-Fill.who c.in-Fill.buffer c.in-Fill.place c.as_slice-in-Fill.result.now) c.args.act.now c.fill.new.out c.self.inside.parts c.args.self.now c.fill.new.self regs regs log log (c.in-Fill.is ∙ ap (λ (f : List ℕ). Fill c.in-Fill.who c.in-Fill.buffer c.in-Fill.place f) (sym c.as_slice-in-Fill.ensures)) c.self.view_is (c.fill.ensures.serves c.args.local.now regs log)

pub returns-in_ok-submit-in-Submit-clause-makes : goal.returns-in_ok-submit-in-Submit-clause-makes
returns-in_ok-submit-in-Submit-clause-makes g c =
    let regs = g.N.Nic.regs c.args.nic.now in
    let log = g.N.Nic.log c.args.nic.now in
    served-at c.args.local.now (Submit c.in-Submit.who c.in-Submit.buffer c.in-Submit.len) c.args.act.now c.submit.new.out c.self.inside.parts c.args.self.now c.submit.new.self regs regs log log c.in-Submit.is c.self.view_is (c.in_ok-submit-in-Submit.ensures.serves regs log)

pub returns-in-TxPost-clause-makes : goal.returns-in-TxPost-clause-makes
returns-in-TxPost-clause-makes g c =
    let regs = g.N.Nic.regs c.args.nic.now in
    let log = g.N.Nic.log c.args.nic.now in
    served-at c.args.local.now (TxPost c.in-TxPost.slot c.in-TxPost.send) c.args.act.now c.post_send.new.out c.self.inside.parts c.args.self.now c.post_send.new.self regs regs log log c.in-TxPost.is c.self.view_is (c.post_send.ensures.serves c.args.local.now regs log)

pub returns-in_ok-bell_sends-in-TxBell-clause-makes : goal.returns-in_ok-bell_sends-in-TxBell-clause-makes
returns-in_ok-bell_sends-in-TxBell-clause-makes g c =
    let regs = g.N.Nic.regs c.args.nic.now in
    let log = g.N.Nic.log c.args.nic.now in
    served-at c.args.local.now TxBell c.args.act.now c.bell_sends.new.out c.self.inside.parts c.args.self.now c.bell_sends.new.self regs regs log log c.in-TxBell.is c.self.view_is (c.in_ok-bell_sends-in-TxBell.ensures.serves c.args.local.now regs log)

pub returns-in_ok-transmit-in-WireOut-clause-makes : goal.returns-in_ok-transmit-in-WireOut-clause-makes
returns-in_ok-transmit-in-WireOut-clause-makes g c =
    let regs = g.N.Nic.regs c.args.nic.now in
    let log = g.N.Nic.log c.args.nic.now in
    served-at c.args.local.now WireOut c.args.act.now c.transmit.new.out c.self.inside.parts c.args.self.now c.transmit.new.self regs (g.N.Nic.regs c.transmit.new.nic) log (g.N.Nic.log c.transmit.new.nic) c.in-WireOut.is c.self.view_is (c.in_ok-transmit-in-WireOut.ensures.serves c.args.local.now)

pub returns-in_err-transmit-in-WireOut-clause-loses : goal.returns-in_err-transmit-in-WireOut-clause-loses
returns-in_err-transmit-in-WireOut-clause-loses g c =
    on-err c.from_residual-in_err-transmit-in-WireOut.result (left-at c.args.local.now WireOut c.args.act.now c.self.inside.parts c.args.self.now (g.N.Nic.regs c.args.nic.now) (g.N.Nic.log c.args.nic.now) (g.N.Nic.log c.transmit.new.nic) c.in-WireOut.is c.self.view_is (c.in_err-transmit-in-WireOut.ensures.leaves c.args.local.now))
