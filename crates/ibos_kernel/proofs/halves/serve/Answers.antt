use Rattle.std.proofs.Common.{sym, ◌∙◌}
use Rattle.ibos_model.specs.Journal.{frame_of}
use Rattle.ibos_model.specs.Logs.{got_for}
use Rattle.ibos_model.specs.Network.{network, next_frame}
use Rattle.ibos_kernel.proofs.PageActs.{page_goes, page_log}
use Rattle.ibos_kernel.proofs.halves.serve.Goals as goal

pub returns-in_ok-serve_pages-clause-goes : goal.returns-in_ok-serve_pages-clause-goes
returns-in_ok-serve_pages-clause-goes g c = λ J stand agrees.
    page_goes c.sets_are_put.ensures c.unborn_have_nothing.ensures.quiet J c.args.pages.now c.serve_pages.new.pages c.args.net.now c.serve_pages.new.net c.args.act.now c.serve_pages.new.out (g.N.Nic.regs c.args.nic.now) (g.N.Nic.log c.args.nic.now)
    (sym c.is_net.ensures ∙ c.if-is_net.false) c.requires.fits stand agrees c.in_ok-serve_pages.ensures.serves (c.in_ok-serve_pages.ensures.net J (g.N.Nic.log c.args.nic.now) stand)

pub returns-in_ok-serve_pages-clause-log : goal.returns-in_ok-serve_pages-clause-log
returns-in_ok-serve_pages-clause-log g c = λ J stand agrees.
    page_log J c.args.pages.now c.serve_pages.new.pages c.args.act.now c.serve_pages.new.out (frame_of c.args.act.now) (got_for c.serve_pages.new.out (g.N.Nic.log c.args.nic.now)) (next_frame (network J)) (g.N.Nic.log c.args.nic.now)
    (sym c.is_net.ensures ∙ c.if-is_net.false) stand.pages_stand c.requires.fits c.in_ok-serve_pages.ensures.serves
