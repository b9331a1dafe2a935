use Rattle.std.proofs.Common.{Some, ap, ◌∙◌}
use Rattle.ibos_origin.proofs.Ipv4Texts.{addr_in-spelled, addr_in-other}
use Rattle.ibos_origin.proofs.addresses.addr_in.Goals as goal

pub returns-in-Ok : goal.returns-in-Ok
returns-in-Ok c = ap Some c.to_bits.ensures ∙ addr_in-spelled c.args.word.now c.in-Ok.addr c.in-Ok.ensures

pub returns-in-Err : goal.returns-in-Err
returns-in-Err c = addr_in-other c.args.word.now c.in-Err.ensures
