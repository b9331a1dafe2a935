use Rattle.std.proofs.Common.{◌≡◌, ap, sym, ◌∙◌}
use Rattle.std.proofs.lemmas.Result.{IfOk-weaker}
use Rattle.ibos_kinds.specs.declared.names.Proto.TheVariants.{Udp}
use Rattle.ibos_kinds.specs.Datagrams.{segment_sum, frame_bytes}
use Rattle.ibos_make.specs.Building.{protocol_number, parts_with, written, checksum_for, parts_for}
use Rattle.ibos_make.proofs.Built.{checksum-blank, frame-layout}
use Rattle.ibos_make.proofs.building.laid_out.Goals as goal

pub returns-in-Tcp-clause-bytes : goal.returns-in-Tcp-clause-bytes
returns-in-Tcp-clause-bytes c =
    let right : c.checksum-sum.result ≡ checksum_for c.args.spec.now =
    checksum-blank c.args.spec.now c.tcp_header.result c.checksum-sum.result c.checksum-sum.ensures (c.tcp_header.ensures.bytes 0)
    ∙ ap (λ q. written q (segment_sum (parts_with c.args.spec.now 0 0) (protocol_number c.args.spec.now.proto))) (sym c.in-Tcp.is) in
    IfOk-weaker c.joined.result _ (λ frame. frame ≡ frame_bytes (parts_for c.args.spec.now))
    (λ frame is. frame-layout c.args.spec.now frame c.tcp_header-in-Tcp.result c.checksum-sum.result is (c.tcp_header-in-Tcp.ensures.bytes 0) right)
    c.joined.ensures.bytes

pub returns-in-Udp-clause-bytes : goal.returns-in-Udp-clause-bytes
returns-in-Udp-clause-bytes c =
    let right : c.shown-sum.result ≡ checksum_for c.args.spec.now =
    c.shown-sum.ensures
    ∙ ap (written Udp) (checksum-blank c.args.spec.now c.udp_header.result c.checksum.result c.checksum.ensures (c.udp_header.ensures.bytes 0))
    ∙ ap (λ q. written q (segment_sum (parts_with c.args.spec.now 0 0) (protocol_number c.args.spec.now.proto))) (sym c.in-Udp.is) in
    IfOk-weaker c.joined-in-Udp.result _ (λ frame. frame ≡ frame_bytes (parts_for c.args.spec.now))
    (λ frame is. frame-layout c.args.spec.now frame c.udp_header-in-Udp.result c.shown-sum.result is (c.udp_header-in-Udp.ensures.bytes 0) right)
    c.joined-in-Udp.ensures.bytes
