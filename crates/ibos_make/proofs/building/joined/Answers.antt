use Rattle.std.proofs.Common.{◌≡◌, ◌++◌, List, ℕ, ap, ◌∙◌, subst}
use Rattle.std.specs.Prelude.{IfOk}
use Rattle.ibos_kinds.specs.Sums.{sum16}
use Rattle.ibos_kinds.specs.Datagrams.{ip_bytes}
use Rattle.ibos_make.specs.Building.{ip_for, ip_checksum_for}
use Rattle.ibos_make.proofs.building.joined.Goals as goal

pub returns-clause-bytes : goal.returns-clause-bytes
returns-clause-bytes c =
    let sum : c.sum16-checksum.result ≡ ip_checksum_for c.args.spec.now = c.sum16-checksum.ensures ∙ ap sum16 c.ip_header.ensures.bytes in
    let ip : c.ip_header-2.result ≡ ip_bytes (ip_for c.args.spec.now (ip_checksum_for c.args.spec.now)) =
    c.ip_header-2.ensures.bytes ∙ ap (λ n. ip_bytes (ip_for c.args.spec.now n)) sum in
    let first : c.push.new.front.items ≡ c.eth_header.result = c.push.ensures ∙ ap (λ t. t ++ c.eth_header.result) c.new-front.ensures in
    let front : c.as_slice.result.now ≡ c.eth_header.result ++ c.ip_header-2.result ++ c.args.header.now =
    c.as_slice.ensures.value ∙ c.push-3.ensures ∙ ap (λ t. t ++ c.args.header.now) (c.push-2.ensures ∙ ap (λ t. t ++ c.ip_header-2.result) first) in
    let P : List ℕ → Type 0 = λ wanted. IfOk c.from_two.result (λ frame. frame ≡ wanted) in
    subst P (ap (λ t. t ++ c.as_slice-2.result.now) front ∙ (λ i. c.eth_header.ensures i ++ ip i ++ c.args.header.now ++ c.as_slice-2.ensures i)) c.from_two.ensures
