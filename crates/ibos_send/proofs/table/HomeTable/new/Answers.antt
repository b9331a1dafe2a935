use Rattle.std.proofs.Common.{◌≡◌, ◌∙◌, ap, arith, refl, replicate, None}
use Rattle.ibos_send.proofs.Gathered.{gathered-nil}
use Rattle.ibos_send.proofs.TablePlaces.{homes-nil}
use Rattle.ibos_send.proofs.Words.{Table, held_at_home, homes_in, homes_of}
use Rattle.ibos_send.proofs.table.HomeTable.new.Goals as goal

pub returns-clause-none : goal.returns-clause-none
returns-clause-none c who =
    let all : c.filled._place ≡ 2048 = omega arith in
    ap (λ (t : Table). homes_in t who) (c.filled.invariant.items ∙ ap (λ n. replicate n None) all) ∙ homes-nil who

pub returns-clause-held : goal.returns-clause-held
returns-clause-held c = ap (λ (t : Table). held_at_home t) c.filled.invariant.items ∙ gathered-nil homes_of c.filled._place None refl
