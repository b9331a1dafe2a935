use Rattle.std.proofs.Common.{List, ℕ, sym, subst}
use Rattle.std.specs.Global.{Vec}
use Rattle.ibos_cookie.specs.Lines.{IsJar, cookies_in}
use Rattle.ibos_cookie.proofs.Lines.{none_within}
use Rattle.ibos_cookie.proofs.jar.Jar.new.Goals as goal

pub invariant_of-result : goal.invariant_of-result
invariant_of-result c =
    let P : List (Vec ℕ × ℕ) → Type 0 = λ entries. IsJar entries c.new-2.result.items (cookies_in entries c.new-2.result.items) in
    subst P (sym c.with_hasher.ensures.empty) (record { measured = tt; text_is = c.new-2.ensures.items; within = none_within })
