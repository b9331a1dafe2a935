-- What a call of storage answers, unless memory is wanting.
use Rattle.std.specs.Prelude.{◌≡◌, Result, Ok, Err}
use Rattle.ibos_kinds.specs.declared.rule.Rule.{Rule}
use Rattle.ibos_store.specs.declared.fault.StoreFault.{StoreFault}
use Rattle.ibos_store.specs.declared.fault.StoreFault.TheVariants.{Denied, Memory}

-- the result is that answer, unless memory is wanting
abbrev pub Answers : {T : Type 0} → Result T StoreFault → Result T Rule → Type 0
Answers (Ok x) answer = answer ≡ Ok x
Answers (Err (Denied rule)) answer = answer ≡ Err rule
Answers (Err Memory) answer = Unit {0}
