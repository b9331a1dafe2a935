use Rattle.std.proofs.Common.{◌∙◌, sym, subst, decimal}
use Rattle.std.specs.Str.{IsUtf8}
use Rattle.std.proofs.lemmas.Fmt.{parse-decimal, IsAscii-decimal}
use Rattle.std.proofs.lemmas.Str.{IsUtf8-from_ascii}
use Rattle.ibos_outcome.proofs.words.read_decimal.Goals as goal

pub returns-in_default : goal.returns-in_default
returns-in_default c = λ n small is. absurd (c.in_default.ensures.cases.0 (subst IsUtf8 (sym is) (IsUtf8-from_ascii (decimal n) (IsAscii-decimal n small))))

pub returns : goal.returns
returns c = λ n small is.
    let ok = parse-decimal 64 n c.in-Ok.word.now c.parse.result small small (c.in-Ok.ensures.cases.0 ∙ is) c.parse.ensures.value.0 in
    rw ok at c.ok.ensures.value
