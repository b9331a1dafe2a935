use Rattle.std.proofs.Common.{◌≡◌, drop, find}
use Rattle.ibos_kinds.specs.Texts.{code_of}
use Rattle.ibos_text.specs.Words.{is_word}
use Rattle.ibos_outcome.proofs.words.rule_with.Given as goal

-- the first is among those that are left
abbrev pub invariant-loop-rule : goal.invariant-loop-rule
invariant-loop-rule l = find (λ rule. is_word l.word (code_of rule)) (drop l.rule-index l.rules) ≡ find (λ rule. is_word l.word (code_of rule)) l.rules
