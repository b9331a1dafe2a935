use Rattle.std.proofs.Common.{◌≡◌, ◌∙◌, ◌+◌, subst, sym, List, ℕ, true}
use Rattle.std.specs.List.{list_all}
use Rattle.ibos_fields.specs.Fields.{is_digit}
use Rattle.ibos_outcome.proofs.FieldWords.{number_digits}
use Rattle.ibos_outcome.proofs.ReadLines.{front_head, IsRead, is_read, read_told, read_longest, read_back}
use Rattle.ibos_outcome.proofs.read.read_outcome.Goals as goal

pub returns-in_default-clause-none : goal.returns-in_default-clause-none
returns-in_default-clause-none c = λ n outcome small is front.
    let none = rw c.in_default.is at c.in_ok-number.ensures.none in
    none n outcome.head small (front_head n outcome c.args.text.now front)

pub read_items-requires-clause-digits : goal.read_items-requires-clause-digits
read_items-requires-clause-digits c =
    let small = rw c.in-Some.is at c.in_ok-number.ensures.number in
    let digits = c.as_bytes-digits.ensures.value ∙ c.format.ensures.text in
    let P : List ℕ → Type 0 = λ d. list_all is_digit d ≡ true in
    subst P (sym digits) (number_digits c.in-Some.number small)

found : (c : goal.Joined-line-4) → IsRead c.args.text.now c.in-Some.number c.read_items.new.outcome (c.len-start.result + c.in_ok-len.len) c.in_ok-len.len
found c =
    let small = rw c.in-Some.is at c.in_ok-number.ensures.number in
    let some = rw c.in-Some.is at c.in_ok-number.ensures.some in
    is_read c.args.text.now c.read_head.new.line c.as_bytes-digits.result.now c.split_at.result.1.now c.in-Some.number c.in-Some.head c.read_items.new.outcome c.len-start.result c.in_ok-len.len
    small some.0 some.1 c.in_ok-len.ensures.head (c.as_bytes-digits.ensures.value ∙ c.format.ensures.text) c.split_at.ensures.back c.len-start.ensures c.in_ok-len.ensures.items

pub returns-clause-canonical : goal.returns-clause-canonical
returns-clause-canonical c = ((found c).small, (found c).has.canonical)

pub returns-clause-told : goal.returns-clause-told
returns-clause-told c = read_told _ _ _ _ _ (found c)

pub returns-clause-longest : goal.returns-clause-longest
returns-clause-longest c = read_longest _ _ _ _ _ (found c)

pub returns-clause-back : goal.returns-clause-back
returns-clause-back c = read_back _ _ _ _ _ (found c)
