use Rattle.std.proofs.Common.{◌≡◌, ◌+◌, ◌++◌, List, ℕ, take, drop, Bool, Option, Some, None, ◌∙◌, sym, ap, subst, length, arith}
use Rattle.std.specs.Prelude.{if◌then◌else◌}
use Rattle.std.specs.Global.{Vec}
use Rattle.ibos_kinds.specs.declared.cookies.Cookie.{Cookie}
use Rattle.ibos_kinds.specs.declared.rule.Rule.{Rule}
use Rattle.ibos_kinds.specs.declared.rule.Rule.TheVariants.{C3}
use Rattle.ibos_kinds.specs.Cookies.{put}
use Rattle.ibos_cookie.specs.Lines.{IsJar, front, value_at}
use Rattle.ibos_cookie.proofs.Lines.{found_at, sizes, held_within, place_within, over_held, jar_held, over_new, jar_new, jar_is, is_jar}
use Rattle.ibos_cookie.proofs.jar.Jar.put.Goals as goal

full : Bool → Option Rule
full over = if over then Some C3 else None

lens : (s t : List ℕ) → s ≡ t → length s ≡ length t
lens s t same = ap (λ (u : List ℕ). length u) same

-- the jar as its caller sees it
stands : (view jar : List Cookie) (entries : List (Vec ℕ × ℕ)) (text : List ℕ) → view ≡ jar → IsJar entries text view → IsJar entries text jar
stands view jar entries text seen is =
    let P : List Cookie → Type 0 = IsJar entries text in
    subst P seen is

pub overflow_mul-bytes : goal.overflow_mul-bytes
overflow_mul-bytes c =
    let is = stands _ _ _ _ c.self.view_is c.self.invariant in
    let size = sizes c.args.name.now c.args.value.now _ _ _ is _ _ c.len-count.ensures.len (lens _ _ c.as_slice-text.ensures.value) in
    omega (arith, size.few)

pub overflow_sub-bytes : goal.overflow_sub-bytes
overflow_sub-bytes c =
    let is = stands _ _ _ _ c.self.view_is c.self.invariant in
    let size = sizes c.args.name.now c.args.value.now _ _ _ is _ _ c.len-count.ensures.len (lens _ _ c.as_slice-text.ensures.value) in
    size.marks

pub overflow_sub-bytes-in-Some : goal.overflow_sub-bytes-in-Some
overflow_sub-bytes-in-Some c =
    let is = stands _ _ _ _ c.self.view_is c.self.invariant in
    let at = found_at c.args.name.now _ _ _ c.in-Some.ensures.index c.in-Some.ensures.value in
    let within = held_within c.args.name.now c.args.value.now _ _ _ is _ _ at _ _ c.len-count.ensures.len (lens _ _ c.as_slice-text.ensures.value) in
    within

pub passes_limit-requires : goal.passes_limit-requires
passes_limit-requires c =
    let is = stands _ _ _ _ c.self.view_is c.self.invariant in
    let size = sizes c.args.name.now c.args.value.now _ _ _ is _ _ c.len-count.ensures.len (lens _ _ c.as_slice-text.ensures.value) in
    omega (arith, size.within)

pub passes_limit-requires-in-None : goal.passes_limit-requires-in-None
passes_limit-requires-in-None c =
    let is = stands _ _ _ _ c.self.view_is c.self.invariant in
    let size = sizes c.args.name.now c.args.value.now _ _ _ is _ _ c.len-count.ensures.len (lens _ _ c.as_slice-text.ensures.value) in
    size.within

pub value_at-at-requires : goal.value_at-at-requires
value_at-at-requires c =
    let is = stands _ _ _ _ c.self.view_is c.self.invariant in
    let size = sizes c.args.name.now c.args.value.now _ _ _ is _ _ c.len-count.ensures.len (lens _ _ c.as_slice-text.ensures.value) in
    size.small

pub replace-requires : goal.replace-requires
replace-requires c =
    let is = stands _ _ _ _ c.self.view_is c.self.invariant in
    let at = found_at c.args.name.now _ _ _ c.in-Some.ensures.index c.in-Some.ensures.value in
    let within = place_within c.args.name.now c.args.value.now _ _ _ is _ _ at in
    omega (arith, within, c.value_at-at.ensures)

-- the jar would pass a limit

pub returns-then-passes_limit-clause-answer : goal.returns-then-passes_limit-clause-answer
unfolding full
returns-then-passes_limit-clause-answer c =
    let is = stands _ _ _ _ c.self.view_is c.self.invariant in
    let at = found_at c.args.name.now _ _ _ c.in-Some.ensures.index c.in-Some.ensures.value in
    let over = over_held c.args.name.now c.args.value.now _ _ _ is _ _ at _ _ c.len-count.ensures.len (lens _ _ c.as_slice-text.ensures.value) in
    ap full (sym (c.passes_limit.ensures ∙ over) ∙ c.if-passes_limit.true)

pub returns-then-passes_limit-2-clause-answer : goal.returns-then-passes_limit-2-clause-answer
unfolding full
returns-then-passes_limit-2-clause-answer c =
    let is = stands _ _ _ _ c.self.view_is c.self.invariant in
    let over = over_new c.args.name.now c.args.value.now _ _ _ is (sym c.in-None.ensures.value) _ _ c.len-count.ensures.len (lens _ _ c.as_slice-text.ensures.value) in
    ap full (sym (c.passes_limit-in-None.ensures ∙ over) ∙ c.if-passes_limit-2.true)

-- another value

pub invariant_of-self-in-Some : goal.invariant_of-self-in-Some
invariant_of-self-in-Some c =
    let is = stands _ _ _ _ c.self.view_is c.self.invariant in
    let at = found_at c.args.name.now _ _ _ c.in-Some.ensures.index c.in-Some.ensures.value in
    let over = over_held c.args.name.now c.args.value.now _ _ _ is _ _ at _ _ c.len-count.ensures.len (lens _ _ c.as_slice-text.ensures.value) in
    let text : c.replace.new.text.items ≡ take (value_at c.self.inside.lens.entries c.in-Some.index) c.self.inside.text.items ++ c.args.value.now
    ++ drop (value_at c.self.inside.lens.entries c.in-Some.index + c.in-Some.len.now) c.self.inside.text.items =
    c.in_ok-replace-in-Some.ensures.ok
    ∙ ap (λ n. take n c.self.inside.text.items ++ c.args.value.now ++ drop (n + c.in-Some.len.now) c.self.inside.text.items) c.value_at-at.ensures in
    let made = jar_held c.args.name.now c.args.value.now _ _ _ is _ _ at c.replace.new.text.items text (sym over ∙ sym c.passes_limit.ensures ∙ c.if-passes_limit.false) in
    is_jar _ _ _ made

pub returns-in_ok-replace-in-Some-clause-answer : goal.returns-in_ok-replace-in-Some-clause-answer
unfolding full
returns-in_ok-replace-in-Some-clause-answer c =
    let is = stands _ _ _ _ c.self.view_is c.self.invariant in
    let at = found_at c.args.name.now _ _ _ c.in-Some.ensures.index c.in-Some.ensures.value in
    let over = over_held c.args.name.now c.args.value.now _ _ _ is _ _ at _ _ c.len-count.ensures.len (lens _ _ c.as_slice-text.ensures.value) in
    ap full (sym (c.passes_limit.ensures ∙ over) ∙ c.if-passes_limit.false)

pub returns-in_ok-replace-in-Some-clause-ok : goal.returns-in_ok-replace-in-Some-clause-ok
returns-in_ok-replace-in-Some-clause-ok c =
    let is = stands _ _ _ _ c.self.view_is c.self.invariant in
    let at = found_at c.args.name.now _ _ _ c.in-Some.ensures.index c.in-Some.ensures.value in
    let over = over_held c.args.name.now c.args.value.now _ _ _ is _ _ at _ _ c.len-count.ensures.len (lens _ _ c.as_slice-text.ensures.value) in
    let text : c.replace.new.text.items ≡ take (value_at c.self.inside.lens.entries c.in-Some.index) c.self.inside.text.items ++ c.args.value.now
    ++ drop (value_at c.self.inside.lens.entries c.in-Some.index + c.in-Some.len.now) c.self.inside.text.items =
    c.in_ok-replace-in-Some.ensures.ok
    ∙ ap (λ n. take n c.self.inside.text.items ++ c.args.value.now ++ drop (n + c.in-Some.len.now) c.self.inside.text.items) c.value_at-at.ensures in
    let made = jar_held c.args.name.now c.args.value.now _ _ _ is _ _ at c.replace.new.text.items text (sym over ∙ sym c.passes_limit.ensures ∙ c.if-passes_limit.false) in
    jar_is _ _ _ made

-- a new cookie

pub invariant_of-self-in-None : goal.invariant_of-self-in-None
invariant_of-self-in-None c =
    let is = stands _ _ _ _ c.self.view_is c.self.invariant in
    let over = over_new c.args.name.now c.args.value.now _ _ _ is (sym c.in-None.ensures.value) _ _ c.len-count.ensures.len (lens _ _ c.as_slice-text.ensures.value) in
    let text : c.swap.new.x.items ≡ c.self.inside.text.items ++ front c.args.name.now ++ c.args.value.now =
    ap (λ (v : Vec ℕ). v.items) c.swap.ensures.x_after ∙ c.in_ok-append-in-None.ensures ∙ ap (λ t. t ++ front c.args.name.now ++ c.args.value.now) c.as_slice-text.ensures.value in
    let made = jar_new c.args.name.now c.args.value.now _ _ _ is (sym c.in-None.ensures.value) c.in_ok-from_slice-in-None.field-0 c.swap.new.x.items c.in_ok-from_slice-in-None.ensures.items text (sym over ∙ sym c.passes_limit-in-None.ensures ∙ c.if-passes_limit-2.false) in
    let P : List (Vec ℕ × ℕ) → Type 0 = λ entries. IsJar entries c.swap.new.x.items (put (record { name = c.args.name.now; value = c.args.value.now }) c.args.self.now) in
    let whole = subst P (sym c.in_ok-insert-in-None.ensures.entries) made in
    is_jar _ _ _ whole

pub returns-in_ok-insert-in-None-clause-answer : goal.returns-in_ok-insert-in-None-clause-answer
unfolding full
returns-in_ok-insert-in-None-clause-answer c =
    let is = stands _ _ _ _ c.self.view_is c.self.invariant in
    let over = over_new c.args.name.now c.args.value.now _ _ _ is (sym c.in-None.ensures.value) _ _ c.len-count.ensures.len (lens _ _ c.as_slice-text.ensures.value) in
    ap full (sym (c.passes_limit-in-None.ensures ∙ over) ∙ c.if-passes_limit-2.false)

pub returns-in_ok-insert-in-None-clause-ok : goal.returns-in_ok-insert-in-None-clause-ok
returns-in_ok-insert-in-None-clause-ok c =
    let is = stands _ _ _ _ c.self.view_is c.self.invariant in
    let over = over_new c.args.name.now c.args.value.now _ _ _ is (sym c.in-None.ensures.value) _ _ c.len-count.ensures.len (lens _ _ c.as_slice-text.ensures.value) in
    let text : c.swap.new.x.items ≡ c.self.inside.text.items ++ front c.args.name.now ++ c.args.value.now =
    ap (λ (v : Vec ℕ). v.items) c.swap.ensures.x_after ∙ c.in_ok-append-in-None.ensures ∙ ap (λ t. t ++ front c.args.name.now ++ c.args.value.now) c.as_slice-text.ensures.value in
    let made = jar_new c.args.name.now c.args.value.now _ _ _ is (sym c.in-None.ensures.value) c.in_ok-from_slice-in-None.field-0 c.swap.new.x.items c.in_ok-from_slice-in-None.ensures.items text (sym over ∙ sym c.passes_limit-in-None.ensures ∙ c.if-passes_limit-2.false) in
    let P : List (Vec ℕ × ℕ) → Type 0 = λ entries. IsJar entries c.swap.new.x.items (put (record { name = c.args.name.now; value = c.args.value.now }) c.args.self.now) in
    let whole = subst P (sym c.in_ok-insert-in-None.ensures.entries) made in
    jar_is _ _ _ whole
