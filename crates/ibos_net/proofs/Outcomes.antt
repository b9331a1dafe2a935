-- Outcomes as they are filled, and logs that stay.
use Rattle.std.proofs.Common.{refl, sym, ◌∙◌, ap, subst}
use Rattle.ibos_net.proofs.Words.{◌≡◌, List, Result, Ok, Err, OnErr, Act, Head, Item, Local, LogEntry, NetState, Outcome, Registers, Leaves, Serves}

outcome-is : (h h' : Head) (xs xs' : List Item) → h ≡ h' → xs ≡ xs' → (o : Outcome) → o ≡ record { head = h; items = xs } → o ≡ record { head = h'; items = xs' }
outcome-is h h' xs xs' head items o is = is ∙ ap (λ x. record { head = x; items = xs }) head ∙ ap (λ ys. record { head = h'; items = ys }) items

-- an outcome of that head and these items
pub outcome-of : (o : Outcome) (h : Head) (xs : List Item) → o.head ≡ h → o.items ≡ xs → o ≡ record { head = h; items = xs }
outcome-of o h xs head items = outcome-is o.head h o.items xs head items o refl

-- what is served before the outcome, the states and the log are looked at
pub served : (local : Local) (act : Act) (o o' : Outcome) (t t0 t' t1 : NetState) (regs regs' : Registers) (log log' : List LogEntry) → o' ≡ o → t ≡ t0 → t' ≡ t1 → log' ≡ log
    → Serves local act o t t' regs regs' log log → Serves local act o' t0 t1 regs regs' log log'
served local act o o' t t0 t' t1 regs regs' log log' out was is same serves =
    subst (λ x. Serves local act x t0 t1 regs regs' log log') (sym out)
    (subst (λ x. Serves local act o x t1 regs regs' log log') was
    (subst (λ x. Serves local act o t x regs regs' log log') is
    (subst (λ l. Serves local act o t t' regs regs' log l) (sym same) serves)))

-- the same where the log is another
pub served-now : (local : Local) (act : Act) (o o' : Outcome) (t t0 t' t1 : NetState) (regs regs' : Registers) (log log' : List LogEntry) → o' ≡ o → t ≡ t0 → t' ≡ t1
    → Serves local act o t t' regs regs' log log' → Serves local act o' t0 t1 regs regs' log log'
served-now local act o o' t t0 t' t1 regs regs' log log' out was is serves =
    subst (λ x. Serves local act x t0 t1 regs regs' log log') (sym out)
    (subst (λ x. Serves local act o x t1 regs regs' log log') was
    (subst (λ x. Serves local act o t x regs regs' log log') is serves))

pub on-err : {A B : Type 0} (result : Result A B) {P : Type 0} → P → OnErr result P
on-err (Ok x) p = tt
on-err (Err e) p = p

-- the act, and the state that it was served on, under other names
pub served-at : (local : Local) (act act' : Act) (o : Outcome) (t t0 t' : NetState) (regs regs' : Registers) (log log' : List LogEntry) → act' ≡ act → t ≡ t0
    → Serves local act o t t' regs regs' log log' → Serves local act' o t0 t' regs regs' log log'
served-at local act act' o t t0 t' regs regs' log log' is was serves =
    subst (λ x. Serves local x o t0 t' regs regs' log log') (sym is) (subst (λ x. Serves local act o x t' regs regs' log log') was serves)

pub left-at : (local : Local) (act act' : Act) (t t0 : NetState) (regs : Registers) (log log' : List LogEntry) → act' ≡ act → t ≡ t0 → Leaves local act t regs log log' → Leaves local act' t0 regs log log'
left-at local act act' t t0 regs log log' is was leaves = subst (λ x. Leaves local x t0 regs log log') (sym is) (subst (λ x. Leaves local act x regs log log') was leaves)
