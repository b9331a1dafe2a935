-- The list of the registers' values.
use Rattle.std.proofs.Common.{◌≡◌, ◌≢◌, ℕ, ◌<◌, ◌≤◌, ◌==◌, List, [], ◌∷◌, Bool, true, false, cond, ⊎_elim, subst, length, get_or, set, replicate, refl, sym, ◌∙◌, ap, arith}
use Rattle.std.proofs.lemmas.Bool.Decides.{nat_tests}
use Rattle.std.proofs.lemmas.Bool.{cases_eq}
use Rattle.std.proofs.lemmas.List.{get_or-set_same, get_or-set_other}
use Rattle.ibos_nic.specs.declared.reg.Reg.{Reg}
use Rattle.ibos_nic.specs.declared.reg.Reg.TheVariants.{Ctrl, Status, Icr, Ims, Imc, Rctl, Tctl, Rdbal, Rdbah, Rdlen, Rdh, Rdt, Tdbal, Tdbah, Tdlen, Tdh, Tdt, Mpc, Ral0, Rah0}
use Rattle.ibos_nic.specs.Registers.{Registers, reset, same_reg, with_reg}
use Rattle.ibos_nic.specs.Bits.{max_frame}
use Rattle.ibos_nic.specs.Device.{is_for_us}
use Rattle.std.proofs.lemmas.Slice.Eq.{bytes_eq-Decides}
use Rattle.std.specs.Prelude.{IsTrue, bytes_eq}
use Rattle.ibos_device.specs.Cards.{index_of, value_at}

-- a register that has a value of its own
pub stored : (values : List ℕ) (reg : Reg) → reg ≢ Ctrl → reg ≢ Status → value_at values reg ≡ get_or values (index_of reg) 0
stored values Ctrl c s = absurd (c refl)
stored values Status c s = absurd (s refl)
stored values reg c s = refl

index_below : (reg : Reg) → index_of reg < 18
index_below reg = grind arith

-- a value is put in the place of one register
put_index : (values : List ℕ) (i j value : ℕ) → i < length values → get_or (set values i value) j 0 ≡ cond (i == j) value (get_or values j 0)
put_index values i j value within =
    ⊎_elim
    (λ (this : j ≡ i). let test : (i == j) ≡ true = grind (arith, nat_tests) in rw (test, this) (get_or-set_same values i value 0 within))
    (λ (other : j ≢ i). let test : (i == j) ≡ false = grind (arith, nat_tests) in rw test (get_or-set_other values i j value 0 other))
    (cases_eq j i)

not_ctrl : (reg : Reg) → reg ≢ Ctrl → same_reg reg Ctrl ≡ false
not_ctrl Ctrl n = absurd (n refl)
not_ctrl reg n = refl

not_status : (reg : Reg) → reg ≢ Status → same_reg reg Status ≡ false
not_status Status n = absurd (n refl)
not_status reg n = refl

same_index : (one other : Reg) → one ≢ Ctrl → one ≢ Status → other ≢ Ctrl → other ≢ Status → (index_of one == index_of other) ≡ same_reg one other
same_index one other a b c d = grind arith

-- a register's value is put
pub put : (values : List ℕ) (reg r : Reg) (value : ℕ) → length values ≡ 18 → reg ≢ Ctrl → reg ≢ Status
    → value_at (set values (index_of reg) value) r ≡ with_reg reg value (value_at values) r
put values reg Ctrl value size c s = rw (not_ctrl reg c) refl
put values reg Status value size c s = rw (not_status reg s) refl
put values reg r value size c s =
    put_index values (index_of reg) (index_of r) value (subst (λ (n : ℕ). index_of reg < n) (sym size) (index_below reg))
    ∙ ap (λ (t : Bool). cond t value (get_or values (index_of r) 0)) (same_index reg r c s (grind arith) (grind arith))

pub zeros : (values : List ℕ) → length values ≡ 18 → ((reg : Reg) → value_at values reg ≡ reset reg) → values ≡ replicate 18 0
zeros (v0 ∷ v1 ∷ v2 ∷ v3 ∷ v4 ∷ v5 ∷ v6 ∷ v7 ∷ v8 ∷ v9 ∷ v10 ∷ v11 ∷ v12 ∷ v13 ∷ v14 ∷ v15 ∷ v16 ∷ v17 ∷ []) size each =
    let h0 : v0 ≡ 0 = each Icr in
    let h1 : v1 ≡ 0 = each Ims in
    let h2 : v2 ≡ 0 = each Imc in
    let h3 : v3 ≡ 0 = each Rctl in
    let h4 : v4 ≡ 0 = each Tctl in
    let h5 : v5 ≡ 0 = each Rdbal in
    let h6 : v6 ≡ 0 = each Rdbah in
    let h7 : v7 ≡ 0 = each Rdlen in
    let h8 : v8 ≡ 0 = each Rdh in
    let h9 : v9 ≡ 0 = each Rdt in
    let h10 : v10 ≡ 0 = each Tdbal in
    let h11 : v11 ≡ 0 = each Tdbah in
    let h12 : v12 ≡ 0 = each Tdlen in
    let h13 : v13 ≡ 0 = each Tdh in
    let h14 : v14 ≡ 0 = each Tdt in
    let h15 : v15 ≡ 0 = each Mpc in
    let h16 : v16 ≡ 0 = each Ral0 in
    let h17 : v17 ≡ 0 = each Rah0 in
    rw (h0, h1, h2, h3, h4, h5, h6, h7, h8, h9, h10, h11, h12, h13, h14, h15, h16, h17) refl
zeros other size each = absurd (omega arith)

pub at_reset : (reg : Reg) → value_at (replicate 18 0) reg ≡ reset reg
at_reset reg = grind arith

-- all values are 0 where each register is as at reset
pub zero_test : (values : List ℕ) (b : Bool) → length values ≡ 18 → b ≡ bytes_eq values (replicate 18 0)
    → (IsTrue b → (reg : Reg) → value_at values reg ≡ reset reg) × (((reg : Reg) → value_at values reg ≡ reset reg) → IsTrue b)
zero_test values b size test =
    let same = bytes_eq-Decides values (replicate 18 0) in
    let forth : IsTrue b → (reg : Reg) → value_at values reg ≡ reset reg = λ yes reg.
    let all : values ≡ replicate 18 0 = same.0 (sym test ∙ yes) in
    rw all (at_reset reg) in
    let back : ((reg : Reg) → value_at values reg ≡ reset reg) → IsTrue b = λ each.
    let all : values ≡ replicate 18 0 = zeros values size each in
    test ∙ same.1 all in
    (forth, back)

-- a frame that is for us is short enough
pub short_for_us : (regs : Registers) (frame : List ℕ) → IsTrue (is_for_us regs frame) → length frame ≤ max_frame
unfolding is_for_us
short_for_us regs frame ours = grind (arith, nat_tests)
