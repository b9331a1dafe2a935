-- The port of a flow is that flow's.
use Rattle.std.proofs.Common.{◌≡◌, ℕ, ◌-◌, ◌<◌, ◌≤◌, Bool, true, false, Option, Some, None, refl, ◌∙◌, ap, arith}
use Rattle.std.specs.Prelude.{IfSome, ◌/◌, ◌%◌, nat_lt, if◌then◌else◌}
use Rattle.std.proofs.lemmas.Bool.Decides.{nat_tests}
use Rattle.ibos_kinds.specs.declared.names.Instance.{Instance}
use Rattle.ibos_kinds.specs.Limits.{IsNamed}
use Rattle.ibos_kinds.specs.Ports.{AreOwned, HaveOwners, owner_of, port_of}

instance_is : (tab ord : ℕ) (who : Instance) → tab ≡ who.tab → ord ≡ who.ord → record { tab = tab; ord = ord } ≡ who
instance_is tab ord who t o =
    let F : ℕ → Instance = λ n. record { tab = n; ord = ord } in
    let G : ℕ → Instance = λ n. record { tab = who.tab; ord = n } in
    ap F t ∙ ap G o

pub owned : AreOwned
unfolding owner_of
owned who flow named low = by_test (nat_lt (port_of who flow) 32768) refl
  where
    port : ℕ
    port = port_of who flow

    tab : (port - 32768) / 512 ≡ who.tab
    tab = omega (arith, named.0, named.1, low)

    ord : (port - 32768) / 16 % 32 ≡ who.ord
    ord = omega (arith, named.0, named.1, low)

    number : port % 16 ≡ flow
    number = omega (arith, named.0, named.1, low)

    found : Option (Instance × ℕ)
    found = Some (record { tab = (port - 32768) / 512; ord = (port - 32768) / 16 % 32 }, port % 16)

    nobody : Option (Instance × ℕ)
    nobody = None

    by_test : (below : Bool) → nat_lt port 32768 ≡ below → (if below then nobody else found) ≡ Some (who, flow)
    by_test true below = grind (arith, nat_tests, below)
    by_test false below =
        let F : Instance → Option (Instance × ℕ) = λ p. Some (p, port % 16) in
        let G : ℕ → Option (Instance × ℕ) = λ n. Some (who, n) in
        ap F (instance_is _ _ who tab ord) ∙ ap G number

pub owners : HaveOwners
unfolding owner_of
owners port low = by_test (nat_lt port 32768) refl
  where
    found : Option (Instance × ℕ)
    found = Some (record { tab = (port - 32768) / 512; ord = (port - 32768) / 16 % 32 }, port % 16)

    nobody : Option (Instance × ℕ)
    nobody = None

    by_test : (below : Bool) → nat_lt port 32768 ≡ below
        → IfSome (if below then nobody else found) (λ owner. (port_of owner.0 owner.1 ≡ port) × IsNamed owner.0 × (owner.1 < 16))
    by_test true below = tt
    by_test false below =
        let high : 32768 ≤ port = grind (arith, nat_tests, below) in
        (omega (arith, high, low), (omega (arith, high, low), omega (arith, high, low)), omega (arith, high, low))
