-- Local ports: each flow of each instance has one of its own.
use Rattle.std.specs.Prelude.{ℕ, ◌≡◌, ◌+◌, ◌-◌, ◌*◌, ◌/◌, ◌%◌, ◌<◌, nat_lt, Option, Some, None}
use Rattle.std.specs.Prelude.{IfSome, if◌then◌else◌}
use Rattle.ibos_kinds.specs.declared.names.Instance.{Instance}
use Rattle.ibos_kinds.specs.Limits.{IsNamed}

-- the port of one of the instance's 16 flows
abbrev pub port_of : Instance → ℕ → ℕ
port_of who flow = 32768 + 512 * who.tab + 16 * who.ord + flow

-- whose port it is, and of which flow
unfoldable pub owner_of : ℕ → Option (Instance × ℕ)
owner_of port =
    if nat_lt port 32768 then None
    else Some (record { tab = (port - 32768) / 512; ord = (port - 32768) / 16 % 32 }, port % 16)

-- no two flows have one port
abbrev pub AreApart : Type 0
AreApart = (p q : Instance) (i j : ℕ) → IsNamed p → IsNamed q → i < 16 → j < 16
    → port_of p i ≡ port_of q j → (p ≡ q) × (i ≡ j)

-- the port of a flow is that flow's
abbrev pub AreOwned : Type 0
AreOwned = (who : Instance) (flow : ℕ) → IsNamed who → flow < 16
    → owner_of (port_of who flow) ≡ Some (who, flow)

-- each port from 32,768 on is that of its owner's flow
abbrev pub HaveOwners : Type 0
HaveOwners = (port : ℕ) → port < 65536
    → IfSome (owner_of port) (λ owner. (port_of owner.0 owner.1 ≡ port) × IsNamed owner.0
    × (owner.1 < 16))
