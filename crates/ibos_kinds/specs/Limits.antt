-- The ranges of an act's fields: 64 tabs, 32 instances a tab, 16 flows and 4 transmit buffers an
-- instance, and the bytes that a key writes.
use Rattle.std.specs.Prelude.{◌<◌, ◌≤◌}
use Rattle.ibos_kinds.specs.declared.names.Instance.{Instance}
use Rattle.ibos_kinds.specs.declared.names.Key.{Key}
use Rattle.ibos_kinds.specs.declared.names.Key.TheVariants.{Byte, Enter, Back}
use Rattle.ibos_kinds.specs.declared.act.Act.{Act}
use Rattle.ibos_kinds.specs.declared.act.Act.TheVariants.{Start, Switch, Close, Press, Click, Look}
use Rattle.ibos_kinds.specs.declared.act.Act.TheVariants.{Go, Draw, CookieSet, CookieGet}
use Rattle.ibos_kinds.specs.declared.act.Act.TheVariants.{Bind, Unbind, Done, RegRead, RegWrite}
use Rattle.ibos_kinds.specs.declared.act.Act.TheVariants.{RxPost, RxBell, WireIn}
use Rattle.ibos_kinds.specs.declared.act.Act.TheVariants.{Fill, Submit, TxPost, TxBell, WireOut}
use Rattle.ibos_kinds.specs.declared.act.Act.TheVariants.{Put, Ask, StoreAnswer, StoreNone}
use Rattle.ibos_kinds.specs.declared.act.Act.TheVariants.{StoreLose}

-- an instance that a run can reach
abbrev pub IsNamed : Instance → Type 0
IsNamed who = (who.tab < 64) × (who.ord < 32)

-- a key that writes a byte writes a printable one
abbrev pub IsKey : Key → Type 0
IsKey (Byte byte) = (0x20 ≤ byte) × (byte ≤ 0x7e)
IsKey Enter = Unit {0}
IsKey Back = Unit {0}

-- each field of the act is in its range
abbrev pub Fits : Act → Type 0
Fits (Start tab url) = tab < 64
Fits (Switch tab) = tab < 64
Fits (Close tab) = tab < 64
Fits (Press key) = IsKey key
Fits (Click row col) = Unit {0}
Fits Look = Unit {0}
Fits (Go who url) = IsNamed who
Fits (Draw who row col height width pixels) = IsNamed who
Fits (CookieSet side who text) = IsNamed who
Fits (CookieGet side who) = IsNamed who
Fits (Bind who proto) = IsNamed who
Fits (Unbind who flow) = IsNamed who × (flow < 16)
Fits (Done who) = IsNamed who
Fits (RegRead offset) = Unit {0}
Fits (RegWrite offset value) = Unit {0}
Fits (RxPost slot handle) = Unit {0}
Fits RxBell = Unit {0}
Fits (WireIn frame) = Unit {0}
Fits (Fill who buffer place bytes) = IsNamed who × (buffer < 4)
Fits (Submit who buffer len) = IsNamed who × (buffer < 4)
Fits (TxPost slot send) = Unit {0}
Fits TxBell = Unit {0}
Fits WireOut = Unit {0}
Fits (Put who key bytes) = IsNamed who
Fits (Ask who key) = IsNamed who
Fits (StoreAnswer who request origin key version) = IsNamed who
Fits (StoreNone who request) = IsNamed who
Fits (StoreLose origin key version) = Unit {0}
