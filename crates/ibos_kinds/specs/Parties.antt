-- Who acts, and who is told.
use Rattle.std.specs.Prelude.{Bool, true, false, ◌==◌, ◌&&◌}
use Rattle.ibos_kinds.specs.declared.names.Instance.{Instance}
use Rattle.ibos_kinds.specs.declared.act.Act.{Act}
use Rattle.ibos_kinds.specs.declared.act.Act.TheVariants.{Start, Switch, Close, Press, Click, Look}
use Rattle.ibos_kinds.specs.declared.act.Act.TheVariants.{Go, Draw, CookieSet, CookieGet}
use Rattle.ibos_kinds.specs.declared.act.Act.TheVariants.{Bind, Unbind, Done, RegRead, RegWrite}
use Rattle.ibos_kinds.specs.declared.act.Act.TheVariants.{RxPost, RxBell, WireIn}
use Rattle.ibos_kinds.specs.declared.act.Act.TheVariants.{Fill, Submit, TxPost, TxBell, WireOut}
use Rattle.ibos_kinds.specs.declared.act.Act.TheVariants.{Put, Ask, StoreAnswer, StoreNone}
use Rattle.ibos_kinds.specs.declared.act.Act.TheVariants.{StoreLose}
use Rattle.ibos_kinds.specs.declared.outcome.Item.{Item}
use Rattle.ibos_kinds.specs.declared.outcome.Item.TheVariants.{Opened, Moved, Ended, KeyTo, ClickTo}
use Rattle.ibos_kinds.specs.declared.outcome.Item.TheVariants.{Cookies, RowIs, FlowIs}
use Rattle.ibos_kinds.specs.declared.outcome.Item.TheVariants.{Arrived, ValueIs, LentIs, VerdictIs}
use Rattle.ibos_kinds.specs.declared.outcome.Item.TheVariants.{Dropped, Home, SendIs, Returned}
use Rattle.ibos_kinds.specs.declared.outcome.Item.TheVariants.{SentIs, Idle, Accepted, VersionIs}
use Rattle.ibos_kinds.specs.declared.outcome.Item.TheVariants.{RequestIs, Object, NoObject}
use Rattle.ibos_kinds.specs.declared.outcome.Item.TheVariants.{StorePut, StoreAsk}
use Rattle.ibos_kinds.specs.declared.party.Party.{Party}
use Rattle.ibos_kinds.specs.declared.party.Party.TheVariants.{Page, Driver, Store, User, Wire, Log}

-- the party that acts
abbrev pub actor : Act → Party
actor (Start tab url) = User
actor (Switch tab) = User
actor (Close tab) = User
actor (Press key) = User
actor (Click row col) = User
actor Look = User
actor (Go who url) = Page who
actor (Draw who row col height width pixels) = Page who
actor (CookieSet side who text) = Page who
actor (CookieGet side who) = Page who
actor (Bind who proto) = Page who
actor (Unbind who flow) = Page who
actor (Done who) = Page who
actor (RegRead offset) = Driver
actor (RegWrite offset value) = Driver
actor (RxPost slot handle) = Driver
actor RxBell = Driver
actor (WireIn frame) = Wire
actor (Fill who buffer place bytes) = Page who
actor (Submit who buffer len) = Page who
actor (TxPost slot send) = Driver
actor TxBell = Driver
actor WireOut = Wire
actor (Put who key bytes) = Page who
actor (Ask who key) = Page who
actor (StoreAnswer who request origin key version) = Store
actor (StoreNone who request) = Store
actor (StoreLose origin key version) = Store

-- the party that an item is addressed to
abbrev pub addressee : Item → Party
addressee (Opened who url) = Page who
addressee (Moved who url) = Page who
addressee (Ended who) = Page who
addressee (KeyTo who byte) = Page who
addressee (ClickTo who row col) = Page who
addressee (Cookies who text) = Page who
addressee (RowIs row text) = User
addressee (FlowIs who flow port remote) = Page who
addressee (Arrived who flow bytes) = Page who
addressee (ValueIs value) = Driver
addressee (LentIs handle) = Driver
addressee (VerdictIs verdict) = Wire
addressee (Dropped rule) = Log
addressee (Home who buffer) = Page who
addressee (SendIs send) = Driver
addressee (Returned send) = Driver
addressee (SentIs send) = Wire
addressee Idle = Wire
addressee (Accepted send who bytes) = Log
addressee (VersionIs who version) = Page who
addressee (RequestIs who request) = Page who
addressee (Object who request version bytes) = Page who
addressee (NoObject who request) = Page who
addressee (StorePut origin key version len) = Store
addressee (StoreAsk who request origin key) = Store

abbrev pub same : Instance → Instance → Bool
same p q = p.tab == q.tab && p.ord == q.ord

abbrev pub same_party : Party → Party → Bool
same_party (Page who) (Page p) = same who p
same_party Driver Driver = true
same_party Store Store = true
same_party User User = true
same_party Wire Wire = true
same_party Log Log = true
same_party other party = false

-- the party acts
abbrev pub is_by : Party → Act → Bool
is_by party act = same_party (actor act) party

-- the party is told the item
abbrev pub is_to : Party → Item → Bool
is_to party item = same_party (addressee item) party
