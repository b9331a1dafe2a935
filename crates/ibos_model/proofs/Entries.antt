-- The entry of an act, and that each entry of a run is that of its act.
use Rattle.std.proofs.Common.{◌≡◌, ℕ, List, sym, ap}
use Rattle.ibos_kinds.specs.declared.act.Act.{Act}
use Rattle.ibos_kinds.specs.declared.outcome.Outcome.{Outcome}
use Rattle.ibos_origin.specs.Hosts.{HostTable}
use Rattle.ibos_model.specs.Journal.{Entry, Journal}
use Rattle.ibos_model.specs.Outcomes.{out}

abbrev pub entry : HostTable → Journal → Act → List ℕ → Entry
entry H J a w = record { act = a; outcome = out H J a; written = w }

pub as_entry : (H : HostTable) (J : Journal) (e : Entry) → e.outcome ≡ out H J e.act → entry H J e.act e.written ≡ e
as_entry H J e is = ap (λ (r : Outcome). record { act = e.act; outcome = r; written = e.written }) (sym is)
