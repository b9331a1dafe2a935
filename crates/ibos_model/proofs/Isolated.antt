-- The law of isolation, by one entry after another.
use Rattle.std.proofs.Common.{ℕ, List, ◌∷◌, refl, subst}
use Rattle.ibos_kinds.specs.declared.names.Instance.{Instance}
use Rattle.ibos_kinds.specs.declared.act.Act.{Act}
use Rattle.ibos_kinds.specs.declared.act.Act.TheVariants.{Start, Switch, Close, Press, Click, Look, Go, Draw, CookieSet, CookieGet, Bind, Unbind, Done, RegRead, RegWrite, RxPost, RxBell, WireIn, Fill, Submit, TxPost, TxBell, WireOut, Put, Ask, StoreAnswer, StoreNone, StoreLose}
use Rattle.ibos_origin.specs.Hosts.{HostTable}
use Rattle.ibos_model.specs.Journal.{Entry, Journal, same}
use Rattle.ibos_model.specs.Tabs.{tabs}
use Rattle.ibos_model.specs.Jars.{sets_of}
use Rattle.ibos_model.specs.Network.{network}
use Rattle.ibos_model.specs.Stored.{puts_of, requests_of}
use Rattle.ibos_model.specs.Runs.{IsRun, run}
use Rattle.ibos_model.specs.Facts.{Suits}
use Rattle.ibos_model.specs.Laws.{IsIsolated, IsIsolatedIn, IsIsolatedOverTwo, IsCarriedAlways}
use Rattle.ibos_model.proofs.Inductions.{Holds, holds, adds, same_told}
use Rattle.ibos_model.proofs.NewInstances.{suits_before}
use Rattle.ibos_model.proofs.ChangesDue.{IsSound, tabs_sound}
use Rattle.ibos_model.proofs.Entries.{as_entry, entry}
use Rattle.ibos_model.proofs.EntriesAgree.{own_law, Agrees}
use Rattle.ibos_model.proofs.AgreeTabs.{start_agrees, switch_agrees, close_agrees, go_agrees}
use Rattle.ibos_model.proofs.AgreeCookies.{set_agrees, get_agrees}
use Rattle.ibos_model.proofs.AgreeFrames.{bind_agrees, unbind_agrees, done_agrees, read_agrees, write_agrees, post_agrees, arrive_agrees, bell_agrees}
use Rattle.ibos_model.proofs.AgreeSends.{fill_agrees, submit_agrees, send_post_agrees, home_agrees, wire_out_agrees}
use Rattle.ibos_model.proofs.AgreeStored.{put_agrees, ask_agrees, answer_agrees, none_agrees, lose_agrees}
use Rattle.ibos_model.proofs.GoingOn.{is_run}
use Rattle.ibos_model.proofs.AgreeInput.{press_agrees, click_agrees, look_agrees, draw_agrees}

-- one entry agrees, whatever the act
agrees : (H : HostTable) (p : Instance) (o : List ℕ) (J : Journal) (a : Act) (w : List ℕ) → IsSound (tabs H J) → Suits H p o J → Agrees H p o J (entry H J a w)
agrees H p o J (Start tab url) w sound suits = start_agrees H p o J tab url w sound
agrees H p o J (Switch tab) w sound suits = switch_agrees H p o J tab w
agrees H p o J (Close tab) w sound suits = close_agrees H p o J tab w sound
agrees H p o J (Press key) w sound suits = press_agrees H p o J key w sound
agrees H p o J (Click row col) w sound suits = click_agrees H p o J row col w
agrees H p o J Look w sound suits = look_agrees H p o J w
agrees H p o J (Draw who row col height width pixels) w sound suits = draw_agrees H p o J who row col height width pixels w (same who p) refl
agrees H p o J (Go who url) w sound suits = go_agrees H p o J who url w sound suits (same who p) refl
agrees H p o J (CookieSet side who text) w sound suits = set_agrees H p o J side who text w suits (same who p) refl
agrees H p o J (CookieGet side who) w sound suits = get_agrees H p o J side who w suits (same who p) refl
agrees H p o J (Bind who proto) w sound suits = bind_agrees H p o J who proto w suits (same who p) refl
agrees H p o J (Unbind who flow) w sound suits = unbind_agrees H p o J who flow w suits (same who p) refl
agrees H p o J (Done who) w sound suits = done_agrees H p o J who w (same who p) refl
agrees H p o J (RegRead offset) w sound suits = read_agrees H p o J offset w
agrees H p o J (RegWrite offset value) w sound suits = write_agrees H p o J offset value w
agrees H p o J (RxPost slot handle) w sound suits = post_agrees H p o J slot handle w
agrees H p o J RxBell w sound suits = bell_agrees H p o J w suits
agrees H p o J (WireIn frame) w sound suits = arrive_agrees H p o J frame w
agrees H p o J (Fill who buffer place bytes) w sound suits = fill_agrees H p o J who buffer place bytes w (same who p) refl
agrees H p o J (Submit who buffer len) w sound suits = submit_agrees H p o J who buffer len w suits (same who p) refl
agrees H p o J (TxPost slot send) w sound suits = send_post_agrees H p o J slot send w
agrees H p o J TxBell w sound suits = home_agrees H p o J w
agrees H p o J WireOut w sound suits = wire_out_agrees H p o J w
agrees H p o J (Put who key bytes) w sound suits = put_agrees H p o J who key bytes w suits (same who p) refl
agrees H p o J (Ask who key) w sound suits = ask_agrees H p o J who key w suits (same who p) refl
agrees H p o J (StoreAnswer who request origin key version) w sound suits = answer_agrees H p o J who request origin key version w suits
agrees H p o J (StoreNone who request) w sound suits = none_agrees H p o J who request w
agrees H p o J (StoreLose origin key version) w sound suits = lose_agrees H p o J origin key version w

-- ---- whole runs

-- a run that the origin suits
record IsGood (H : HostTable) (p : Instance) (o : List ℕ) (J : Journal) : Type 0 where
  run : IsRun H J
  suits : Suits H p o J

good_before : (H : HostTable) (p : Instance) (o : List ℕ) (J : Journal) (e : Entry) → IsGood H p o (e ∷ J) → IsGood H p o J
good_before H p o J e good = record { run = good.run.1; suits = suits_before H p o J e good.run good.suits }

good_agrees : (H : HostTable) (p : Instance) (o : List ℕ) (J : Journal) (e : Entry) → IsGood H p o (e ∷ J) → Agrees H p o J e
good_agrees H p o J e good =
    let P : Entry → Type 0 = Agrees H p o J in
    subst P (as_entry H J e good.run.0.outcome) (agrees H p o J e.act e.written (tabs_sound H J good.run.1) (suits_before H p o J e good.run good.suits))

-- the law for the journal of a run
own_holds : (H : HostTable) (p : Instance) (o : List ℕ) (J : Journal) → IsRun H J → Suits H p o J → Holds (own_law H p o) J
own_holds H p o J run suits = holds (own_law H p o) (IsGood H p o) (good_before H p o) (good_agrees H p o) J (record { run = run; suits = suits })

pub isolated_in : (H : HostTable) (J : Journal) → IsRun H J → IsIsolatedIn H J
unfolding tabs sets_of network puts_of requests_of
isolated_in H J run p o suits = (own_holds H p o J run suits).told

pub isolated : IsIsolated
isolated H A W p o suits = isolated_in H (run H A W) (is_run H A W) p o suits

pub isolated_over_two : IsIsolatedOverTwo
isolated_over_two H A B V W p o first second same =
    same_told (own_law H p o) (run H A V) (run H B W) (own_holds H p o (run H A V) (is_run H A V) first) (own_holds H p o (run H B W) (is_run H B W) second) same

pub carried : IsCarriedAlways
unfolding tabs sets_of network puts_of requests_of
carried H J e run p o suits = adds (own_law H p o) J e (own_holds H p o J run.1 (suits_before H p o J e run suits)) (own_holds H p o (e ∷ J) run suits)
