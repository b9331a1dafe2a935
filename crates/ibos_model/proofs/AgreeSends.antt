-- The acts on transmit buffers and sends agree with their facts.
use Rattle.std.proofs.Common.{◌≡◌, ℕ, List, [], ◌∷◌, ◌++◌, Bool, true, false, Option, Some, None, refl, sym, ◌∙◌, ap, subst, length, map}
use Rattle.std.specs.Prelude.{filter, if◌then◌else◌, take}
use Rattle.std.proofs.lemmas.List.{map-append}
use Rattle.std.proofs.lemmas.List.Elements.{filter-append}
use Rattle.ibos_kinds.specs.declared.act.Act.TheVariants.{Fill, Submit, TxPost, TxBell, WireOut}
use Rattle.ibos_kinds.specs.declared.names.Instance.{Instance}
use Rattle.ibos_kinds.specs.declared.outcome.Item.{Item}
use Rattle.ibos_kinds.specs.declared.outcome.Item.TheVariants.{Home, Idle, SentIs}
use Rattle.ibos_kinds.specs.declared.outcome.Outcome.{Outcome}
use Rattle.ibos_kinds.specs.declared.party.Party.TheVariants.{Page as PageOf}
use Rattle.ibos_kinds.specs.declared.rule.Rule.{Rule}
use Rattle.ibos_kinds.specs.Parties.{is_to}
use Rattle.ibos_kinds.specs.Sends.{Send, fill_rule, home_items, home_of, homes_of, returned_items, send_at, submit_rule}
use Rattle.ibos_nic.specs.Rules.{transmit_rule}
use Rattle.ibos_origin.specs.Hosts.{HostTable}
use Rattle.ibos_model.specs.Delivered.{Told, told}
use Rattle.ibos_model.specs.Facts.{HomeOf, Suits, homes}
use Rattle.ibos_model.specs.Gives.{Mine, away_with, gives_from, mine_after, mine_from}
use Rattle.ibos_model.specs.Jars.{sets_of}
use Rattle.ibos_model.specs.Journal.{Journal, is_ok, same}
use Rattle.ibos_model.specs.Network.{away_by, bound_to, buffers_by, endpoint_for, homed, is_over, network, over_in, waits}
use Rattle.ibos_model.specs.Outcomes.{admitted, bound_in, fill_outcome, out, submit_outcome, submitted_outcome}
use Rattle.ibos_model.specs.Outcomes.{accepted}
use Rattle.ibos_model.specs.Rings.{can_send, next_send, outbound}
use Rattle.ibos_model.specs.Stored.{puts_of, requests_of}
use Rattle.ibos_model.specs.Tabs.{Life, Unborn, Alive, Gone, life_of, tabs}
use Rattle.ibos_model.proofs.AgreeCookies.{answer_told, no_items}
use Rattle.ibos_model.proofs.EntriesAgree.{mine_of, Agrees, admit_same, answers, entry, told_own}
use Rattle.ibos_model.proofs.Equalities.{same-true, same-refl}

-- where a buffer is matters only while its instance lives
home_same : (b : ℕ) (row : Bool → Outcome) (away : ℕ → Bool) (life : Life) → admitted life (row (away b)) ≡ admitted life (row (away_with life away b))
home_same b row away Unborn = refl
home_same b row away Alive = refl
home_same b row away Gone = refl

-- ---- fills

pub fill_agrees : (H : HostTable) (p : Instance) (o : List ℕ) (J : Journal) (who : Instance) (buffer place : ℕ) (bytes w : List ℕ)
    → (own : Bool) → same who p ≡ own → Agrees H p o J (entry H J (Fill who buffer place bytes) w)
unfolding tabs sets_of network puts_of requests_of
fill_agrees H p o J who buffer place bytes w true own =
    let P : Instance → Type 0 = λ q. Agrees H p o J (entry H J (Fill q buffer place bytes) w) in
    let n = network J in
    let is = home_same buffer (λ away. fill_outcome away place bytes) (n.away p) (life_of H J p) in
    subst P (sym (same-true who p own)) (record {
      told = rw (same-refl p) (told_own H p o (mine_of H p o J) (Fill p buffer place bytes) (out H J (Fill p buffer place bytes)) (ap (answers p) is));
      mine = rw (same-refl p) (ap (λ (r : Outcome). record (mine_of H p o J) { buffers = buffers_by true (is_ok r.head) (Fill p buffer place bytes) (n.buffers p) }) is);
    })
fill_agrees H p o J who buffer place bytes w false other = record {
  told = rw other (answer_told p (life_of H J who) (fill_rule ((network J).away who buffer) place (length bytes)));
  mine = rw other refl;
}

-- ---- submits

-- the number of a send is not told to its instance
record IsNumberless (p : Instance) (one other : Outcome) : Type 0 where
  told : answers p one ≡ answers p other
  ok : is_ok one.head ≡ is_ok other.head

numberless : (p : Instance) (life : Life) (number : ℕ) (bytes : List ℕ) (broken : Option Rule)
    → IsNumberless p (admitted life (submit_outcome number p bytes broken)) (admitted life (submit_outcome 0 p bytes broken))
numberless p Unborn number bytes broken = record { told = refl; ok = refl }
numberless p Gone number bytes broken = record { told = refl; ok = refl }
numberless p Alive number bytes None = record { told = refl; ok = refl }
numberless p Alive number bytes (Some rule) = record { told = refl; ok = refl }

submit_told : (p who : Instance) (life : Life) (number : ℕ) (bytes : List ℕ) (broken : Option Rule) → told (PageOf p) (admitted life (submit_outcome number who bytes broken)).items ≡ []
submit_told p who Unborn number bytes broken = refl
submit_told p who Gone number bytes broken = refl
submit_told p who Alive number bytes None = refl
submit_told p who Alive number bytes (Some rule) = refl

-- a buffer goes away while its instance lives
away_after : (m : Mine) (p : Instance) (buffer len : ℕ) (homes : List ℕ) (away : ℕ → Bool) (life : Life) (row : Outcome)
    → record m { away = away_with life (away_by true (is_ok (admitted life row).head) (Submit p buffer len) homes away) }
    ≡ record m { away = away_by true (is_ok (admitted life row).head) (Submit p buffer len) [] (away_with life away) }
away_after m p buffer len homes away Unborn row = refl
away_after m p buffer len homes away Gone row = refl
away_after m p buffer len homes away Alive row = refl

pub submit_agrees : (H : HostTable) (p : Instance) (o : List ℕ) (J : Journal) (who : Instance) (buffer len : ℕ) (w : List ℕ) → Suits H p o J
    → (own : Bool) → same who p ≡ own → Agrees H p o J (entry H J (Submit who buffer len) w)
unfolding tabs sets_of network puts_of requests_of
submit_agrees H p o J who buffer len w suits true own =
    let P : Instance → Type 0 = λ q. Agrees H p o J (entry H J (Submit q buffer len) w) in
    let n = network J in
    let m = mine_of H p o J in
    let life = life_of H J p in
    let bound = bound_to (endpoint_for H o) (n.flows p) in
    let numbered : Outcome = admitted life (submitted_outcome H.local (length n.sends) p bound (away_with life (n.away p) buffer) len (n.buffers p buffer)) in
    let is : out H J (Submit p buffer len) ≡ numbered =
    admit_same o (λ origin. submitted_outcome H.local (length n.sends) p (bound_to (endpoint_for H origin) (n.flows p)) (n.away p buffer) len (n.buffers p buffer)) ((tabs H J).page p) ((tabs H J).is_gone p) suits
    ∙ home_same buffer (λ away. submitted_outcome H.local (length n.sends) p bound away len (n.buffers p buffer)) (n.away p) life in
    let one = numberless p life (length n.sends) (take len (n.buffers p buffer)) (submit_rule H.local p (Some bound) (away_with life (n.away p) buffer) len (n.buffers p buffer)) in
    let homes = homes_of p n.sends (outbound n.rings) in
    subst P (sym (same-true who p own)) (record {
      told = rw (same-refl p) (told_own H p o m (Submit p buffer len) (out H J (Submit p buffer len)) (ap (answers p) is ∙ one.told));
      mine = rw (same-refl p) (ap (λ (r : Outcome). record m { away = away_with life (away_by true (is_ok r.head) (Submit p buffer len) homes (n.away p)) }) is
          ∙ away_after m p buffer len homes (n.away p) life (submitted_outcome H.local (length n.sends) p bound (away_with life (n.away p) buffer) len (n.buffers p buffer))
          ∙ ap (λ ok. record m { away = away_by true ok (Submit p buffer len) [] (away_with life (n.away p)) }) one.ok);
    })
submit_agrees H p o J who buffer len w suits false other =
    let n = network J in
    record {
      told = rw other (submit_told p who (life_of H J who) (length n.sends) (take len (n.buffers who buffer)) (submit_rule H.local who (Some (bound_in H J who)) (n.away who buffer) len (n.buffers who buffer)));
      mine = rw other refl;
    }

-- ---- the driver and the wire

pub send_post_agrees : (H : HostTable) (p : Instance) (o : List ℕ) (J : Journal) (slot send : ℕ) (w : List ℕ) → Agrees H p o J (entry H J (TxPost slot send) w)
unfolding tabs sets_of network puts_of requests_of
send_post_agrees H p o J slot send w =
    let n = network J in
    record { told = ap (told (PageOf p)) (no_items (transmit_rule n.rings.transmit (waits n send) slot)); mine = refl }

wire_out_told : (p : Instance) (send : ℕ) (sends : Bool) → told (PageOf p) (if sends then accepted (SentIs send ∷ []) else accepted (Idle ∷ [])).items ≡ []
wire_out_told p send true = refl
wire_out_told p send false = refl

pub wire_out_agrees : (H : HostTable) (p : Instance) (o : List ℕ) (J : Journal) (w : List ℕ) → Agrees H p o J (entry H J WireOut w)
unfolding tabs sets_of network puts_of requests_of
wire_out_agrees H p o J w = let r = (network J).rings in record { told = wire_out_told p (next_send r) (can_send r); mine = refl }

-- ---- buffers that come home

abbrev unless : {A : Type 0} → Bool → List A → List A
unless over xs = if over then [] else xs

unless-append : {A : Type 0} (over : Bool) (xs ys : List A) → unless over xs ++ unless over ys ≡ unless over (xs ++ ys)
unless-append true xs ys = refl
unless-append false xs ys = refl

item_home : (p who : Instance) (buffer : ℕ) (own ended over : Bool) → same who p ≡ own → (own ≡ true → ended ≡ over)
    → filter (is_to (PageOf p)) (if ended then [] else Home who buffer ∷ []) ≡ unless over (map (Home p) (if own then buffer ∷ [] else []))
item_home p who buffer true true true is one = refl
item_home p who buffer true false false is one = rw is (ap (λ q. Home q buffer ∷ []) (same-true who p is))
item_home p who buffer true true false is one = absurd (clash (one refl))
  where
    clash : true ≡ false → ⊥
    clash h = cc
item_home p who buffer true false true is one = absurd (clash (one refl))
  where
    clash : false ≡ true → ⊥
    clash h = cc
item_home p who buffer false true true is one = refl
item_home p who buffer false true false is one = refl
item_home p who buffer false false true is one = rw is refl
item_home p who buffer false false false is one = rw is refl

send_home : (p : Instance) (ended : Instance → Bool) (send : Option Send) → filter (is_to (PageOf p)) (home_items ended send) ≡ unless (ended p) (map (Home p) (home_of p send))
send_home p ended None = none (ended p)
  where
    none : (over : Bool) → [] ≡ unless {A = Item} over []
    none true = refl
    none false = refl
send_home p ended (Some s) = item_home p s.who s.buffer (same s.who p) (ended s.who) (ended p) refl (λ own. ap ended (same-true s.who p own))

-- a transmit bell tells an instance which of its buffers come home
returned_told : (p : Instance) (sends : List Send) (ended : Instance → Bool) (ks : List ℕ)
    → filter (is_to (PageOf p)) (returned_items ended sends ks) ≡ unless (ended p) (map (Home p) (homes_of p sends ks))
unfolding returned_items homes_of
returned_told p sends ended [] = send_home p ended None
returned_told p sends ended (k ∷ ks) =
    filter-append (is_to (PageOf p)) (home_items ended (send_at sends k)) (returned_items ended sends ks)
    ∙ ap (λ items. items ++ filter (is_to (PageOf p)) (returned_items ended sends ks)) (send_home p ended (send_at sends k))
    ∙ ap (λ items. unless (ended p) (map (Home p) (home_of p (send_at sends k))) ++ items) (returned_told p sends ended ks)
    ∙ unless-append (ended p) (map (Home p) (home_of p (send_at sends k))) (map (Home p) (homes_of p sends ks))
    ∙ ap (unless (ended p)) (sym (map-append (Home p) (home_of p (send_at sends k)) (homes_of p sends ks)))

homes_told : (H : HostTable) (p : Instance) (o : List ℕ) (m : Mine) (bs : List ℕ) → map Told (map (Home p) bs) ≡ gives_from H p o m (map HomeOf bs ++ [])
homes_told H p o m [] = refl
homes_told H p o m (b ∷ bs) = ap (λ ds. Told (Home p b) ∷ ds) (homes_told H p o (mine_after H p o m (HomeOf b)) bs)

homes_mine : (H : HostTable) (p : Instance) (o : List ℕ) (m : Mine) (bs : List ℕ) → record m { away = homed bs m.away } ≡ mine_from H p o m (map HomeOf bs ++ [])
homes_mine H p o m [] = refl
homes_mine H p o m (b ∷ bs) = homes_mine H p o (mine_after H p o m (HomeOf b)) bs

-- what a bell gives, and how it is counted, by the life of the instance
home_told : (H : HostTable) (p : Instance) (o : List ℕ) (m : Mine) (bs : List ℕ) (over : Bool) → map Told (unless over (map (Home p) bs)) ≡ gives_from H p o m (homes over bs true TxBell ++ [])
home_told H p o m bs true = refl
home_told H p o m bs false = homes_told H p o m bs

home_mine : (H : HostTable) (p : Instance) (o : List ℕ) (m : Mine) (bs : List ℕ) (away : ℕ → Bool) (life : Life)
    → record m { away = away_with life (homed bs away) } ≡ mine_from H p o (record m { away = away_with life away }) (homes (is_over life) bs true TxBell ++ [])
home_mine H p o m bs away Unborn = homes_mine H p o (record m { away = away }) bs
home_mine H p o m bs away Alive = homes_mine H p o (record m { away = away }) bs
home_mine H p o m bs away Gone = refl

pub home_agrees : (H : HostTable) (p : Instance) (o : List ℕ) (J : Journal) (w : List ℕ) → Agrees H p o J (entry H J TxBell w)
unfolding tabs sets_of network puts_of requests_of
home_agrees H p o J w =
    let n = network J in
    let bs = homes_of p n.sends (outbound n.rings) in
    record {
      told = ap (map Told) (returned_told p n.sends (over_in (tabs H J)) (outbound n.rings)) ∙ home_told H p o (mine_of H p o J) bs (over_in (tabs H J) p);
      mine = home_mine H p o (mine_of H p o J) bs (n.away p) (life_of H J p);
    }
