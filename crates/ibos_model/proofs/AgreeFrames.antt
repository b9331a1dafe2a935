-- The acts on flows and frames, of network processes, the driver and the wire, agree with their facts.
use Rattle.std.proofs.Common.{◌≡◌, ℕ, List, [], ◌∷◌, ◌++◌, Bool, true, false, Option, Some, None, Ok, Err, Result, refl, sym, ◌∙◌, ap, subst, length, append-nil, append_assoc, map}
use Rattle.std.specs.Prelude.{filter}
use Rattle.std.proofs.lemmas.List.Elements.{filter-append}
use Rattle.ibos_kinds.specs.declared.act.Act.TheVariants.{Bind, Unbind, Done, RegRead, RegWrite, RxPost, RxBell, WireIn}
use Rattle.ibos_kinds.specs.declared.names.Endpoint.{Endpoint}
use Rattle.ibos_kinds.specs.declared.names.Handle.{Handle}
use Rattle.ibos_kinds.specs.declared.names.Instance.{Instance}
use Rattle.ibos_kinds.specs.declared.names.Proto.{Proto}
use Rattle.ibos_kinds.specs.declared.outcome.Outcome.{Outcome}
use Rattle.ibos_kinds.specs.declared.party.Party.TheVariants.{Page as PageOf}
use Rattle.ibos_kinds.specs.declared.rule.Rule.{Rule}
use Rattle.ibos_kinds.specs.Bells.{frames_in}
use Rattle.ibos_kinds.specs.Flows.{bind_answer, close_answer}
use Rattle.ibos_nic.specs.Parts.{reg_at}
use Rattle.ibos_nic.specs.Rules.{read_rule, receive_rule, write_rule}
use Rattle.ibos_origin.specs.Hosts.{HostTable}
use Rattle.ibos_model.specs.Delivered.{Told, told}
use Rattle.ibos_model.specs.Facts.{Frame, Suits, heard_by}
use Rattle.ibos_model.specs.Gives.{Mine, gives_from, mine_after, mine_from}
use Rattle.ibos_model.specs.Jars.{sets_of}
use Rattle.ibos_model.specs.Journal.{Journal, is_ok, same}
use Rattle.ibos_model.specs.Network.{bound_to, ear_in, endpoint_for, flows_by, network, unread_count}
use Rattle.ibos_model.specs.Outcomes.{admitted, bind_outcome, bound_in, bound_outcome, done_outcome, out, unbind_outcome, unless_denied, value_at, value_outcome}
use Rattle.ibos_model.specs.OwnBell.{is_for, own_bell}
use Rattle.ibos_model.specs.Rings.{handles_after, register, values_in}
use Rattle.ibos_model.specs.Stored.{puts_of, requests_of}
use Rattle.ibos_model.specs.Tabs.{Life, Unborn, Alive, Gone, life_of, tabs}
use Rattle.ibos_model.proofs.AgreeCookies.{no_items}
use Rattle.ibos_model.proofs.Bells.{bell_told, ear_same}
use Rattle.ibos_model.proofs.EntriesAgree.{mine_of, Agrees, admit_same, answers, entry, told_own}
use Rattle.ibos_model.proofs.Equalities.{same-true, same-refl}

-- ---- flows

bind_other : (p who : Instance) (life : Life) (remote : Endpoint) (r : Result ℕ Rule) → same who p ≡ false → told (PageOf p) (admitted life (bound_outcome who remote r)).items ≡ []
bind_other p who Unborn remote r other = refl
bind_other p who Gone remote r other = refl
bind_other p who Alive remote (Ok flow) other = rw other refl
bind_other p who Alive remote (Err rule) other = refl

-- with the origin for the endpoint
abbrev binds : HostTable → Journal → Instance → List ℕ → Outcome
binds H J p origin = bind_outcome p (bound_to (endpoint_for H origin) ((network J).flows p))

pub bind_agrees : (H : HostTable) (p : Instance) (o : List ℕ) (J : Journal) (who : Instance) (proto : Proto) (w : List ℕ) → Suits H p o J
    → (own : Bool) → same who p ≡ own → Agrees H p o J (entry H J (Bind who proto) w)
unfolding tabs sets_of network puts_of requests_of
bind_agrees H p o J who proto w suits true own =
    let P : Instance → Type 0 = λ q. Agrees H p o J (entry H J (Bind q proto) w) in
    let is = admit_same o (binds H J p) ((tabs H J).page p) ((tabs H J).is_gone p) suits in
    subst P (sym (same-true who p own)) (record {
      told = rw (same-refl p) (told_own H p o (mine_of H p o J) (Bind p proto) (out H J (Bind p proto)) (ap (answers p) is));
      mine = rw (same-refl p) (ap (λ (r : Outcome). record (mine_of H p o J) { flows = flows_by true (is_ok r.head) (Bind p proto) ((network J).flows p) }) is);
    })
bind_agrees H p o J who proto w suits false other = record {
  told = rw other (bind_other p who (life_of H J who) (bound_in H J who).remote (bind_answer (bound_in H J who)) other);
  mine = rw other refl;
}

unbind_told : (p : Instance) (life : Life) (r : Result Unit Rule) → told (PageOf p) (admitted life (unless_denied r)).items ≡ []
unbind_told p Unborn r = refl
unbind_told p Gone r = refl
unbind_told p Alive (Ok x) = refl
unbind_told p Alive (Err rule) = refl

abbrev unbinds : HostTable → Journal → Instance → ℕ → List ℕ → Outcome
unbinds H J p flow origin = unbind_outcome (bound_to (endpoint_for H origin) ((network J).flows p)) flow

pub unbind_agrees : (H : HostTable) (p : Instance) (o : List ℕ) (J : Journal) (who : Instance) (flow : ℕ) (w : List ℕ) → Suits H p o J
    → (own : Bool) → same who p ≡ own → Agrees H p o J (entry H J (Unbind who flow) w)
unfolding tabs sets_of network puts_of requests_of
unbind_agrees H p o J who flow w suits true own =
    let P : Instance → Type 0 = λ q. Agrees H p o J (entry H J (Unbind q flow) w) in
    let is = admit_same o (unbinds H J p flow) ((tabs H J).page p) ((tabs H J).is_gone p) suits in
    subst P (sym (same-true who p own)) (record {
      told = rw (same-refl p) (told_own H p o (mine_of H p o J) (Unbind p flow) (out H J (Unbind p flow)) (ap (answers p) is));
      mine = rw (same-refl p) (ap (λ (r : Outcome). record (mine_of H p o J) { flows = flows_by true (is_ok r.head) (Unbind p flow) ((network J).flows p) }) is);
    })
unbind_agrees H p o J who flow w suits false other = record {
  told = rw other (unbind_told p (life_of H J who) (close_answer flow (bound_in H J who)));
  mine = rw other refl;
}

-- ---- frames that an instance is done with

done_told : (p : Instance) (life : Life) (unread : List (List ℕ)) → told (PageOf p) (admitted life (done_outcome unread)).items ≡ []
done_told p Unborn unread = refl
done_told p Gone unread = refl
done_told p Alive [] = refl
done_told p Alive (w ∷ ws) = refl

pub done_agrees : (H : HostTable) (p : Instance) (o : List ℕ) (J : Journal) (who : Instance) (w : List ℕ)
    → (own : Bool) → same who p ≡ own → Agrees H p o J (entry H J (Done who) w)
unfolding tabs sets_of network puts_of requests_of
done_agrees H p o J who w true own =
    let P : Instance → Type 0 = λ q. Agrees H p o J (entry H J (Done q) w) in
    subst P (sym (same-true who p own)) (record { told = rw (same-refl p) (sym (append-nil _)); mine = rw (same-refl p) refl })
done_agrees H p o J who w false other = record {
  told = rw other (done_told p (life_of H J who) ((network J).unread who));
  mine = rw other refl;
}

-- ---- the driver

read_told : (p : Instance) (broken : Option Rule) (value : ℕ) → told (PageOf p) (value_outcome broken value).items ≡ []
read_told p None value = refl
read_told p (Some rule) value = refl

pub read_agrees : (H : HostTable) (p : Instance) (o : List ℕ) (J : Journal) (offset : ℕ) (w : List ℕ) → Agrees H p o J (entry H J (RegRead offset) w)
unfolding tabs sets_of network puts_of requests_of
read_agrees H p o J offset w = record {
  told = read_told p (read_rule offset) (value_at (register H.local (network J).rings) (reg_at offset));
  mine = refl;
}

pub write_agrees : (H : HostTable) (p : Instance) (o : List ℕ) (J : Journal) (offset value : ℕ) (w : List ℕ) → Agrees H p o J (entry H J (RegWrite offset value) w)
unfolding tabs sets_of network puts_of requests_of
write_agrees H p o J offset value w = record {
  told = ap (told (PageOf p)) (no_items (write_rule (values_in (network J).rings) offset value));
  mine = refl;
}

pub post_agrees : (H : HostTable) (p : Instance) (o : List ℕ) (J : Journal) (slot : ℕ) (handle : Handle) (w : List ℕ) → Agrees H p o J (entry H J (RxPost slot handle) w)
unfolding tabs sets_of network puts_of requests_of
post_agrees H p o J slot handle w =
    let rings = (network J).rings in
    record { told = ap (told (PageOf p)) (no_items (receive_rule rings.receive rings.names rings.turns slot handle)); mine = refl }

-- ---- frames that come

-- they are counted, and tell nothing yet
frames_told : (H : HostTable) (p : Instance) (o : List ℕ) (m : Mine) (ws : List (List ℕ)) → gives_from H p o m (map Frame ws ++ []) ≡ []
frames_told H p o m [] = refl
frames_told H p o m (w ∷ ws) = frames_told H p o (mine_after H p o m (Frame w)) ws

frames_mine : (H : HostTable) (p : Instance) (o : List ℕ) (m : Mine) (ws : List (List ℕ)) → mine_from H p o m (map Frame ws ++ []) ≡ record m { pending = m.pending ++ ws }
frames_mine H p o m [] = ap (λ ws. record m { pending = ws }) (sym (append-nil m.pending))
frames_mine H p o m (w ∷ ws) = frames_mine H p o (mine_after H p o m (Frame w)) ws ∙ ap (λ ws. record m { pending = ws }) (append_assoc m.pending (w ∷ []) ws)

pub arrive_agrees : (H : HostTable) (p : Instance) (o : List ℕ) (J : Journal) (frame w : List ℕ) → Agrees H p o J (entry H J (WireIn frame) w)
unfolding tabs sets_of network puts_of requests_of
arrive_agrees H p o J frame w =
    let heard : List (List ℕ) = heard_by (WireIn frame) (out H J (WireIn frame)) w in
    record {
      told = sym (frames_told H p o (mine_of H p o J) (filter (is_for H.local p) heard));
      mine = ap (λ ws. record (mine_of H p o J) { pending = ws }) (filter-append (is_for H.local p) (network J).pending heard)
          ∙ sym (frames_mine H p o (mine_of H p o J) (filter (is_for H.local p) heard));
    }

-- ---- the receive bell

pub bell_agrees : (H : HostTable) (p : Instance) (o : List ℕ) (J : Journal) (w : List ℕ) → Suits H p o J → Agrees H p o J (entry H J RxBell w)
unfolding tabs sets_of network puts_of requests_of
bell_agrees H p o J w suits =
    let n = network J in
    let is = bell_told H.local p (ear_in H (tabs H J) n) (unread_count n) (handles_after n.rings) n.pending
    ∙ ap (λ ear. own_bell H.local p ear (length (n.unread p)) (filter (is_for H.local p) n.pending))
    (ear_same o (endpoint_for H) (n.flows p) ((tabs H J).page p) ((tabs H J).is_gone p) suits) in
    record {
      told = ap (map Told) is ∙ sym (append-nil _);
      mine = ap (λ items. record (mine_of H p o J) { unread = n.unread p ++ frames_in items; pending = [] }) is;
    }
