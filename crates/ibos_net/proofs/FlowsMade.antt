-- A flow is bound or closed, a frame is done with, or a register is read: all else stands.
use Rattle.std.proofs.Common.{refl, sym, ◌∙◌, ap, subst, arith}
use Rattle.std.proofs.lemmas.Bool.Decides.{nat_tests}
use Rattle.ibos_kinds.specs.Ports.{port_of}
use Rattle.ibos_kinds.specs.declared.rule.Rule.TheVariants.{M9}
use Rattle.ibos_nic.specs.Rules.{of_reg, read_rule, read_rule_of}
use Rattle.ibos_model.specs.Outcomes.{bound_outcome, unless_denied, value_at, value_outcome}
use Rattle.ibos_model.specs.Rings.{of_reg as change_of}
use Rattle.std.specs.Option.{option_map}
use Rattle.ibos_net.proofs.AreasGrown.{by-one, some-is}
use Rattle.ibos_net.proofs.SendsLeft.{counts-moved, unsent-moved}
use Rattle.ibos_recv.specs.Inboxes.{frames_at}
use Rattle.ibos_net.proofs.Words.{ℕ, ◌≡◌, ◌≢◌, ◌&&◌, ◌==◌, ◌++◌, ◌∷◌, Bool, true, false, List, [], Option, None, Some, Result, Ok, Err, IfSome, OnOk, if◌then◌else◌, length, AreRegisters, Bind, Bound, Done, Endpoint, FlowIs, Inboxes, Instance, Life, Alive, Local, LogEntry, Mediated, Memory, NetMakes, NetStands, NetState, Network, Proto, Reg, RegRead, Registers, Rings, RingsStand, Rule, Table, Unbind, ValueIs, Icr, Mpc, accepted, after_read, bind_answer, bound_by, bound_to, close_answer, denied, done_answer, done_outcome, drop, ear_with, frames_of, inbox_by, read_from, reg_at, register, same, slice_set, unread_of, with_flow, without_flow, N6}

pub on-ok : {A B : Type 0} (result : Result A B) {P : Type 0} → P → OnOk result P
on-ok (Ok x) p = p
on-ok (Err e) p = tt

-- ---- the flows of one instance change

abbrev pub with_table : Table → NetState → NetState
with_table table t = record { med = t.med; mem = t.mem; names = t.names; flows = table; inboxes = t.inboxes; sends = t.sends }

pub ear-alive : (life : Instance → Life) (remote : Instance → Endpoint) (n : Network) (t : NetState) (who : Instance) → NetStands life remote n t → life who ≡ Alive → bound_by t.flows who ≡ Some (bound_to (remote who) (n.flows who))
ear-alive life remote n t who s alive = s.ears who ∙ ap (λ l. ear_with l (remote who) (n.flows who)) alive

flows-stands : (life : Instance → Life) (remote : Instance → Endpoint) (n : Network) (t : NetState) (table : Table) (who : Instance) (flows : Instance → List (Option Proto)) → NetStands life remote n t → life who ≡ Alive
    → bound_by table who ≡ Some (bound_to (remote who) (flows who)) → ((q : Instance) → q ≢ who → bound_by table q ≡ bound_by t.flows q) → ((q : Instance) → q ≢ who → flows q ≡ n.flows q)
    → NetStands life remote (record n { flows = flows }) (with_table table t)
flows-stands life remote n t table who flows s alive own others same_flows = record {
  rings = s.rings;
  ears = λ p. by-one who p
      (λ is. subst (λ q. bound_by table q ≡ ear_with (life q) (remote q) (flows q)) (sym is) (own ∙ ap (λ l. ear_with l (remote who) (flows who)) (sym alive)))
      (λ differ not. others p differ ∙ s.ears p ∙ ap (λ xs. ear_with (life p) (remote p) xs) (sym (same_flows p differ)));
  unread = s.unread;
  closed = λ p none. by-one who p (λ is. absurd (some-is (bound_by table who) (bound_to (remote who) (flows who)) own (subst (λ q. bound_by table q ≡ None) is none))) (λ differ not. s.closed p (sym (others p differ) ∙ none));
  unsending = λ p none. by-one who p (λ is. absurd (some-is (bound_by table who) (bound_to (remote who) (flows who)) own (subst (λ q. bound_by table q ≡ None) is none))) (λ differ not. s.unsending p (sym (others p differ) ∙ none));
  counts = counts-moved n (record n { flows = flows }) t.sends refl refl refl s.counts;
  buffers = s.buffers;
  unsent = s.unsent;
  areas = s.areas;
}

flows-like : (life : Instance → Life) (remote : Instance → Endpoint) (n : Network) (t : NetState) (flows : Instance → List (Option Proto)) → ((q : Instance) → flows q ≡ n.flows q) → NetStands life remote n t
    → NetStands life remote (record n { flows = flows }) t
flows-like life remote n t flows like s = record {
  rings = s.rings;
  ears = λ p. s.ears p ∙ ap (λ xs. ear_with (life p) (remote p) xs) (sym (like p));
  unread = s.unread;
  closed = s.closed;
  unsending = s.unsending;
  counts = counts-moved n (record n { flows = flows }) t.sends refl refl refl s.counts;
  buffers = s.buffers;
  unsent = s.unsent;
  areas = s.areas;
}

none-if : {A : Type 0} (b : Bool) (x y : A) → (if b && false then x else y) ≡ y
none-if true x y = refl
none-if false x y = refl

own-if : {A : Type 0} (who : Instance) (x y : A) → (if same who who && true then x else y) ≡ x
own-if {A} who x y = let is : same who who ≡ true = grind (arith, nat_tests) in ap (λ (b : Bool). if b && true then x else y) is

other-if : {A : Type 0} (who q : Instance) (x y : A) → q ≢ who → (if same who q && true then x else y) ≡ y
other-if {A} who q x y differ = by-one who q {P = (if same who q && true then x else y) ≡ y} (λ is. absurd (differ is)) (λ apart not. ap (λ (b : Bool). if b && true then x else y) not)

-- what an answer says of the flows that there are
answer-of : {A : Type 0} (o : Option Bound) (bound : Bound) (result : Result A Rule) (f : Bound → Result A Rule) → o ≡ Some bound → IfSome o (λ b. result ≡ f b) → result ≡ f bound
answer-of o bound result f is answers = subst (λ x. IfSome x (λ b. result ≡ f b)) is answers

remote-of : (o : Option Bound) (bound : Bound) (remote : Endpoint) → o ≡ Some bound → IfSome o (λ b. remote ≡ b.remote) → remote ≡ bound.remote
remote-of o bound remote is answers = subst (λ x. IfSome x (λ b. remote ≡ b.remote)) is answers

pub bound-serves : (local : Local) (life : Instance → Life) (remote : Instance → Endpoint) (n : Network) (t : NetState) (table : Table) (regs : Registers) (log : List LogEntry) (who : Instance) (proto : Proto) (flow : ℕ) (far : Endpoint) (result : Result ℕ Rule)
    → NetStands life remote n t → AreRegisters local n regs → life who ≡ Alive → result ≡ Ok flow → IfSome (bound_by t.flows who) (λ b. result ≡ bind_answer b) → IfSome (bound_by t.flows who) (λ b. far ≡ b.remote)
    → bound_by table who ≡ option_map (with_flow proto) (bound_by t.flows who) → ((q : Instance) → q ≢ who → bound_by table q ≡ bound_by t.flows q)
    → NetMakes local life remote n (Bind who proto) (accepted (FlowIs who flow (port_of who flow) far ∷ [])) (with_table table t) regs log log
bound-serves local life remote n t table regs log who proto flow far result s each alive ok answers remotes own others =
    let ear = ear-alive life remote n t who s alive in
    let answer : Ok flow ≡ bind_answer (bound_to (remote who) (n.flows who)) = sym ok ∙ answer-of (bound_by t.flows who) (bound_to (remote who) (n.flows who)) result bind_answer ear answers in
    let far_is : far ≡ remote who = remote-of (bound_by t.flows who) (bound_to (remote who) (n.flows who)) far ear remotes in
    let flows : Instance → List (Option Proto) = λ p. if same who p && true then n.flows p ++ Some proto ∷ [] else n.flows p in
    record {
      outcome = ap (λ e. accepted (FlowIs who flow (port_of who flow) e ∷ [])) far_is ∙ ap (bound_outcome who (remote who)) answer;
      stands = flows-stands life remote n t table who flows s alive
          (own ∙ ap (option_map (with_flow proto)) ear ∙ ap (λ xs. Some (bound_to (remote who) xs)) (sym (own-if who (n.flows who ++ Some proto ∷ []) (n.flows who)))) others
          (λ q differ. other-if who q (n.flows q ++ Some proto ∷ []) (n.flows q) differ);
      registers = each;
      log = refl;
    }

pub bind-refused : (local : Local) (life : Instance → Life) (remote : Instance → Endpoint) (n : Network) (t : NetState) (regs : Registers) (log : List LogEntry) (who : Instance) (proto : Proto) (rule : Rule) (result : Result ℕ Rule)
    → NetStands life remote n t → AreRegisters local n regs → life who ≡ Alive → result ≡ Err rule → IfSome (bound_by t.flows who) (λ b. result ≡ bind_answer b)
    → NetMakes local life remote n (Bind who proto) (denied rule) t regs log log
bind-refused local life remote n t regs log who proto rule result s each alive err answers =
    let ear = ear-alive life remote n t who s alive in
    let answer : Err rule ≡ bind_answer (bound_to (remote who) (n.flows who)) = sym err ∙ answer-of (bound_by t.flows who) (bound_to (remote who) (n.flows who)) result bind_answer ear answers in
    record {
      outcome = ap (bound_outcome who (remote who)) answer;
      stands = flows-like life remote n t (λ p. if same who p && false then n.flows p ++ Some proto ∷ [] else n.flows p) (λ q. none-if (same who q) _ _) s;
      registers = each;
      log = refl;
    }

pub closed-serves : (local : Local) (life : Instance → Life) (remote : Instance → Endpoint) (n : Network) (t : NetState) (table : Table) (regs : Registers) (log : List LogEntry) (who : Instance) (flow : ℕ) (result : Result Unit Rule)
    → NetStands life remote n t → AreRegisters local n regs → life who ≡ Alive → result ≡ Ok tt → IfSome (bound_by t.flows who) (λ b. result ≡ close_answer flow b)
    → bound_by table who ≡ option_map (without_flow flow) (bound_by t.flows who) → ((q : Instance) → q ≢ who → bound_by table q ≡ bound_by t.flows q)
    → NetMakes local life remote n (Unbind who flow) (accepted []) (with_table table t) regs log log
closed-serves local life remote n t table regs log who flow result s each alive ok answers own others =
    let ear = ear-alive life remote n t who s alive in
    let answer : Ok tt ≡ close_answer flow (bound_to (remote who) (n.flows who)) = sym ok ∙ answer-of (bound_by t.flows who) (bound_to (remote who) (n.flows who)) result (close_answer flow) ear answers in
    let flows : Instance → List (Option Proto) = λ p. if same who p && true then slice_set (n.flows p) flow None else n.flows p in
    record {
      outcome = ap unless_denied answer;
      stands = flows-stands life remote n t table who flows s alive
          (own ∙ ap (option_map (without_flow flow)) ear ∙ ap (λ xs. Some (bound_to (remote who) xs)) (sym (own-if who (slice_set (n.flows who) flow None) (n.flows who)))) others
          (λ q differ. other-if who q (slice_set (n.flows q) flow None) (n.flows q) differ);
      registers = each;
      log = refl;
    }

pub close-refused : (local : Local) (life : Instance → Life) (remote : Instance → Endpoint) (n : Network) (t : NetState) (regs : Registers) (log : List LogEntry) (who : Instance) (flow : ℕ) (rule : Rule) (result : Result Unit Rule)
    → NetStands life remote n t → AreRegisters local n regs → life who ≡ Alive → result ≡ Err rule → IfSome (bound_by t.flows who) (λ b. result ≡ close_answer flow b)
    → NetMakes local life remote n (Unbind who flow) (denied rule) t regs log log
close-refused local life remote n t regs log who flow rule result s each alive err answers =
    let ear = ear-alive life remote n t who s alive in
    let answer : Err rule ≡ close_answer flow (bound_to (remote who) (n.flows who)) = sym err ∙ answer-of (bound_by t.flows who) (bound_to (remote who) (n.flows who)) result (close_answer flow) ear answers in
    record {
      outcome = ap unless_denied answer;
      stands = flows-like life remote n t (λ p. if same who p && false then slice_set (n.flows p) flow None else n.flows p) (λ q. none-if (same who q) _ _) s;
      registers = each;
      log = refl;
    }

-- ---- an instance is done with a frame

abbrev pub with_inboxes : Inboxes → NetState → NetState
with_inboxes inboxes t = record { med = t.med; mem = t.mem; names = t.names; flows = t.flows; inboxes = inboxes; sends = t.sends }

done-is : (frames : List (List ℕ)) (rule : Rule) → Err rule ≡ done_answer (length frames) → denied rule ≡ done_outcome frames
done-is [] rule is = grind (arith, nat_tests)
done-is (w ∷ frames) rule is =
    let test : (length (w ∷ frames) == 0) ≡ false = grind (arith, nat_tests) in
    let pick : Bool → Result Unit Rule = λ b. if b then Err N6 else Ok tt in
    let clash : Err rule ≡ pick false = is ∙ ap pick test in
    cc

not-empty : (frames : List (List ℕ)) → Ok tt ≡ done_answer (length frames) → accepted [] ≡ done_outcome frames
not-empty [] is = cc
not-empty (w ∷ frames) is = refl

unread-moved : (life : Instance → Life) (remote : Instance → Endpoint) (n : Network) (t : NetState) (inboxes : Inboxes) (unread : Instance → List (List ℕ)) → NetStands life remote n t
    → ((p : Instance) → life p ≡ Alive → frames_of t.mem inboxes p ≡ unread p) → ((p : Instance) → bound_by t.flows p ≡ None → inbox_by inboxes p ≡ None)
    → NetStands life remote (record n { unread = unread }) (with_inboxes inboxes t)
unread-moved life remote n t inboxes unread s frames closed = record {
  rings = s.rings;
  ears = s.ears;
  unread = frames;
  closed = closed;
  unsending = s.unsending;
  counts = counts-moved n (record n { unread = unread }) t.sends refl refl refl s.counts;
  buffers = s.buffers;
  unsent = s.unsent;
  areas = s.areas;
}

pub done-serves : (local : Local) (life : Instance → Life) (remote : Instance → Endpoint) (n : Network) (t : NetState) (inboxes : Inboxes) (regs : Registers) (log : List LogEntry) (who : Instance) (result : Result Unit Rule)
    → NetStands life remote n t → AreRegisters local n regs → life who ≡ Alive → bound_by t.flows who ≢ None → result ≡ Ok tt → result ≡ done_answer (unread_of t.inboxes who) → length (frames_of t.mem t.inboxes who) ≡ unread_of t.inboxes who
    → frames_of t.mem inboxes who ≡ drop 1 (frames_of t.mem t.inboxes who) → ((q : Instance) → q ≢ who → inbox_by inboxes q ≡ inbox_by t.inboxes q)
    → NetMakes local life remote n (Done who) (accepted []) (with_inboxes inboxes t) regs log log
done-serves local life remote n t inboxes regs log who result s each alive there ok answer counted own others =
    let count : unread_of t.inboxes who ≡ length (n.unread who) = sym counted ∙ ap length (s.unread who alive) in
    let told : Ok tt ≡ done_answer (length (n.unread who)) = sym ok ∙ answer ∙ ap done_answer count in
    let unread : Instance → List (List ℕ) = λ p. if same who p && true then drop 1 (n.unread p) else n.unread p in
    record {
      outcome = not-empty (n.unread who) told;
      stands = unread-moved life remote n t inboxes unread s
          (λ p lives. by-one who p
          (λ is. subst (λ q. frames_of t.mem inboxes q ≡ unread q) (sym is) (own ∙ ap (drop 1) (s.unread who alive) ∙ sym (own-if who (drop 1 (n.unread who)) (n.unread who))))
          (λ differ not. ap (frames_at t.mem) (others p differ) ∙ s.unread p lives ∙ sym (other-if who p (drop 1 (n.unread p)) (n.unread p) differ)))
          (λ p none. by-one who p (λ is. absurd (there (subst (λ q. bound_by t.flows q ≡ None) is none))) (λ differ not. others p differ ∙ s.closed p none));
      registers = each;
      log = refl;
    }

pub done-refused : (local : Local) (life : Instance → Life) (remote : Instance → Endpoint) (n : Network) (t : NetState) (regs : Registers) (log : List LogEntry) (who : Instance) (rule : Rule) (result : Result Unit Rule)
    → NetStands life remote n t → AreRegisters local n regs → life who ≡ Alive → result ≡ Err rule → result ≡ done_answer (unread_of t.inboxes who) → length (frames_of t.mem t.inboxes who) ≡ unread_of t.inboxes who
    → NetMakes local life remote n (Done who) (denied rule) t regs log log
done-refused local life remote n t regs log who rule result s each alive err answer counted =
    let count : unread_of t.inboxes who ≡ length (n.unread who) = sym counted ∙ ap length (s.unread who alive) in
    record {
      outcome = done-is (n.unread who) rule (sym err ∙ answer ∙ ap done_answer count);
      stands = unread-moved life remote n t t.inboxes (λ p. if same who p && false then drop 1 (n.unread p) else n.unread p) s (λ p lives. s.unread p lives ∙ sym (none-if (same who p) _ _)) s.closed;
      registers = each;
      log = refl;
    }

-- ---- a register is read

rings-read : (rings : Rings) (frames : List (List ℕ)) (m : Mediated) (mem : Memory) (reg : Reg) → RingsStand rings frames m mem
    → RingsStand (read_from reg rings) frames m mem × ((read_from reg rings).posts ≡ rings.posts) × ((read_from reg rings).sent ≡ rings.sent)
rings-read rings frames m mem Icr s = (record { receive = s.receive; transmit = s.transmit; names = s.names; turns = s.turns; heard = s.heard; pending = s.pending; sent = s.sent }, refl, refl)
rings-read rings frames m mem Mpc s = (record { receive = s.receive; transmit = s.transmit; names = s.names; turns = s.turns; heard = s.heard; pending = s.pending; sent = s.sent }, refl, refl)
rings-read rings frames m mem other s = (s, refl, refl)

registers-read : (local : Local) (rings : Rings) (reg : Reg) (regs regs' : Registers) → ((r : Reg) → regs' r ≡ after_read reg regs r) → ((r : Reg) → regs r ≡ register local rings r) → (r : Reg) → regs' r ≡ register local (read_from reg rings) r
registers-read local rings Icr regs regs' after each Icr = after Icr
registers-read local rings Icr regs regs' after each r = after r ∙ each r
registers-read local rings Mpc regs regs' after each Mpc = after Mpc
registers-read local rings Mpc regs regs' after each r = after r ∙ each r
registers-read local rings other regs regs' after each r = after r ∙ each r

read-reg : (local : Local) (life : Instance → Life) (remote : Instance → Endpoint) (n : Network) (t : NetState) (regs regs' : Registers) (log : List LogEntry) (offset value : ℕ) (found : Option Reg)
    → reg_at offset ≡ found → NetStands life remote n t → AreRegisters local n regs → of_reg found read_rule_of M9 ≡ None → IfSome found (λ reg. value ≡ regs reg) → IfSome found (λ reg. (r : Reg) → regs' r ≡ after_read reg regs r)
    → NetMakes local life remote n (RegRead offset) (accepted (ValueIs value ∷ [])) t regs' log log
read-reg local life remote n t regs regs' log offset value None is s each none value_is after = cc
read-reg local life remote n t regs regs' log offset value (Some reg) is s each none value_is after =
    let rings : Option Reg → Rings = λ f. change_of f (λ reg. read_from reg n.rings) n.rings in
    let read = rings-read n.rings n.pending t.med t.mem reg s.rings in
    let posts-kept : (rings (reg_at offset)).posts ≡ n.rings.posts = subst (λ f. (rings f).posts ≡ n.rings.posts) (sym is) read.1 in
    let sent-kept : (rings (reg_at offset)).sent ≡ n.rings.sent = subst (λ f. (rings f).sent ≡ n.rings.sent) (sym is) read.2 in
    record {
      outcome = sym (ap (λ f. value_outcome (of_reg f read_rule_of M9) (value_at (register local n.rings) f)) is ∙ ap (λ o. value_outcome o (register local n.rings reg)) none ∙ ap (λ v. accepted (ValueIs v ∷ [])) (sym (value_is ∙ each reg)));
      stands = record {
        rings = subst (λ f. RingsStand (rings f) n.pending t.med t.mem) (sym is) read.0;
        ears = s.ears;
        unread = s.unread;
        closed = s.closed;
        unsending = s.unsending;
        counts = counts-moved n (record n { rings = rings (reg_at offset) }) t.sends refl posts-kept sent-kept s.counts;
        buffers = s.buffers;
        unsent = s.unsent ∙ sym (unsent-moved n (record n { rings = rings (reg_at offset) }) refl posts-kept sent-kept);
        areas = s.areas;
      };
      registers = subst (λ f. (r : Reg) → regs' r ≡ register local (rings f) r) (sym is) (registers-read local n.rings reg regs regs' after each);
      log = refl;
    }

pub read-serves : (local : Local) (life : Instance → Life) (remote : Instance → Endpoint) (n : Network) (t : NetState) (regs regs' : Registers) (log : List LogEntry) (offset value : ℕ)
    → NetStands life remote n t → AreRegisters local n regs → read_rule offset ≡ None → IfSome (reg_at offset) (λ reg. value ≡ regs reg) → IfSome (reg_at offset) (λ reg. (r : Reg) → regs' r ≡ after_read reg regs r)
    → NetMakes local life remote n (RegRead offset) (accepted (ValueIs value ∷ [])) t regs' log log
read-serves local life remote n t regs regs' log offset value = read-reg local life remote n t regs regs' log offset value (reg_at offset) refl

pub read-refused : (local : Local) (life : Instance → Life) (remote : Instance → Endpoint) (n : Network) (t : NetState) (regs : Registers) (log : List LogEntry) (offset : ℕ) (rule : Rule)
    → NetStands life remote n t → AreRegisters local n regs → read_rule offset ≡ Some rule → NetMakes local life remote n (RegRead offset) (denied rule) t regs log log
read-refused local life remote n t regs log offset rule s each breaks = record {
  outcome = sym (ap (λ o. value_outcome o (value_at (register local n.rings) (reg_at offset))) breaks);
  stands = s;
  registers = each;
  log = refl;
}
