-- A frame comes: what the device made of it is what the journal says.
use Rattle.std.proofs.Common.{refl, sym, ◌∙◌, ap, subst, inl, inr}
use Rattle.std.proofs.lemmas.List.{append-nil}
use Rattle.ibos_net.proofs.Words.{ℕ, ◌≡◌, ◌+◌, ◌-◌, ◌^◌, ◌++◌, ◌∷◌, List, [], Bool, true, false, Result, Ok, length, min, bit_or, if◌then◌else◌, Local, Mediated, Memory, Network, Rings, RingsStand, Registers, Receive, Reg, Ctrl, Icr, Imc, Ims, Mpc, Rah0, Ral0, Status, Rctl, NoMemory, Verdict, Filtered, Missed, Heard, VerdictIs, completed, received_frames, IsHeard, HasArrived, Keeps, SameNames, arrived, overrun_cause, received_cause, hands_of, Outgoing, Transmit, frames_of, AreAtHand, Inboxes, Instance, Life, Endpoint, NetStands, NetMakes, NetState, AreRegisters, IsSafe, WireIn, accepted, LogEntry, is_enabled, verdict_of, verdict_at, Loses, next_frame, net_outcome, is_heard, with_reg}
use Rattle.ibos_nic.specs.Device.{OnHeard, OnUnheard}
use Rattle.ibos_nic.specs.Registers.{after_missed, with_cause}
use Rattle.ibos_mediate.specs.Frames.{unsent_frames}
use Rattle.ibos_net.proofs.SendsLeft.{SendsLeft, counts-moved, left-buffers, left-same, unsent-moved}
use Rattle.ibos_net.proofs.AtDevice.{AreOthers, at-device, from-device, others-of}
use Rattle.ibos_net.proofs.OwnAddress.{verdict-same}

abbrev pub with_mem : Memory → NetState → NetState
with_mem mem t = record t { mem = mem }

pub arrived-safe : (t : NetState) (mem' : Memory) (result : Result Verdict NoMemory) → IsSafe t → Keeps [] t.med t.med t.mem mem' (HasArrived result) SameNames → AreAtHand t.names mem' (hands_of t) → SendsLeft t.med t.med t.mem mem' t.sends → IsSafe (with_mem mem' t)
arrived-safe t mem' result safe keeps hands left = record {
  memory = keeps.memory;
  owned = λ ring. keeps.owned t.names t.names refl ring (safe.owned ring);
  unheld = keeps.unheld t.names t.names refl [] safe.unheld;
  hands = hands;
  beside = safe.beside;
  sending = safe.sending;
  posts = safe.posts;
  told = safe.told ∙ sym left.done;
}

-- ---- the registers that are part of no ring

others-missed : (local : Local) (rings : Rings) (regs regs' : Registers) (b : Bool) → is_enabled (regs Rctl) ≡ b → ((r : Reg) → regs' r ≡ after_missed regs r) → AreOthers local rings regs
    → AreOthers local (if b then record rings { causes = bit_or rings.causes overrun_cause; missed = min (rings.missed + 1) (2 ^ 32 - 1) } else rings) regs'
others-missed local rings regs regs' true on each o =
    let at : (r : Reg) → regs' r ≡ with_reg Mpc (min (regs Mpc + 1) (2 ^ 32 - 1)) (with_cause overrun_cause regs) r = λ r. each r ∙ ap (λ x. if x then with_reg Mpc (min (regs Mpc + 1) (2 ^ 32 - 1)) (with_cause overrun_cause regs) r else regs r) on in
    record {
      ctrl = at Ctrl ∙ o.ctrl;
      status = at Status ∙ o.status;
      icr = at Icr ∙ ap (λ x. bit_or x overrun_cause) o.icr;
      ims = at Ims ∙ o.ims;
      imc = at Imc ∙ o.imc;
      mpc = at Mpc ∙ ap (λ x. min (x + 1) (2 ^ 32 - 1)) o.mpc;
      ral0 = at Ral0 ∙ o.ral0;
      rah0 = at Rah0 ∙ o.rah0;
    }
others-missed local rings regs regs' false on each o =
    let at : (r : Reg) → regs' r ≡ regs r = λ r. each r ∙ ap (λ x. if x then with_reg Mpc (min (regs Mpc + 1) (2 ^ 32 - 1)) (with_cause overrun_cause regs) r else regs r) on in
    record {
      ctrl = at Ctrl ∙ o.ctrl;
      status = at Status ∙ o.status;
      icr = at Icr ∙ o.icr;
      ims = at Ims ∙ o.ims;
      imc = at Imc ∙ o.imc;
      mpc = at Mpc ∙ o.mpc;
      ral0 = at Ral0 ∙ o.ral0;
      rah0 = at Rah0 ∙ o.rah0;
    }

others-arrived : (local : Local) (rings : Rings) (regs regs' : Registers) (verdict : Verdict) → regs Rctl ≡ rings.receive.control → HasArrived (Ok verdict) regs regs' → AreOthers local rings regs → AreOthers local (arrived verdict rings) regs'
others-arrived local rings regs regs' Filtered control each o = record {
  ctrl = each Ctrl ∙ o.ctrl;
  status = each Status ∙ o.status;
  icr = each Icr ∙ o.icr;
  ims = each Ims ∙ o.ims;
  imc = each Imc ∙ o.imc;
  mpc = each Mpc ∙ o.mpc;
  ral0 = each Ral0 ∙ o.ral0;
  rah0 = each Rah0 ∙ o.rah0;
}
others-arrived local rings regs regs' Missed control each o = others-missed local rings regs regs' (is_enabled rings.receive.control) (ap is_enabled control) each o
others-arrived local rings regs regs' Heard control each o = record {
  ctrl = each Ctrl ∙ o.ctrl;
  status = each Status ∙ o.status;
  icr = each Icr ∙ ap (λ x. bit_or x received_cause) o.icr;
  ims = each Ims ∙ o.ims;
  imc = each Imc ∙ o.imc;
  mpc = each Mpc ∙ o.mpc;
  ral0 = each Ral0 ∙ o.ral0;
  rah0 = each Rah0 ∙ o.rah0;
}

-- ---- the rings

rings-heard : (rings : Rings) (frames : List (List ℕ)) (m : Mediated) (mem mem' : Memory) (written : List ℕ) → RingsStand rings frames m mem
    → completed Receive mem' m.receive ≡ completed Receive mem m.receive + 1 → received_frames mem' m.receive ≡ received_frames mem m.receive ++ written ∷ [] → completed Transmit mem' m.transmit ≡ completed Transmit mem m.transmit
    → RingsStand (arrived Heard rings) (frames ++ written ∷ []) m mem'
rings-heard rings frames m mem mem' written s counted received done = record {
  receive = s.receive;
  transmit = s.transmit;
  names = s.names;
  turns = s.turns;
  heard = ap (λ x. x + 1) s.heard ∙ sym counted;
  pending = ap (λ xs. xs ++ written ∷ []) s.pending ∙ sym received;
  sent = s.sent ∙ sym done;
}

rings-kept : (rings : Rings) (frames : List (List ℕ)) (m : Mediated) (mem mem' : Memory) → mem' ≡ mem → RingsStand rings frames m mem → RingsStand rings (frames ++ []) m mem'
rings-kept rings frames m mem mem' is s = subst (λ x. RingsStand rings (frames ++ []) m x) (sym is) (subst (λ xs. RingsStand rings xs m mem) (sym (append-nil frames)) s)

rings-missed : (rings : Rings) (frames : List (List ℕ)) (m : Mediated) (mem : Memory) (b : Bool) (causes missed : ℕ) → RingsStand rings frames m mem
    → RingsStand (if b then record rings { causes = causes; missed = missed } else rings) frames m mem
rings-missed rings frames m mem true causes missed s = record { receive = s.receive; transmit = s.transmit; names = s.names; turns = s.turns; heard = s.heard; pending = s.pending; sent = s.sent }
rings-missed rings frames m mem false causes missed s = s

-- missed frames have nothing to do with sends
missed-posts : (rings : Rings) (b : Bool) (causes missed : ℕ) → (if b then record rings { causes = causes; missed = missed } else rings).posts ≡ rings.posts
missed-posts rings true causes missed = refl
missed-posts rings false causes missed = refl

missed-sent : (rings : Rings) (b : Bool) (causes missed : ℕ) → (if b then record rings { causes = causes; missed = missed } else rings).sent ≡ rings.sent
missed-sent rings true causes missed = refl
missed-sent rings false causes missed = refl

-- ---- the act

serves-unheard : (local : Local) (life : Instance → Life) (remote : Instance → Endpoint) (n : Network) (t : NetState) (mem' : Memory) (regs' : Registers) (log log' : List LogEntry) (frame : List ℕ) (rings : Rings)
    → mem' ≡ t.mem → rings.posts ≡ n.rings.posts → rings.sent ≡ n.rings.sent → NetStands life remote n t → RingsStand rings (n.pending ++ []) t.med mem' → NetStands life remote (record n { pending = n.pending ++ []; rings = rings }) (with_mem mem' t)
serves-unheard local life remote n t mem' regs' log log' frame rings is posts sent s stand = record {
  rings = stand;
  ears = s.ears;
  unread = λ p alive. ap (λ m. frames_of m t.inboxes p) is ∙ s.unread p alive;
  closed = s.closed;
  unsending = s.unsending;
  counts = counts-moved n (record n { pending = n.pending ++ []; rings = rings }) t.sends refl posts sent s.counts;
  buffers = left-buffers t.med t.med t.mem mem' t.sends life n (left-same t.med t.mem mem' t.sends is) s.buffers;
  unsent = ap (λ m. unsent_frames m t.med.transmit) is ∙ s.unsent ∙ sym (unsent-moved n (record n { pending = n.pending ++ []; rings = rings }) refl posts sent);
  areas = s.areas ∙ sym (ap length is);
}

-- what the laws of arrivals say of a frame that was heard
pub record HeardLaws (m : Mediated) (mem mem' : Memory) (inboxes : Inboxes) (sends : Outgoing) (written : List ℕ) : Type 0 where
  pub counted : completed Receive mem' m.receive ≡ completed Receive mem m.receive + 1
  pub received : received_frames mem' m.receive ≡ received_frames mem m.receive ++ written ∷ []
  pub stay : (who : Instance) → frames_of mem' inboxes who ≡ frames_of mem inboxes who
  pub areas : length mem' ≡ length mem
  pub left : SendsLeft m m mem mem' sends

pub arrive-serves : (local : Local) (life : Instance → Life) (remote : Instance → Endpoint) (n : Network) (t : NetState) (mem' : Memory) (regs regs' : Registers) (log log' : List LogEntry) (frame : List ℕ) (verdict : Verdict)
    → IsSafe t → NetStands life remote n t → AreRegisters local n regs → verdict ≡ verdict_of regs frame
    → OnHeard (Ok verdict) (IsHeard t.mem mem' regs frame log log') → OnUnheard (Ok verdict) (mem' ≡ t.mem) → OnUnheard (Ok verdict) (log' ≡ log) → HasArrived (Ok verdict) regs regs'
    → Keeps [] t.med t.med t.mem mem' (HasArrived (Ok verdict)) SameNames → (Heard ≡ verdict → (h : IsHeard t.mem mem' regs frame log log') → HeardLaws t.med t.mem mem' t.inboxes t.sends h.0)
    → NetMakes local life remote n (WireIn frame) (accepted (VerdictIs verdict ∷ [])) (with_mem mem' t) regs' log log'
arrive-serves local life remote n t mem' regs regs' log log' frame Filtered safe s each is heard same logs has keeps laws =
    let stand = rings-kept n.rings n.pending t.med t.mem mem' same s.rings in
    let device = keeps.device regs regs' has (at-device local n.rings n.pending t.med t.mem regs s.rings safe.memory each) in
    record {
      outcome = ap (λ v. accepted (VerdictIs v ∷ [])) (is ∙ verdict-same local n.rings n.pending t.med t.mem regs frame s.rings safe.memory each);
      stands = serves-unheard local life remote n t mem' regs' log log' frame n.rings same refl refl s stand;
      registers = from-device local n.rings (n.pending ++ []) t.med mem' regs' stand keeps.memory device (others-arrived local n.rings regs regs' Filtered (each Rctl) has (others-of local n.rings regs each));
      log = logs;
    }
arrive-serves local life remote n t mem' regs regs' log log' frame Missed safe s each is heard same logs has keeps laws =
    let stand = rings-missed n.rings (n.pending ++ []) t.med mem' (is_enabled n.rings.receive.control) (bit_or n.rings.causes overrun_cause) (min (n.rings.missed + 1) (2 ^ 32 - 1)) (rings-kept n.rings n.pending t.med t.mem mem' same s.rings) in
    let device = keeps.device regs regs' has (at-device local n.rings n.pending t.med t.mem regs s.rings safe.memory each) in
    record {
      outcome = ap (λ v. accepted (VerdictIs v ∷ [])) (is ∙ verdict-same local n.rings n.pending t.med t.mem regs frame s.rings safe.memory each);
      stands = serves-unheard local life remote n t mem' regs' log log' frame (arrived Missed n.rings) same (missed-posts n.rings (is_enabled n.rings.receive.control) _ _) (missed-sent n.rings (is_enabled n.rings.receive.control) _ _) s stand;
      registers = from-device local (arrived Missed n.rings) (n.pending ++ []) t.med mem' regs' stand keeps.memory device (others-arrived local n.rings regs regs' Missed (each Rctl) has (others-of local n.rings regs each));
      log = logs;
    }
arrive-serves local life remote n t mem' regs regs' log log' frame Heard safe s each is heard same logs has keeps laws =
    let now = laws refl heard in
    let stand = rings-heard n.rings n.pending t.med t.mem mem' heard.0 s.rings now.counted now.received now.left.done in
    let device = keeps.device regs regs' has (at-device local n.rings n.pending t.med t.mem regs s.rings safe.memory each) in
    let P : List LogEntry → Type 0 = λ l. NetMakes local life remote n (WireIn frame) (accepted (VerdictIs Heard ∷ [])) (with_mem mem' t) regs' log l in
    subst P (sym heard.1) (record {
      outcome = ap (λ v. accepted (VerdictIs v ∷ [])) (is ∙ verdict-same local n.rings n.pending t.med t.mem regs frame s.rings safe.memory each);
      stands = record {
        rings = stand;
        ears = s.ears;
        unread = λ p alive. now.stay p ∙ s.unread p alive;
        closed = s.closed;
        unsending = s.unsending;
        counts = counts-moved n (record n { pending = n.pending ++ heard.0 ∷ []; rings = arrived Heard n.rings }) t.sends refl refl refl s.counts;
        buffers = left-buffers t.med t.med t.mem mem' t.sends life n now.left s.buffers;
        unsent = now.left.unsent ∙ s.unsent;
        areas = s.areas ∙ sym now.areas;
      };
      registers = from-device local (arrived Heard n.rings) (n.pending ++ heard.0 ∷ []) t.med mem' regs' stand keeps.memory device (others-arrived local n.rings regs regs' Heard (each Rctl) has (others-of local n.rings regs each));
      log = refl;
    })

-- a frame that was heard, where there is then no memory for the outcome
pub arrive-leaves : (local : Local) (life : Instance → Life) (remote : Instance → Endpoint) (n : Network) (t : NetState) (mem' : Memory) (regs : Registers) (log log' : List LogEntry) (frame : List ℕ) (verdict : Verdict)
    → IsSafe t → NetStands life remote n t → AreRegisters local n regs → verdict ≡ verdict_of regs frame
    → OnHeard (Ok verdict) (IsHeard t.mem mem' regs frame log log') → OnUnheard (Ok verdict) (log' ≡ log) → Loses (net_outcome local life remote n (WireIn frame)) (WireIn frame) (next_frame n) log log'
arrive-leaves local life remote n t mem' regs log log' frame Filtered safe s each is heard logs = inl logs
arrive-leaves local life remote n t mem' regs log log' frame Missed safe s each is heard logs = inl logs
arrive-leaves local life remote n t mem' regs log log' frame Heard safe s each is heard logs =
    let verdict : Heard ≡ verdict_at local n.rings frame = is ∙ verdict-same local n.rings n.pending t.med t.mem regs frame s.rings safe.memory each in
    inr (inl (heard.0, subst (λ v. is_heard (accepted (VerdictIs v ∷ [])) ≡ true) verdict refl, heard.1))
