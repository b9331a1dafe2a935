-- A drill goes on act by act, and stays within its rounds.
use Rattle.std.proofs.Common.{◌≡◌, ◌≢◌, ℕ, zero, suc, ◌+◌, ◌-◌, ◌*◌, ◌^◌, ◌<◌, ◌≤◌, ◌==◌, Bool, true, false, List, [], ◌∷◌, ◌++◌, length, drop, Some, Result, Ok, Err, OnOk, slice_get, slice_index, replicate, refl, ap, sym, subst, ◌∙◌, arith}
use Rattle.std.proofs.Math.Seq.{drop-nil}
use Rattle.std.proofs.lemmas.List.{drop-append-le, drop_all, length-append}
use Rattle.std.proofs.lemmas.Option.{slice_get_within}
use Rattle.std.proofs.lemmas.Bool.Decides.{nat_tests}
use Rattle.ibos_kinds.specs.declared.act.Act.{Act}
use Rattle.ibos_make.specs.declared.rounds.Counts.{Counts}
use Rattle.ibos_make.specs.declared.rounds.Kind.{Kind}
use Rattle.ibos_make.specs.declared.rounds.Kind.TheVariants.{Receive, Send, Cookies, Objects, Screen}
use Rattle.ibos_make.specs.Drill.{ring_acts, post_acts, open_acts, opening_acts, first_counts, next_number, drawn, kind_of, tab_of, byte_of, acts_of, round_len, counts_after, with_next, round_acts, after_round, rounds_acts, drill_acts, Drilling, left, version_place}
use Rattle.ibos_make.specs.declared.rounds.Round.{Round}
use Rattle.ibos_make.specs.Drilling.{HasRoom, IsDrawn, IsWithin, next_in}
use Rattle.ibos_make.proofs.Places.{slice_get-front, slice_get-behind, drop-at, raised-below}

-- THE ACTS BEFORE THE ROUNDS

pub ring_in : (k : ℕ) → k < 6 → slice_get opening_acts k ≡ slice_get ring_acts k
unfolding opening_acts
ring_in k h = slice_get-front ring_acts (post_acts ++ open_acts) k h

pub post_in : (k : ℕ) → 6 ≤ k → k < 70 → slice_get opening_acts k ≡ slice_get post_acts (k - 6)
unfolding opening_acts
post_in k h below = slice_get-behind ring_acts (post_acts ++ open_acts) k h ∙ slice_get-front post_acts open_acts (k - 6) (omega arith)

pub open_in : (k : ℕ) → 70 ≤ k → slice_get opening_acts k ≡ slice_get open_acts (k - 6 - 64)
unfolding opening_acts
open_in k h = slice_get-behind ring_acts (post_acts ++ open_acts) k (omega arith) ∙ slice_get-behind post_acts open_acts (k - 6) (omega arith)

opening_over : drop 86 opening_acts ≡ []
unfolding opening_acts
opening_over = refl

pub left-opening : (d : Drilling) (act : Act) → slice_get opening_acts d.opening ≡ Some act
    → left d ≡ act ∷ left (record { opening = d.opening + 1; rounds = d.rounds; place = d.place; counts = d.counts })
left-opening d act h =
    let more : suc d.opening ≡ d.opening + 1 = omega arith in
    ap (λ l. l ++ drop d.place (rounds_acts d.rounds d.counts)) (drop-at opening_acts d.opening act h ∙ ap (λ n. act ∷ drop n opening_acts) more)

-- THE ACTS OF THE ROUNDS

length-acts : (kind : Kind) (t e : ℕ) (c : Counts) → length (acts_of kind t e c) ≡ round_len kind
length-acts Receive t e c = refl
length-acts Send t e c = refl
length-acts Cookies t e c = refl
length-acts Objects t e c = refl
length-acts Screen t e c = refl

round_len-some : (kind : Kind) → 0 < round_len kind
round_len-some Receive = omega arith
round_len-some Send = omega arith
round_len-some Cookies = omega arith
round_len-some Objects = omega arith
round_len-some Screen = omega arith

round_len-few : (kind : Kind) → round_len kind ≤ 6
round_len-few Receive = omega arith
round_len-few Send = omega arith
round_len-few Cookies = omega arith
round_len-few Objects = omega arith
round_len-few Screen = omega arith

pub length-round : (c : Counts) → length (round_acts c) ≡ round_len (kind_of (drawn (next_number c.number)))
unfolding round_acts
length-round c = let d : ℕ = drawn (next_number c.number) in length-acts (kind_of d) (tab_of d) (byte_of d) c

pub round-few : (c : Counts) → length (round_acts c) ≤ 6
round-few c = omega (arith, length-round c, round_len-few (kind_of (drawn (next_number c.number))))

round-some : (c : Counts) → 0 < length (round_acts c)
round-some c = omega (arith, length-round c, round_len-some (kind_of (drawn (next_number c.number))))

rounds-few : (rounds : ℕ) (c : Counts) → length (rounds_acts rounds c) ≤ 6 * rounds
rounds-few zero c = omega arith
rounds-few (suc rounds) c = omega (arith, length-append (round_acts c) (rounds_acts rounds (after_round c)), round-few c, rounds-few rounds (after_round c))

-- a drill has at most six acts a round, and those before the rounds
pub drill-few : (seed rounds : ℕ) → length (drill_acts seed rounds) ≤ 86 + 6 * rounds
unfolding opening_acts
drill-few seed rounds = omega (arith, length-append opening_acts (rounds_acts rounds (first_counts seed)), rounds-few rounds (first_counts seed))

-- a round that is about what the number says has these acts, and a place in it is that of one of them
pub acts-are : (round : Round) (c : Counts) (kind : Kind) → round.kind ≡ kind → IsDrawn round c → acts_of kind round.tab round.byte c ≡ round_acts c
unfolding round_acts
acts-are round c kind is drawn_so = rw (sym is ∙ drawn_so.kind, drawn_so.tab, drawn_so.byte) refl

pub place-in : (round : Round) (c : Counts) (kind : Kind) (place : ℕ) → round.kind ≡ kind → IsDrawn round c → place < length (round_acts c) → place < round_len kind
place-in round c kind place is drawn_so within =
    let len : round_len kind ≡ round_len (kind_of (drawn (next_number c.number))) = ap round_len (sym is ∙ drawn_so.kind) in
    omega (arith, length-round c, len, within)

pub after-is : (c after : Counts) (kind : Kind) (t e : ℕ)
    → kind ≡ kind_of (drawn (next_number c.number)) → t ≡ tab_of (drawn (next_number c.number)) → e ≡ byte_of (drawn (next_number c.number))
    → after ≡ with_next (counts_after kind t e c) → after ≡ after_round c
unfolding after_round
after-is c after kind t e hk ht he h = rw (hk, ht, he) at h

round-left : (rounds place : ℕ) (c : Counts) (act : Act) → slice_get (round_acts c) place ≡ Some act
    → drop place (rounds_acts (suc rounds) c) ≡ act ∷ (drop (suc place) (round_acts c) ++ rounds_acts rounds (after_round c))
round-left rounds place c act h =
    let rest : List Act = rounds_acts rounds (after_round c) in
    let within : place < length (round_acts c) = slice_get_within (round_acts c) place act h in
    drop-append-le place (round_acts c) rest (omega arith) ∙ ap (λ l. l ++ rest) (drop-at (round_acts c) place act h)

pub next-over : (d : Drilling) → d.place + 1 ≡ length (round_acts d.counts)
    → next_in d ≡ record { opening = d.opening; rounds = d.rounds - 1; place = 0; counts = after_round d.counts }
next-over d h = grind (arith, nat_tests)

pub next-within : (d : Drilling) → d.place + 1 ≢ length (round_acts d.counts)
    → next_in d ≡ record { opening = d.opening; rounds = d.rounds; place = d.place + 1; counts = d.counts }
next-within d h = grind (arith, nat_tests)

-- by whether this was the round's last act
left-in : (last : Bool) (opening rounds place : ℕ) (c : Counts) (act : Act) → (place + 1 == length (round_acts c)) ≡ last
    → opening ≡ 86 → slice_get (round_acts c) place ≡ Some act
    → (let d : Drilling = record { opening = opening; rounds = suc rounds; place = place; counts = c } in left d ≡ act ∷ left (next_in d))
left-in true opening rounds place c act test over h =
    let d : Drilling = record { opening = opening; rounds = suc rounds; place = place; counts = c } in
    let whole : place + 1 ≡ length (round_acts c) = grind (arith, nat_tests) in
    let none : drop opening opening_acts ≡ [] = ap (λ n. drop n opening_acts) over ∙ opening_over in
    let done : drop (suc place) (round_acts c) ≡ [] = drop_all (suc place) (round_acts c) (omega arith) in
    let fewer : suc rounds - 1 ≡ rounds = omega arith in
    let before : left d ≡ act ∷ rounds_acts rounds (after_round c) =
    ap (λ l. l ++ drop place (rounds_acts (suc rounds) c)) none ∙ round-left rounds place c act h
    ∙ ap (λ l. act ∷ (l ++ rounds_acts rounds (after_round c))) done in
    let after : left (next_in d) ≡ rounds_acts rounds (after_round c) =
    ap left (next-over d whole) ∙ ap (λ l. l ++ rounds_acts (suc rounds - 1) (after_round c)) none
    ∙ ap (λ n. rounds_acts n (after_round c)) fewer in
    before ∙ ap (λ l. act ∷ l) (sym after)
left-in false opening rounds place c act test over h =
    let d : Drilling = record { opening = opening; rounds = suc rounds; place = place; counts = c } in
    let part : place + 1 ≢ length (round_acts c) = grind (arith, nat_tests) in
    let within : place < length (round_acts c) = slice_get_within (round_acts c) place act h in
    let more : suc place ≡ place + 1 = omega arith in
    let none : drop opening opening_acts ≡ [] = ap (λ n. drop n opening_acts) over ∙ opening_over in
    let rest : List Act = rounds_acts rounds (after_round c) in
    let before : left d ≡ act ∷ (drop (place + 1) (round_acts c) ++ rest) =
    ap (λ l. l ++ drop place (rounds_acts (suc rounds) c)) none ∙ round-left rounds place c act h
    ∙ ap (λ n. act ∷ (drop n (round_acts c) ++ rest)) more in
    let after : left (next_in d) ≡ drop (place + 1) (round_acts c) ++ rest =
    ap left (next-within d part) ∙ ap (λ l. l ++ drop (place + 1) (rounds_acts (suc rounds) c)) none
    ∙ drop-append-le (place + 1) (round_acts c) rest (omega arith) in
    before ∙ ap (λ l. act ∷ l) (sym after)

pub left-round : (d : Drilling) (act : Act) → d.opening ≡ 86 → 0 < d.rounds → slice_get (round_acts d.counts) d.place ≡ Some act → left d ≡ act ∷ left (next_in d)
left-round d act over some h = left-by d.rounds refl
  where
    left-by : (rounds : ℕ) → d.rounds ≡ rounds → left d ≡ act ∷ left (next_in d)
    left-by zero is = absurd (omega arith)
    left-by (suc rounds) is =
        let P : ℕ → Type 0 = λ n. (let e : Drilling = record { opening = d.opening; rounds = n; place = d.place; counts = d.counts } in left e ≡ act ∷ left (next_in e)) in
        subst P (sym is) (left-in (d.place + 1 == length (round_acts d.counts)) d.opening rounds d.place d.counts act refl over h)

-- no act is left once the rounds are over
pub left-none : (d : Drilling) → d.opening ≡ 86 → d.rounds ≡ 0 → left d ≡ []
left-none d over none =
    ap (λ n. drop n opening_acts ++ drop d.place (rounds_acts d.rounds d.counts)) over
    ∙ ap (λ l. l ++ drop d.place (rounds_acts d.rounds d.counts)) opening_over
    ∙ ap (λ n. drop d.place (rounds_acts n d.counts)) none ∙ drop-nil d.place

-- the act of a round came, and the drill went on, if there was memory for it
pub goes-on : {T E : Type 0} (made : Result T E) (act : Act) (before after : Drilling) → before.opening ≡ 86 → 0 < before.rounds
    → OnOk made (slice_get (round_acts before.counts) before.place ≡ Some act) → OnOk made (after ≡ next_in before)
    → OnOk made (left before ≡ act ∷ left after)
goes-on (Ok x) act before after over some at next = left-round before act over some at ∙ ap (λ d. act ∷ left d) (sym next)
goes-on (Err e) act before after over some at next = tt

pub one-came : (act : Act) (before after : List Act) → before ≡ act ∷ after → (true ≡ false → before ≡ []) × (before ≡ [] → true ≡ false)
one-came act before after h = (λ none. cc, λ none. cc)

-- ROOM

counted-room : (kind : Kind) (t e : ℕ) (c : Counts) (rounds : ℕ) → HasRoom c (suc rounds) → HasRoom (with_next (counts_after kind t e c)) rounds
counted-room Receive t e c rounds h = record {
  received = omega (arith, h.received);
  sent = omega (arith, h.sent);
  asked = λ t. omega (arith, h.asked t);
  versions = λ place. omega (arith, h.versions place);
}
counted-room Send t e c rounds h = record {
  received = omega (arith, h.received);
  sent = omega (arith, h.sent);
  asked = λ t. omega (arith, h.asked t);
  versions = λ place. omega (arith, h.versions place);
}
counted-room Cookies t e c rounds h = record {
  received = omega (arith, h.received);
  sent = omega (arith, h.sent);
  asked = λ t. omega (arith, h.asked t);
  versions = λ place. omega (arith, h.versions place);
}
counted-room Objects t e c rounds h = record {
  received = omega (arith, h.received);
  sent = omega (arith, h.sent);
  asked = λ i. raised-below c.asked t i rounds (2 ^ 32) h.asked;
  versions = λ place. raised-below c.versions (version_place t e) place rounds (2 ^ 32) h.versions;
}
counted-room Screen t e c rounds h = record {
  received = omega (arith, h.received);
  sent = omega (arith, h.sent);
  asked = λ t. omega (arith, h.asked t);
  versions = λ place. omega (arith, h.versions place);
}

after-room : (c : Counts) (rounds : ℕ) → HasRoom c (suc rounds) → HasRoom (after_round c) rounds
unfolding after_round
after-room c rounds h = let d : ℕ = drawn (next_number c.number) in counted-room (kind_of d) (tab_of d) (byte_of d) c rounds h

pub within-over : (d : Drilling) → 0 < d.rounds → IsWithin d → IsWithin (record { opening = d.opening; rounds = d.rounds - 1; place = 0; counts = after_round d.counts })
within-over d some h =
    let one : d.rounds ≡ suc (d.rounds - 1) = omega arith in
    record {
      opening = h.opening;
      place = round-some (after_round d.counts);
      room = after-room d.counts (d.rounds - 1) (subst (λ (n : ℕ). HasRoom d.counts n) one h.room);
    }

pub within-more : (d : Drilling) → d.place + 1 ≢ length (round_acts d.counts) → IsWithin d
    → IsWithin (record { opening = d.opening; rounds = d.rounds; place = d.place + 1; counts = d.counts })
within-more d part h = let place = h.place in record { opening = h.opening; place = omega arith; room = h.room }

zeros : (n i : ℕ) → slice_index (replicate n 0) i ≡ 0
zeros zero i = refl
zeros (suc n) zero = refl
zeros (suc n) (suc i) = zeros n i

pub within-first : (seed rounds : ℕ) → rounds < 2 ^ 32 → IsWithin (record { opening = 0; rounds = rounds; place = 0; counts = first_counts seed })
within-first seed rounds h = record {
  opening = omega arith;
  place = round-some (first_counts seed);
  room = record {
    received = omega arith;
    sent = omega arith;
    asked = λ t. omega (arith, zeros 8 t);
    versions = λ place. omega (arith, zeros 32 place);
  };
}
