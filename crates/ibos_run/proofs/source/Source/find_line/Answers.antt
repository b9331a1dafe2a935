use Rattle.std.proofs.Common.{◌≡◌, ◌+◌, ◌-◌, List, ℕ, ◌∙◌, sym, ap, arith, length, length-append, length-drop, drop, take, subst, Option}
use Rattle.std.proofs.lemmas.List.{take_rest}
use Rattle.ibos_text.specs.Parts.{len_before}
use Rattle.ibos_run.specs.Sources.{IsFound, Unread}
use Rattle.ibos_run.proofs.Windows.{found_behind, no_bytes, reads_then, searched_all}
use Rattle.ibos_run.proofs.source.Source.find_line.Goals as goal
use Rattle.ibos_run.proofs.source.Source.find_line.Goals.{then-len-gt0, else-len-gt0}

pub returns-then-len-left-clause-found : goal.returns-then-len-left-clause-found
returns-then-len-left-clause-found g c =
    let bytes = c.pieces.self.bytes in
    let n = c.pieces.searched in
    let is : n + c.len_before.result ≡ len_before 10 bytes =
    found_behind bytes _ n c.len_before.result c.pieces.invariant.within c.pieces.invariant.none (take_rest _ n ∙ ap (drop n) c.left-left.ensures.bytes) c.len_before.ensures.value in
    let long = ap (λ (bs : List ℕ). length bs) c.left-left.ensures.bytes in
    record {
      some = omega (arith, long, c.if-len-left.true);
      within = omega (arith, long, c.if-len-left.true);
      is = is;
      ends = λ past. absurd (omega (arith, long, c.if-len-left.true, past));
    }

pub returns-then-self-clause-found : goal.returns-then-self-clause-found
returns-then-self-clause-found g c =
    let bytes = c.pieces.self.bytes in
    let n = c.pieces.searched in
    let is : n + c.len_before.result ≡ len_before 10 bytes =
    found_behind bytes _ n c.len_before.result c.pieces.invariant.within c.pieces.invariant.none (take_rest _ n ∙ ap (drop n) c.left-left.ensures.bytes) c.len_before.ensures.value in
    let long = ap (λ (bs : List ℕ). length bs) c.left-left.ensures.bytes in
    let part : length (take (length c.left-left.result.now - n) (drop n c.left-left.result.now)) ≡ length c.left-left.result.now - n = ap length (take_rest c.left-left.result.now n) ∙ length-drop n c.left-left.result.now in
    let whole : n + c.len_before.result ≡ length bytes = omega (arith, long, part, c.len_before.ensures.within, c.if-len-left.false, c.pieces.invariant.within) in
    let ended = ap (λ (u : Unread). u.over) (sym c.self.view_is) ∙ c.if-self.true in
    let P : Option ℕ → Type 0 = λ found. IsFound found c.pieces.self in
    elim c.if-len-gt0.branch [
      | then-len-gt0 w ↦ subst P (sym w.result-is) (record { some = omega (arith, whole, w.if-len-gt0.true); within = omega (arith, whole); is = is; ends = λ past. ended })
      | else-len-gt0 w ↦ subst P (sym w.result-is) (no_bytes bytes (omega (arith, whole, w.if-len-gt0.false)), ended)
    ]

pub pieces-preserved : goal.pieces-preserved
pieces-preserved g c =
    let bytes = c.pieces.self.bytes in
    let n = c.pieces.searched in
    let more = c.in_ok-read_more.ensures.more in
    let long = ap (λ (bs : List ℕ). length bs) c.left-left.ensures.bytes in
    let is : n + c.len_before.result ≡ len_before 10 bytes =
    found_behind bytes _ n c.len_before.result c.pieces.invariant.within c.pieces.invariant.none (take_rest _ n ∙ ap (drop n) c.left-left.ensures.bytes) c.len_before.ensures.value in
    let part : length (take (length c.left-left.result.now - n) (drop n c.left-left.result.now)) ≡ length c.left-left.result.now - n = ap length (take_rest c.left-left.result.now n) ∙ length-drop n c.left-left.result.now in
    let whole : n + c.len_before.result ≡ length bytes = omega (arith, long, part, c.len_before.ensures.within, c.if-len-left.false, c.pieces.invariant.within) in
    let grown : length c.read_more.new.self.bytes ≡ length bytes + length more.piece = ap (λ (bs : List ℕ). length bs) more.bytes ∙ length-append bytes more.piece in
    record {
      within = omega (arith, whole, grown);
      none = searched_all bytes _ more.piece _ more.bytes is whole;
      text = reads_then _ _ _ _ _ (c.pieces.invariant.holds _) c.pieces.invariant.text c.in_ok-read_more.ensures.text;
      more = omega (arith, grown, more.place, c.pieces.invariant.more);
      holds = λ name. cc (c.read_more.ensures.holds name, c.pieces.invariant.holds name);
      later = λ name. omega (arith, c.read_more.ensures.later name, c.pieces.invariant.later name);
    }
