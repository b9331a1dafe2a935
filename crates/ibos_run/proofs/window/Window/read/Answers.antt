use Rattle.std.proofs.Common.{◌≡◌, ◌+◌, ◌-◌, ◌∙◌, ℕ, List, ap, arith, drop, length, length-append, length-take, subst, sym, take}
use Rattle.std.proofs.lemmas.Bool.Decides.{nat_tests}
use Rattle.ibos_run.specs.Captured.{IsAt, Piece, Shows}
use Rattle.ibos_run.proofs.Shown.{part_of_file, parts_ended, parts_joined}
use Rattle.ibos_run.proofs.window.Window.read.Goals as goal

pub returns-then-is_empty-clause-bytes : goal.returns-then-is_empty-clause-bytes
returns-then-is_empty-clause-bytes g c = λ file held of.
    let bytes : List ℕ = c.pieces.bytes in
    let piece : Piece = c.look.new.self in
    let size : c.len-got.result ≡ length bytes = c.len-got.ensures in
    let shows : Shows file (c.args.place + length bytes) 1 piece =
    subst (λ n. Shows file (c.args.place + n) 1 piece) size (c.in_ok-look.ensures.shows file (c.pieces.invariant.holds c.args.name.now ∙ held) (c.pieces.invariant.of file held of)) in
    let at : IsAt (c.args.place + length bytes) piece = subst (λ n. IsAt (c.args.place + n) piece) size c.in_ok-look.ensures.at in
    let part = c.front-piece.ensures ∙ ap (λ n. take (c.args.len - n) (drop (c.args.place + n - piece.place) piece.bytes)) size in
    let none : length c.front-piece.result.now ≡ 0 = grind (arith, nat_tests, c.is_empty.ensures, c.if-is_empty.true) in
    parts_ended file c.args.place c.args.len bytes _ piece (c.pieces.invariant.front file held of) (omega (arith, size, c.if-got-len.false)) at shows part none

pub pieces-preserved : goal.pieces-preserved
pieces-preserved g c =
    let bytes : List ℕ = c.pieces.bytes in
    let piece : Piece = c.look.new.self in
    let size : c.len-got.result ≡ length bytes = c.len-got.ensures in
    let part = c.front-piece.ensures ∙ ap (λ n. take (c.args.len - n) (drop (c.args.place + n - piece.place) piece.bytes)) size in
    let grown = c.in_ok-push_slice.ensures.ok in
    record {
      within = omega (arith, ap length grown, length-append bytes c.front-piece.result.now, ap length part, length-take (c.args.len - length bytes) (drop (c.args.place + length bytes - piece.place) piece.bytes), size, c.if-got-len.false);
      front = λ file held of.
          let shows : Shows file (c.args.place + length bytes) 1 piece =
          subst (λ n. Shows file (c.args.place + n) 1 piece) size (c.in_ok-look.ensures.shows file (c.pieces.invariant.holds c.args.name.now ∙ held) (c.pieces.invariant.of file held of)) in
          let at : IsAt (c.args.place + length bytes) piece = subst (λ n. IsAt (c.args.place + n) piece) size c.in_ok-look.ensures.at in
          let P : List ℕ → Type 0 = λ bs. bs ≡ take (length bs) (drop c.args.place file) in
          subst P (sym grown) (parts_joined file c.args.place bytes _ (c.pieces.invariant.front file held of) (part_of_file file (c.args.place + length bytes) _ piece _ at shows.of part));
      of = λ file held of.
          let shows = c.in_ok-look.ensures.shows file (c.pieces.invariant.holds c.args.name.now ∙ held) (c.pieces.invariant.of file held of) in
          shows.of;
      holds = λ name. c.look.ensures.holds name ∙ c.pieces.invariant.holds name;
      later = λ name. omega (arith, c.look.ensures.later name, c.pieces.invariant.later name);
    }
