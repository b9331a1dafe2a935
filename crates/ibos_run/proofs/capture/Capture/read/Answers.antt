use Rattle.std.proofs.Common.{◌≤◌, ◌<◌, ◌∙◌, ℕ, ap, arith, length, length-take}
use Rattle.std.proofs.lemmas.Bool.Decides.{nat_tests}
use Rattle.ibos_run.specs.Captured.{Piece}
use Rattle.ibos_run.proofs.Captures.{each_held, entries_if, is_too_long, refused_as}
use Rattle.ibos_run.proofs.Shown.{front_is, piece_none}
use Rattle.ibos_run.proofs.capture.Capture.read.Goals as goal

pub returns-then-branch-clause-read : goal.returns-then-branch-clause-read
returns-then-branch-clause-read g c = is_too_long _ (λ file held.
    let has = c.in_ok-has_byte.ensures.has file held (piece_none file _ (ap (λ (p : Piece). p.bytes) c.in_ok-window.ensures)) in
    let more : 67108864 < length file = grind (arith, nat_tests, has, c.if-branch.true) in
    more)

pub begin-requires : goal.begin-requires
begin-requires g c = omega (arith, ap length c.front.ensures, length-take {A = ℕ})

pub returns-in-Ok-clause-read : goal.returns-in-Ok-clause-read
returns-in-Ok-clause-read g c = entries_if _ _ _ _ _ c.read_entries.ensures.read (λ file held.
    let none = piece_none file _ (ap (λ (p : Piece). p.bytes) c.in_ok-window.ensures) in
    let has = c.in_ok-has_byte.ensures.has file held none in
    let short : length file ≤ 67108864 = grind (arith, nat_tests, has, c.if-branch.false) in
    let told = c.has_byte.ensures.holds c.args.name.now ∙ held in
    let shows = c.in_ok-look.ensures.shows file told (c.in_ok-has_byte.ensures.of file held none) in (
      c.look.ensures.holds c.args.name.now ∙ told,
      (c.in-Ok.ensures.begun file short (c.front.ensures ∙ front_is file 0 24 _ c.in_ok-look.ensures.at shows), shows.of),
    ))

pub returns-clause-read : goal.returns-clause-read
returns-clause-read g c = each_held _ _ (λ file held.
    let none = piece_none file _ (ap (λ (p : Piece). p.bytes) c.in_ok-window.ensures) in
    let has = c.in_ok-has_byte.ensures.has file held none in
    let short : length file ≤ 67108864 = grind (arith, nat_tests, has, c.if-branch.false) in
    let told = c.has_byte.ensures.holds c.args.name.now ∙ held in
    let shows = c.in_ok-look.ensures.shows file told (c.in_ok-has_byte.ensures.of file held none) in
    refused_as file c.in-Err.fault short (c.in-Err.ensures.refused file short (c.front.ensures ∙ front_is file 0 24 _ c.in_ok-look.ensures.at shows)))
