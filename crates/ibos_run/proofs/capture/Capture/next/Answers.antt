use Rattle.std.proofs.Common.{◌≡◌, ◌+◌, ◌-◌, ◌∙◌, List, ℕ, Some, ap, arith, drop, refl, subst, sym, take}
use Rattle.ibos_capture.specs.Captures.{frames_at}
use Rattle.ibos_run.specs.Captured.{Captured, IsPieceOf}
use Rattle.ibos_run.proofs.Captures.{next_taken}
use Rattle.ibos_run.proofs.capture.Capture.next.Goals as goal

pub returns-clause-next : goal.returns-clause-next
returns-clause-next g c = λ file held.
    let place : ℕ = c.frame-place.result.0 in
    let len : ℕ = c.frame-place.result.1 in
    let name = ap (λ (s : Captured). g.C.Cabinet.holds c.args.cabinet.now s.name) c.self.view_is ∙ held.0 in
    let of = subst (λ (s : Captured). IsPieceOf file s.piece) (sym c.self.view_is) held.1 in
    let size : place + len - place ≡ len = omega arith in
    let frame = ap (λ n. take n (drop place file)) size ∙ sym (c.in_ok-frame.ensures.bytes file name of) in
    sym (ap (λ (s : Captured). drop s.used (frames_at file s.entries)) c.self.view_is)
    ∙ next_taken (frames_at file c.self.inside.index) _ c.self.inside.used c.in_ok-frame.frame refl (c.frame-place.ensures.frame file ∙ ap (λ (f : List ℕ). Some f) frame)
