use Rattle.std.proofs.Common.{◌≡◌, ◌∙◌, ◌-◌, ap, length}
use Rattle.incumbent.specs.Offers.{point_of}
use Rattle.event_core.specs.States.{best_value}
use Rattle.cert_merge.specs.declared.layout.Layout.{Layout}
use Rattle.cert_merge.specs.Merged.{claim_of, points_of, part_of, certificate_of}
use Rattle.cert_merge.proofs.Feeding.{lines_count}
use Rattle.cert_merge.proofs.certificate.head.Goals as goal

pub returns : goal.returns
returns c =
    let s = c.args.state.now.state in
    let es = c.args.state.now.history in
    let part : c.in_ok-part.part ≡ part_of s.problem = c.in_ok-part.ensures ∙ ap part_of c.problem.ensures in
    let points : c.in_ok-points.points ≡ points_of (point_of s.incumbent) = c.in_ok-points.ensures ∙ ap (λ i. points_of (point_of i)) c.incumbent.ensures in
    let claim : c.claim.result ≡ claim_of (best_value s) = c.claim.ensures ∙ ap claim_of c.best_value.ensures in
    let lines : c.args.layout.lines - c.args.layout.cuts ≡ length (certificate_of s es).lines = ap (λ (l : Layout). l.lines - l.cuts) c.requires ∙ lines_count s es c.conditions_hold.ensures.sound.tree in
    λ k. record { part = part k; claim = claim k; points = points k; lines = lines k }
