use Rattle.std.proofs.Common.{rules, ◌≡◌, ap, ◌∙◌, slice_set, slice_get}
use Rattle.problem_box.specs.Changes.{cut_high}
use Rattle.problem_box.proofs.Cuts.{cut_high_is}
use Rattle.problem_box.proofs.int_box.IntBox.set_high.Goals as goal

pub returns : goal.returns
returns c =
    let e : c.with_high.result ≡ record c.span-span.result { hi = c.args.bound } = search rules in
    ap (slice_set c.self.inside.spans.items c.args.column) e
    ∙ cut_high_is _ _ _ _ (ap (λ ss. slice_get ss c.args.column) c.self.view_is ∙ c.span-span.ensures)
    ∙ ap (λ ss. cut_high ss c.args.column c.args.bound) c.self.view_is
