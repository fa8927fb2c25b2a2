use Rattle.std.proofs.Common.{rules, ◌≡◌, ap, ◌∙◌, slice_set, slice_get}
use Rattle.problem_box.specs.Changes.{cut_low}
use Rattle.problem_box.proofs.Cuts.{cut_low_is}
use Rattle.problem_box.proofs.int_box.IntBox.set_low.Goals as goal

pub returns : goal.returns
returns c =
    let e : c.with_low.result ≡ record c.span-span.result { lo = c.args.bound } = search rules in
    ap (slice_set c.self.inside.spans.items c.args.column) e
    ∙ cut_low_is _ _ _ _ (ap (λ ss. slice_get ss c.args.column) c.self.view_is ∙ c.span-span.ensures)
    ∙ ap (λ ss. cut_low ss c.args.column c.args.bound) c.self.view_is
