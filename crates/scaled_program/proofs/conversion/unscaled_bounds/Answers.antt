use Rattle.std.proofs.Common.{◌<◌, ◌∙◌, sym, subst}
use Rattle.std.proofs.lemmas.List.{get_or_default}
use Rattle.tableau.specs.Leaving.{unbounded}
use Rattle.integer_tableau.specs.Scales.{bounds_over, scale_at, unscaled_bounds}
use Rattle.scaled_program.proofs.FromCode.{scale_is}
use Rattle.scaled_program.proofs.NumbersRead.{one_more}
use Rattle.scaled_program.proofs.conversion.unscaled_bounds.Goals as goal

pub bounds_over-requires : goal.bounds_over-requires
bounds_over-requires c =
    let m = c.args.scales.now in
    subst (λ n. 0 < n) (sym c.of.ensures) (scale_is m.greatest m.rows.items.value.items m.costs c.requires c.args.columns c.loop-i.i).0

pub loop-i-preserved : goal.loop-i-preserved
loop-i-preserved c =
    let scales = c.args.scales.now.rows.items.value.items in
    c.in_ok-push-in-Some.ensures.items
    ∙ one_more (unscaled_bounds (scale_at c.args.columns scales)) c.loop-i.all.items c.args.bounds.now c.loop-i.i c.in-Some.own unbounded c.loop-i-test.true c.loop-i.invariant
    (c.in-Some.ensures ∙ (λ i. bounds_over (c.of.ensures i) ((c.index-bounds-i.is ∙ get_or_default c.args.bounds.now c.loop-i.i c.index-bounds-i.result unbounded c.loop-i-test.true) i)))
