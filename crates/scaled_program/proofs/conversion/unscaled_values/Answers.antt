use Rattle.std.proofs.Common.{◌<◌, ◌∙◌, sym, subst}
use Rattle.std.proofs.lemmas.List.{get_or_default}
use Rattle.tableau.specs.Elimination.{zero_ℚ}
use Rattle.integer_tableau.specs.Scales.{scale_at, scaled_by, unscaled_value}
use Rattle.scaled_program.proofs.FromCode.{scale_is}
use Rattle.scaled_program.proofs.NumbersRead.{one_more}
use Rattle.scaled_program.proofs.conversion.unscaled_values.Goals as goal

pub number_over-requires : goal.number_over-requires
number_over-requires c =
    let m = c.args.scales.now in
    subst (λ n. 0 < n) (sym c.of.ensures) (scale_is m.greatest m.rows.items.value.items m.costs c.requires c.args.columns c.loop-i.i).0

pub loop-i-preserved : goal.loop-i-preserved
loop-i-preserved c =
    let scales = c.args.scales.now.rows.items.value.items in
    c.in_ok-push-in-Some.ensures.items
    ∙ one_more (unscaled_value (scale_at c.args.columns scales)) c.loop-i.all.items c.args.values.now c.loop-i.i c.in-Some.own zero_ℚ c.loop-i-test.true c.loop-i.invariant
    (c.in-Some.ensures ∙ (λ i. scaled_by 1 (c.of.ensures i) ((c.index-values-i.is ∙ get_or_default c.args.values.now c.loop-i.i c.index-values-i.result zero_ℚ c.loop-i-test.true) i)))
