use Rattle.std.proofs.Common.{◌∙◌, arith}
use Rattle.std.specs.Prelude.{pos}
use Rattle.std.proofs.lemmas.List.{get_or_default}
use Rattle.fraction.specs.Rational.{whole}
use Rattle.cert_merge.proofs.Sources.{next_bound}
use Rattle.cert_merge.proofs.multipliers.bound_multipliers.Goals as goal

pub loop-column-preserved : goal.loop-column-preserved
loop-column-preserved c =
    let j = c.loop-column.column in
    let cs = c.args.costs.now in
    let v = c.index-costs-column.result in
    next_bound c.args.state.now.state c.args.setters.now cs j v c.loop-column.items.items c.push_bound.new.items.items (omega (arith, c.loop-column-test.true, c.requires.costs))
    (c.index-costs-column.is ∙ get_or_default cs j v (whole (pos 0)) c.loop-column-test.true) c.in_ok-push_bound.ensures
    ∙ c.loop-column.invariant
