use Rattle.std.proofs.Common.{◌≡◌, sym, ap, ◌∙◌, ◌+◌, ◌++◌, arith}
use Rattle.tableau.specs.Elimination.{entry}
use Rattle.tableau.specs.Multipliers.{with_multiplier}
use Rattle.gomory_cuts.specs.Multipliers.{multiplier}
use Rattle.gomory_cuts.proofs.Steps.{one_row, no_row, rows_done, rows_begun}
use Rattle.gomory_cuts.proofs.multiplier.of_rows.Goals as goal

pub loop-index-init : goal.loop-index-init
loop-index-init c = rows_begun c.args.sign c.args.rest.now 0 0 c.args.problem.now.rows c.in_ok-multipliers.multipliers c.in_ok-multipliers.ensures

pub returns-in-None : goal.returns-in-None
returns-in-None c =
    sym (
    c.loop-index.invariant
    ∙ no_row c.args.sign c.args.rest.now 0 0 c.loop-index.index c.args.problem.now.rows c.loop-index.multipliers c.row.result.now c.row.ensures
    (ap (multiplier c.args.sign c.row.result.now.sense) (ap (entry c.args.rest.now) (let z : 0 + c.loop-index.index ≡ c.loop-index.index = omega arith in z) ∙ sym c.entry.ensures) ∙ sym c.multiplier.ensures ∙ c.in-None.is)
    )

pub loop-index-preserved : goal.loop-index-preserved
loop-index-preserved c =
    c.loop-index.invariant
    ∙ one_row c.args.sign c.args.rest.now 0 0 c.loop-index.index c.args.problem.now.rows c.loop-index.multipliers _ c.row.result.now c.in-Some.factor c.row.ensures
    (ap (multiplier c.args.sign c.row.result.now.sense) (ap (entry c.args.rest.now) (let z : 0 + c.loop-index.index ≡ c.loop-index.index = omega arith in z) ∙ sym c.entry.ensures) ∙ sym c.multiplier.ensures ∙ c.in-Some.is)
    (λ others. c.in_ok-push_multiplier-in-Some.ensures others ∙ ap (λ k. c.loop-index.multipliers ++ with_multiplier k c.in-Some.factor others) (let z : c.loop-index.index ≡ 0 + c.loop-index.index = omega arith in z))

pub returns : goal.returns
returns c =
    sym (
    c.loop-index.invariant
    ∙ rows_done c.args.sign c.args.rest.now (0 + c.loop-index.index) (0 + c.loop-index.index) c.loop-index.index c.args.problem.now.rows c.loop-index.multipliers (omega arith)
    )
