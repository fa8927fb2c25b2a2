use Rattle.std.proofs.Common.{sym, ap, ◌∙◌, ◌+◌, ◌*◌, map}
use Rattle.std.proofs.lemmas.Option.{slice_get-map}
use Rattle.derivation_book.specs.declared.cut.Cut.{Cut}
use Rattle.gomory_cuts.specs.Multipliers.{multiplier, row_multipliers}
use Rattle.gomory_cuts.proofs.Steps.{one_row, no_row, rows_begun}
use Rattle.gomory_cuts.proofs.multiplier.of_cuts.Goals as goal

pub loop-index-init : goal.loop-index-init
loop-index-init c = rows_begun c.args.sign c.args.rest.now _ _ (map (λ (c : Cut). c.row) c.args.book.now.cuts) c.in_ok-multipliers.multipliers c.in_ok-multipliers.ensures

pub loop-index-preserved : goal.loop-index-preserved
loop-index-preserved c =
    c.loop-index.invariant
    ∙ one_row c.args.sign c.args.rest.now _ _ c.loop-index.index (map (λ (c : Cut). c.row) c.args.book.now.cuts) c.loop-index.multipliers _ c.cut.result.now c.in-Some.factor
    (slice_get-map (λ (c : Cut). c.row) c.args.book.now.cuts c.loop-index.index ∙ c.cut.ensures.row)
    (ap (multiplier c.args.sign c.cut.result.now.sense) (sym c.entry.ensures) ∙ sym c.multiplier.ensures ∙ c.in-Some.is)
    (λ others. c.in_ok-push_multiplier-in-Some.ensures others)

pub returns-in-None : goal.returns-in-None
returns-in-None c =
    sym (
    (λ i. row_multipliers c.args.sign c.args.rest.now (sym c.rows-variable.ensures i) (sym c.rows-variable.ensures i + 2 * sym c.columns.ensures i) (map (λ (c : Cut). c.row) c.args.book.now.cuts))
    ∙ c.loop-index.invariant
    ∙ no_row c.args.sign c.args.rest.now c.rows-variable.result (c.rows-variable.result + 2 * c.columns.result) c.loop-index.index (map (λ (c : Cut). c.row) c.args.book.now.cuts) c.loop-index.multipliers c.cut.result.now
    (slice_get-map (λ (c : Cut). c.row) c.args.book.now.cuts c.loop-index.index ∙ c.cut.ensures.row)
    (ap (multiplier c.args.sign c.cut.result.now.sense) (sym c.entry.ensures) ∙ sym c.multiplier.ensures ∙ c.in-None.is)
    )
