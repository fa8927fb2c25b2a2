use Rattle.std.proofs.Common.{sym, ap, ◌∙◌, ◌+◌, ◌-◌, take}
use Rattle.gomory_cuts.specs.Separation.{cuts_from, with_cuts, most_separated}
use Rattle.gomory_cuts.proofs.Steps.{one_column}
use Rattle.gomory_cuts.proofs.separation.separate.Goals as goal

pub loop-column-preserved : goal.loop-column-preserved
loop-column-preserved c = record {
  rest = c.in_ok-add_cuts.ensures.value (cuts_from c.args.problem.now c.args.book.now.cuts c.args.tableau.now c.args.point.now (c.loop-column.column + 1) (c.columns-columns.result - (c.loop-column.column + 1)))
      ∙ ap (λ cs. take most_separated (with_cuts c.loop-column.found.items cs)) (sym (one_column c.args.problem.now c.args.book.now.cuts c.args.tableau.now c.args.point.now c.loop-column.column c.columns-columns.result c.loop-column-test.true))
      ∙ c.loop-column.invariant.rest;
  few_found = c.in_ok-add_cuts.ensures.few_found;
}
