use Rattle.std.proofs.Common.{◌∙◌, ap, arith, length}
use Rattle.integer_tableau.proofs.KeptViews.{basic_once, basic_within}
use Rattle.integer_tableau.proofs.dictionary.Dictionaries.tableau_parts.Goals as goal

pub rows_by_column-requires-clause-columns : goal.rows_by_column-requires-clause-columns
rows_by_column-requires-clause-columns c p l =
    let kept = c.requires.kept.3 in
    let here = basic_within _ _ _ _ kept p l in
    omega (arith, here, kept.columns, ap length c.nonbasic.ensures.value, c.nonbasic.ensures.width)

pub rows_by_column-requires-clause-once : goal.rows_by_column-requires-clause-once
rows_by_column-requires-clause-once c = basic_once _ _ _ _ c.requires.kept.3

pub returns : goal.returns
returns c = (
  c.in_ok-numbers.ensures.items,
  c.in_ok-program_rows.ensures.cases,
  c.in_ok-positions.ensures,
  c.in_ok-nonbasic.ensures.items ∙ c.nonbasic.ensures.value,
  c.in_ok-rows.ensures,
  c.make.ensures ∙ c.in_ok-costs.ensures.items ∙ c.reduced_costs.ensures.value,
  c.in_ok-basic_columns.ensures.items ∙ c.basic_columns.ensures,
)
