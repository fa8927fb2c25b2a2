use Rattle.std.proofs.Common.{ap, sym, ◌∙◌, is_some}
use Rattle.mps_reader.proofs.TableLemmas.{value_under_table}
use Rattle.mps_reader.proofs.columns.Columns.index_of.Goals as goal

pub returns-in_err-index-clause-known : goal.returns-in_err-index-clause-known
returns-in_err-index-clause-known g c entries h = ap is_some c.from_residual.ensures ∙ c.in_err-index.ensures.found ∙ ap is_some (sym (value_under_table c.args.rows.now.entries c.args.name.now))

pub returns-clause-row : goal.returns-clause-row
returns-clause-row g c = record {
  known = ap is_some (value_under_table c.args.rows.now.entries c.args.name.now) ∙ sym c.in_ok-index.ensures.found;
  at = c.in_ok-index.ensures.index;
  within = c.in_ok-index.ensures.within;
  distinct = c.in_ok-index.ensures.unique;
}

pub returns-clause-known : goal.returns-clause-known
returns-clause-known g c entries h = c.in_ok-index.ensures.found ∙ ap is_some (sym (value_under_table c.args.rows.now.entries c.args.name.now))
