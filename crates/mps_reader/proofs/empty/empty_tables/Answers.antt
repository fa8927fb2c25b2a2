use Rattle.std.proofs.Common.{[], true, false, ap, refl, subst, sym}
use Rattle.mps_reader.specs.State.{HasEntries}
use Rattle.mps_reader.specs.Tables.{table}
use Rattle.mps_reader.proofs.empty.empty_tables.Goals as goal

pub returns-clause-tables : goal.returns-clause-tables
returns-clause-tables g c = record {
  order = c.no_order.ensures;
  rows_at = refl;
  rows = ap table c.with_hasher.ensures.empty;
  entries = subst (λ rows. HasEntries c.no_columns.result rows []) (sym (ap table c.with_hasher.ensures.empty)) c.no_columns.ensures;
  marked_is = refl;
  rhs = c.no_sides.ensures false [];
  ranges = c.no_sides-2.ensures true [];
  no_columns = λ l. refl;
  no_rhs = λ l. refl;
  no_ranges = λ l. refl;
  bounds = c.no_bounds.ensures;
}
