use Rattle.std.proofs.Common.{◌≡◌, drop, nat_abs}
use Rattle.integer_tableau.proofs.LeavingColumns.{first_among}
use Rattle.integer_tableau.specs.Leaving.{leaving_by_numerators}
use Rattle.integer_tableau.proofs.leaving.leaving_column.Given as goal

abbrev pub invariant-loop-column : goal.invariant-loop-column
invariant-loop-column l = first_among (nat_abs l.denominator) l.bounds l.values (drop l.column-index l.basic_columns) ≡ leaving_by_numerators (nat_abs l.denominator) 0 l.positions l.bounds l.values
