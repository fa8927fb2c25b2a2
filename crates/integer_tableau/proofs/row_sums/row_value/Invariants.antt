use Rattle.std.proofs.Common.{◌≡◌, ℤ, ◌+ℤ◌, ◌*ℤ◌, List, [], get_or, drop}
use Rattle.std.specs.Int.{w64, int_wrap}
use Rattle.integer_tableau.specs.RowSums.{AreColumnsOf, basic_products}
use Rattle.integer_tableau.proofs.row_sums.row_value.Given as goal

abbrev pub invariant-loop-column : goal.invariant-loop-column
invariant-loop-column l = (ps : List (List ℤ)) → AreColumnsOf ps l.columns →
    int_wrap w64 (l.value +ℤ basic_products (get_or ps l.row []) l.values (drop l.column-index l.basic_columns)) ≡ int_wrap w64 (l.denominator *ℤ l.sum +ℤ basic_products (get_or ps l.row []) l.values l.basic_columns)
