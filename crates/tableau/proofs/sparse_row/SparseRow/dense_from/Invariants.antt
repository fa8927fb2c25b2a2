use Rattle.std.proofs.Common.{◌≡◌, ◌++◌, drop}
use Rattle.tableau.proofs.sparse_row.SparseRow.dense_from.Given as goal

abbrev pub invariant-loop-variable : goal.invariant-loop-variable
invariant-loop-variable l = l.coefficients.items ++ drop l.variable l.self ≡ drop l.first l.self
