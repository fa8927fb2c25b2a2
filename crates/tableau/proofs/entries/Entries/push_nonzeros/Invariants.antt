use Rattle.std.proofs.Common.{◌≡◌, ◌++◌, drop}
use Rattle.std.specs.Prelude.{All}
use Rattle.tableau.specs.Sparse.{HasFraction, nonzeros}
use Rattle.tableau.proofs.entries.Entries.push_nonzeros.Given as goal

abbrev pub invariant-loop-variable : goal.invariant-loop-variable
invariant-loop-variable l = record {
  entries : l.self ++ nonzeros l.variable (drop l.variable l.coefficients) ≡ l.fn.self ++ nonzeros 0 l.coefficients;
  fractions : All HasFraction l.fn.self → All HasFraction l.self;
}
