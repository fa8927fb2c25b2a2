use Rattle.std.proofs.Common.{◌≡◌, take}
use Rattle.integer_tableau.proofs.integer_tableau.IntegerTableau.all_values.Given as goal

abbrev pub invariant-loop-variable : goal.invariant-loop-variable
invariant-loop-variable l = l.values.items ≡ take l.variable l.self.values
