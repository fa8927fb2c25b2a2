use Rattle.std.proofs.Common.{◌≡◌, take}
use Rattle.scaled_program.proofs.scaled_tableau.ScaledTableau.all_rows.Given as goal

abbrev pub invariant-loop-variable : goal.invariant-loop-variable
invariant-loop-variable l = l.rows ≡ take l.variable l.self.rows
