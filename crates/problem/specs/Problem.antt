-- An integer program.
use Rattle.std.specs.Prelude.{ℕ, List}
use Rattle.problem_box.specs.declared.span.Span.{Span}
use Rattle.problem.specs.declared.objective_sense.ObjectiveSense.{ObjectiveSense}
use Rattle.problem.specs.Linear.{Terms}
use Rattle.problem.specs.Rows.{Rows}

-- minimise or maximise the objective over the whole points of the box that satisfy the rows
pub record Problem : Type 0 where
  pub names : List (List ℕ)
  pub rows : Rows
  pub objective : Terms
  pub sense : ObjectiveSense
  pub spans : List Span
