-- Feasible points and their objective.
use Rattle.std.specs.Prelude.{All}
use Rattle.fraction.specs.Rational.{ℚ}
use Rattle.problem_box.specs.Boxes.{IsInBox}
use Rattle.problem.specs.Linear.{Point, value}
use Rattle.problem.specs.Rows.{Satisfies}
use Rattle.problem.specs.Problem.{Problem}
use Rattle.problem.specs.Directions.{aim}
use Rattle.fraction.specs.Whole.{IsWhole}

-- one whole number per column, each in its span, such that each row is satisfied
pub record IsFeasible (p : Problem) (x : Point) : Type 0 where
  pub in_box : IsInBox p.spans x
  pub rows : All (Satisfies x) p.rows

-- the problem's own objective at a point
abbrev pub objective_at : Problem → Point → ℚ
objective_at p x = value p.objective x

-- each coefficient of the objective is a whole number, of the own one and so of the one that a search minimises
abbrev pub HasWholeObjective : Problem → Type 0
HasWholeObjective p = All (λ t. IsWhole t.1) (aim p)
