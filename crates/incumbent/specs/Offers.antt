-- Points that become the incumbent.
use Rattle.std.specs.Prelude.{◌≡◌, Bool, true, Option, Some, None}
use Rattle.std.specs.Option.{ForSome}
use Rattle.std.specs.Ordering.{is_lt}
use Rattle.fraction.specs.Rational.{ℚ}
use Rattle.fraction.specs.Checked.{compare}
use Rattle.fraction.specs.Order.{◌<ℚ◌}
use Rattle.problem.specs.Problem.{Problem}
use Rattle.problem.specs.Directions.{aim_at}
use Rattle.problem.specs.Feasible.{IsFeasible}
use Rattle.incumbent.specs.declared.best.Best.{Best}
use Rattle.problem.specs.Linear.{Point}

-- the incumbent's aim, which is the objective that a search minimises
abbrev pub cutoff_of : Option Best → Option ℚ
cutoff_of None = None
cutoff_of (Some b) = Some b.value

-- the incumbent's point
abbrev pub point_of : Option Best → Option Point
point_of None = None
point_of (Some b) = Some b.point

-- a feasible point of the program, with its aim
pub record IsPointOf (p : Problem) (b : Best) : Type 0 where
  pub feasible : IsFeasible p b.point
  pub value : b.value ≡ aim_at p b.point

-- where there is an incumbent, it is a feasible point of the program
abbrev pub IsIncumbentOf : Problem → Option Best → Type 0
IsIncumbentOf p i = ForSome i (IsPointOf p)

-- the test: there is no incumbent, or the value is less than its
abbrev pub is_better : Option Best → ℚ → Bool
is_better None v = true
is_better (Some b) v = is_lt (compare v b.value)

-- what the test means
abbrev pub IsBetter : Option Best → ℚ → Type 0
IsBetter i v = ForSome i (λ b. v <ℚ b.value)

-- the point is feasible, and its aim is better
pub record IsImprovement (p : Problem) (i : Option Best) (x : Point) : Type 0 where
  pub feasible : IsFeasible p x
  pub better : IsBetter i (aim_at p x)

-- the incumbent that a point becomes
abbrev pub offered : Problem → Point → Option Best
offered p x = Some (record { point = x; value = aim_at p x })
