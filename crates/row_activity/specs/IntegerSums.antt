-- Sums of ends over the first terms, whose coefficients are whole.
use Rattle.std.specs.Prelude.{◌≡◌, ◌≤◌, ◌*◌, ℕ, ℤ, nat_abs, List, drop, length}
use Rattle.fraction.specs.Rational.{ℚ, whole, ◌+ℚ◌}
use Rattle.problem_box.specs.declared.span.Span.{Span}
use Rattle.problem.specs.Limits.{largest_bound}
use Rattle.problem.specs.Linear.{Terms}
use Rattle.row_activity.specs.Activity.{sum_of_ends}

-- a whole number that is the sum over the first k terms: with the sum over the others it is the whole sum
pub record IsIntegerSum (e : ℚ → Span → ℤ) (ss : List Span) (ts : Terms) (k : ℕ) (z : ℤ) : Type 0 where
  pub there : k ≤ length ts
  pub small : nat_abs z ≤ k * (largest_bound * largest_bound)
  pub rest : whole z +ℚ sum_of_ends e ss (drop k ts) ≡ sum_of_ends e ss ts
