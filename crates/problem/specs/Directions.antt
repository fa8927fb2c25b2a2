-- The objective that a search minimises: a problem's own one, or the negated one where the problem is maximised.
use Rattle.std.specs.Prelude.{map, Option, Some, None}
use Rattle.fraction.specs.Rational.{ℚ, neg_ℚ, ◌≤ℚ◌}
use Rattle.problem.specs.declared.objective_sense.ObjectiveSense.{ObjectiveSense}
use Rattle.problem.specs.declared.objective_sense.ObjectiveSense.TheVariants.{Minimise, Maximise}
use Rattle.problem.specs.Linear.{Terms, Point, value}
use Rattle.problem.specs.Problem.{Problem}

-- each number negated: terms with their coefficients, or multipliers
abbrev pub negated : Terms → Terms
negated ts = map (λ t. (t.0, neg_ℚ t.1)) ts

-- terms or multipliers, negated where the objective is maximised
abbrev pub directed : ObjectiveSense → Terms → Terms
directed Minimise ts = ts
directed Maximise ts = negated ts

-- a value, negated where the objective is maximised
abbrev pub directed_value : ObjectiveSense → ℚ → ℚ
directed_value Minimise v = v
directed_value Maximise v = neg_ℚ v

-- the negated terms, where the objective is maximised
abbrev pub negated_if : ObjectiveSense → Terms → Option Terms
negated_if Minimise ts = None
negated_if Maximise ts = Some (negated ts)

-- the objective that a search minimises
abbrev pub aim : Problem → Terms
aim p = directed p.sense p.objective

-- that objective at a point
abbrev pub aim_at : Problem → Point → ℚ
aim_at p x = value (aim p) x

-- a value of the objective is as good as another one: not greater where it is minimised, not smaller where it is maximised
abbrev pub IsAsGood : ObjectiveSense → ℚ → ℚ → Type 0
IsAsGood Minimise a b = a ≤ℚ b
IsAsGood Maximise a b = b ≤ℚ a
