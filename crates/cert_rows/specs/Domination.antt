-- Absurd rows, and rows that follow from another.
use Rattle.std.specs.Prelude.{◌≡◌, ◌⊎◌, pos, []}
use Rattle.fraction.specs.Rational.{ℚ, whole, ◌≤ℚ◌}
use Rattle.fraction.specs.Order.{◌<ℚ◌}
use Rattle.problem.specs.declared.row.Sense.{Sense}
use Rattle.problem.specs.declared.row.Sense.TheVariants.{G, L, E}
use Rattle.problem.specs.declared.row.Row.{Row}
use Rattle.problem.specs.Linear.{SameCoefficients}

-- 0 doesn't stand so to the right side
abbrev pub ExcludesZero : Sense → ℚ → Type 0
ExcludesZero G rhs = whole (pos 0) <ℚ rhs
ExcludesZero L rhs = rhs <ℚ whole (pos 0)
ExcludesZero E rhs = ⊥

-- no coefficients, and a right side that 0 misses
pub record IsAbsurd (r : Row) : Type 0 where
  pub no_terms : SameCoefficients r.terms []
  pub excludes : ExcludesZero r.sense r.rhs

-- a right side that asks as much
abbrev pub IsAsTight : Sense → ℚ → ℚ → Type 0
IsAsTight G a b = b ≤ℚ a
IsAsTight L a b = a ≤ℚ b
IsAsTight E a b = ⊥

-- equal sense and coefficients, and a right side that asks as much
pub record IsStronger (a b : Row) : Type 0 where
  pub sense : a.sense ≡ b.sense
  pub terms : SameCoefficients a.terms b.terms
  pub rhs : IsAsTight b.sense a.rhs b.rhs

-- an absurd row dominates every row
abbrev pub Dominates : Row → Row → Type 0
Dominates a b = IsAbsurd a ⊎ IsStronger a b
