-- Rows of an integer program.
use Rattle.std.specs.Prelude.{◌≡◌, List}
use Rattle.fraction.specs.Rational.{ℚ, ◌≤ℚ◌}
use Rattle.problem.specs.declared.row.Sense.{Sense}
use Rattle.problem.specs.declared.row.Sense.TheVariants.{G, L, E}
use Rattle.problem.specs.declared.row.Row.{Row}
use Rattle.problem.specs.Linear.{Point, value}

-- a list of rows
abbrev pub Rows : Type 0
Rows = List Row

-- a value stands to the right side as the sense says
abbrev pub Compares : Sense → ℚ → ℚ → Type 0
Compares G rhs v = rhs ≤ℚ v
Compares L rhs v = v ≤ℚ rhs
Compares E rhs v = v ≡ rhs

-- the point satisfies the row
abbrev pub Satisfies : Point → Row → Type 0
Satisfies p r = Compares r.sense r.rhs (value r.terms p)
