-- Answers as plain numbers, and short ways to write a problem.
use Rattle.std.specs.Prelude.{ℕ, ℤ, List, map}
use Rattle.fraction.specs.Rational.{ℚ, parts}
use Rattle.problem_box.specs.declared.span.Span.{Span}
use Rattle.problem.specs.declared.row.Sense.{Sense}
use Rattle.problem.specs.declared.row.Row.{Row}
use Rattle.dual_simplex.specs.declared.answer.Answer.{Answer}
use Rattle.dual_simplex.specs.declared.answer.Answer.TheVariants.{Infeasible, Optimal, Cramped, Stalled}

-- an answer with its fractions as numerators and denominators
pub data Shown : Type 0 where
  no_point : List (ℕ × ℤ × ℕ) → Shown
  best_point : List (ℤ × ℕ) → List (ℕ × ℤ × ℕ) → ℤ × ℕ → Shown
  broken_off : ℕ → Shown
  limit_met : Shown

abbrev pub multipliers : List (ℕ × ℚ) → List (ℕ × ℤ × ℕ)
multipliers ms = map (λ (m : ℕ × ℚ). (m.0, m.1.num, m.1.den)) ms

abbrev pub shown : Answer → Shown
shown (Infeasible mult) = no_point (multipliers mult)
shown (Optimal point mult value) = best_point (map parts point) (multipliers mult) (parts value)
shown (Cramped t) = broken_off t
shown Stalled = limit_met

abbrev pub row : Sense → ℚ → List (ℕ × ℚ) → Row
row sense rhs terms = record { sense = sense; rhs = rhs; terms = terms }

abbrev pub span : ℤ → ℤ → Span
span a b = record { lo = a; hi = b }
