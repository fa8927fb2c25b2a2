-- The linear programming relaxation: a problem's rows and some cuts over a box, where the numbers of a point need not be whole.
use Rattle.std.specs.Prelude.{ℕ, pos, List, [], ◌∷◌, All, slice_index_or}
use Rattle.fraction.specs.Rational.{ℚ, whole, ◌+ℚ◌, ◌*ℚ◌, ◌≤ℚ◌}
use Rattle.problem_box.specs.declared.span.Span.{Span}
use Rattle.problem.specs.declared.row.Row.{Row}
use Rattle.problem.specs.Linear.{Terms}
use Rattle.problem.specs.Rows.{Compares}
use Rattle.problem.specs.Problem.{Problem}
use Rattle.derivation_book.specs.declared.cut.Cut.{Cut}

-- one rational number per column
abbrev pub RationalPoint : Type 0
RationalPoint = List ℚ

-- the point's number in a column
abbrev pub rational_at : RationalPoint → ℕ → ℚ
rational_at x j = slice_index_or x j (whole (pos 0))

-- the sum of coefficient times number in that column
abbrev pub rational_value : Terms → RationalPoint → ℚ
rational_value [] x = whole (pos 0)
rational_value (t ∷ ts) x = t.1 *ℚ rational_at x t.0 +ℚ rational_value ts x

-- one number per span, each between the span's ends
abbrev pub LiesInBox : List Span → RationalPoint → Type 0
LiesInBox [] [] = Unit {0}
LiesInBox [] (x ∷ xs) = ⊥
LiesInBox (s ∷ ss) [] = ⊥
LiesInBox (s ∷ ss) (x ∷ xs) = (whole s.lo ≤ℚ x) × (x ≤ℚ whole s.hi) × LiesInBox ss xs

-- the rational point satisfies the row
abbrev pub SatisfiesRow : RationalPoint → Row → Type 0
SatisfiesRow x r = Compares r.sense r.rhs (rational_value r.terms x)

-- a rational point of the box that satisfies all rows and these cuts
pub record IsInRelaxation (p : Problem) (cs : List Cut) (box : List Span) (x : RationalPoint) : Type 0 where
  pub in_box : LiesInBox box x
  pub rows : All (SatisfiesRow x) p.rows
  pub cuts : All (λ (c : Cut). SatisfiesRow x c.row) cs
