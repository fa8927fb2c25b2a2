-- The least and the greatest value of terms over the points of a box.
use Rattle.std.specs.Prelude.{◌≡◌, List}
use Rattle.fraction.specs.Rational.{ℚ, ◌≤ℚ◌}
use Rattle.problem_box.specs.declared.span.Span.{Span}
use Rattle.problem_box.specs.Boxes.{IsInBox}
use Rattle.problem.specs.Linear.{Terms, Point, value}

-- some point of the box has this value, and no point of the box has a smaller one
pub record IsLeast (ss : List Span) (ts : Terms) (v : ℚ) : Type 0 where
  pub point : Point
  pub inside : IsInBox ss point
  pub attained : value ts point ≡ v
  pub least : (x : Point) → IsInBox ss x → v ≤ℚ value ts x

-- some point of the box has this value, and no point of the box has a greater one
pub record IsGreatest (ss : List Span) (ts : Terms) (v : ℚ) : Type 0 where
  pub point : Point
  pub inside : IsInBox ss point
  pub attained : value ts point ≡ v
  pub greatest : (x : Point) → IsInBox ss x → value ts x ≤ℚ v
