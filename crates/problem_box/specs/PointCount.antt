-- How many points a box has.
use Rattle.std.specs.Prelude.{◌≡◌, ◌<◌, ℕ, zero, ◌+◌, ◌*◌, ℤ, ◌-ℤ◌, nat_abs, int_lt, if◌then◌else◌, List, [], ◌∷◌}
use Rattle.problem_box.specs.declared.span.Span.{Span}
use Rattle.problem_box.specs.Boxes.{IsInBox}

-- how many numbers a span has
abbrev pub span_count : Span → ℕ
span_count s = if int_lt s.hi s.lo then zero else nat_abs (s.hi -ℤ s.lo) + 1

-- the product of these numbers
abbrev pub point_count : List Span → ℕ
point_count [] = 1
point_count (s ∷ ss) = span_count s * point_count ss

-- each point of the box has a number below n, and each number below n is that of one point
pub record IsNumbering (ss : List Span) (n : ℕ) (number : List ℤ → ℕ) : Type 0 where
  pub below : (x : List ℤ) → IsInBox ss x → number x < n
  pub one_point : (x y : List ℤ) → IsInBox ss x → IsInBox ss y → number x ≡ number y → x ≡ y
  pub each : (k : ℕ) → k < n → (x : List ℤ) × IsInBox ss x × (number x ≡ k)

-- a box has as many points as `point_count` says
abbrev pub PointsAreCounted : List Span → Type 0
PointsAreCounted ss = (number : List ℤ → ℕ) × IsNumbering ss (point_count ss) number
