-- What a verdict tells of the points of the box.
use Rattle.std.specs.Prelude.{◌≡◌, ℕ, ℤ, List, All, Option, Some, slice_get}
use Rattle.std.specs.Option.{ForSome}
use Rattle.fraction.specs.Rational.{ℚ, ◌≤ℚ◌}
use Rattle.fraction.specs.Order.{◌<ℚ◌}
use Rattle.problem_box.specs.declared.span.Span.{Span}
use Rattle.problem_box.specs.Boxes.{IsInBox}
use Rattle.problem_box.specs.Changes.{IsFirstEmpty, IsFixed}
use Rattle.problem.specs.declared.row.Sense.TheVariants.{G, L}
use Rattle.problem.specs.declared.row.Row.{Row}
use Rattle.problem.specs.Problem.{Problem}
use Rattle.problem.specs.Rows.{Satisfies}
use Rattle.problem.specs.Directions.{aim, aim_at}
use Rattle.row_activity.specs.declared.verdict.Sign.{Sign}
use Rattle.row_activity.specs.declared.verdict.Sign.TheVariants.{Plus, Minus}
use Rattle.row_activity.specs.declared.verdict.Verdict.{Verdict}
use Rattle.row_activity.specs.declared.verdict.Verdict.TheVariants.{Empty, Refuted, Priced, Point, Unsettled}
use Rattle.row_activity.specs.Activity.{low_of, high_of, IsNonempty}

-- the box has no point
abbrev pub HasNoPoint : List Span → Type 0
HasNoPoint ss = (x : List ℤ) → IsInBox ss x → ⊥

-- plus: a G or E row whose greatest value is below its right side; minus: an L or E row whose least value is above it
abbrev pub IsMissed : List Span → Row → Sign → Type 0
IsMissed ss r Plus = (r.sense ≡ L → ⊥) × (high_of ss r.terms <ℚ r.rhs)
IsMissed ss r Minus = (r.sense ≡ G → ⊥) × (r.rhs <ℚ low_of ss r.terms)

-- a row that no point of the box satisfies
pub record IsRefuted (p : Problem) (ss : List Span) (i : ℕ) (s : Sign) : Type 0 where
  pub row : Row
  pub there : slice_get p.rows i ≡ Some row
  pub missed : IsMissed ss row s
  pub never : (x : List ℤ) → IsInBox ss x → Satisfies x row → ⊥

-- no point of the box has an aim, which is the objective that a search minimises, below the cutoff
pub record IsPriced (p : Problem) (ss : List Span) (cutoff : Option ℚ) : Type 0 where
  pub bound : ℚ
  pub given : cutoff ≡ Some bound
  pub reached : bound ≤ℚ low_of ss (aim p)
  pub least : (x : List ℤ) → IsInBox ss x → bound ≤ℚ aim_at p x

-- one point, which satisfies each row and whose aim is below the cutoff, if there is one
pub record IsOnePoint (p : Problem) (ss : List Span) (cutoff : Option ℚ) : Type 0 where
  pub fixed : IsFixed ss
  pub point : List ℤ
  pub inside : IsInBox ss point
  pub only : (x : List ℤ) → IsInBox ss x → x ≡ point
  pub rows : All (Satisfies point) p.rows
  pub below : ForSome cutoff (λ z. aim_at p point <ℚ z)

-- each column has a number, and some column has more than one
pub record IsOpen (ss : List Span) : Type 0 where
  pub nonempty : IsNonempty ss
  pub free : IsFixed ss → ⊥

-- what a verdict says of the box
abbrev pub Tells : Problem → List Span → Option ℚ → Verdict → Type 0
Tells p ss cutoff (Empty j) = IsFirstEmpty ss j × HasNoPoint ss
Tells p ss cutoff (Refuted i s) = IsRefuted p ss i s
Tells p ss cutoff Priced = IsPriced p ss cutoff
Tells p ss cutoff Point = IsOnePoint p ss cutoff
Tells p ss cutoff Unsettled = IsOpen ss
