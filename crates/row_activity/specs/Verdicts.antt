-- The verdict on a box: the first thing that the least and the greatest values over it tell.
use Rattle.std.specs.Prelude.{ℕ, ◌+◌, int_lt, Bool, true, false, not, if◌then◌else◌, List, [], ◌∷◌, Option, Some, None}
use Rattle.std.specs.List.{position_from, list_all}
use Rattle.std.specs.Option.{option_map_or}
use Rattle.std.specs.Ordering.{is_lt, int_eq}
use Rattle.fraction.specs.Rational.{ℚ}
use Rattle.fraction.specs.Checked.{compare}
use Rattle.problem_box.specs.declared.span.Span.{Span}
use Rattle.problem.specs.declared.row.Sense.{Sense}
use Rattle.problem.specs.declared.row.Sense.TheVariants.{G, L, E}
use Rattle.problem.specs.declared.row.Row.{Row}
use Rattle.problem.specs.Problem.{Problem}
use Rattle.problem.specs.Directions.{aim}
use Rattle.row_activity.specs.declared.verdict.Sign.{Sign}
use Rattle.row_activity.specs.declared.verdict.Sign.TheVariants.{Plus, Minus}
use Rattle.row_activity.specs.declared.verdict.Verdict.{Verdict}
use Rattle.row_activity.specs.declared.verdict.Verdict.TheVariants.{Empty, Refuted, Priced, Point, Unsettled}
use Rattle.row_activity.specs.Activity.{low_of, high_of}
use Rattle.problem.specs.Rows.{Rows}

-- the one is below the other
abbrev pub is_less : ℚ → ℚ → Bool
is_less x y = is_lt (compare x y)

-- the sign with which a row refutes: plus where its values fall short of what it asks, else minus where they pass it
abbrev pub sign_of : Sense → Bool → Bool → Option Sign
sign_of G short past = if short then Some Plus else None
sign_of L short past = if past then Some Minus else None
sign_of E short past = if short then Some Plus else if past then Some Minus else None

-- a row falls short where its greatest value is below its right side, and passes where its least value is above it
abbrev pub refuting_sign : List Span → Row → Option Sign
refuting_sign ss r = sign_of r.sense (is_less (high_of ss r.terms) r.rhs) (is_less r.rhs (low_of ss r.terms))

-- the first row that refutes, with its sign, where the list starts at row i
abbrev pub refuted_from : ℕ → List Span → Rows → Option (ℕ × Sign)
refuted_from i ss [] = None
refuted_from i ss (r ∷ rs) = option_map_or (λ s. Some (i, s)) (refuting_sign ss r) (refuted_from (i + 1) ss rs)

-- the least column whose span has no number
abbrev pub first_empty : List Span → Option ℕ
first_empty ss = position_from (λ (s : Span). int_lt s.hi s.lo) 0 ss

-- there is a cutoff, and the value is at least it
abbrev pub reaches : ℚ → Option ℚ → Bool
reaches v None = false
reaches v (Some z) = not (is_less v z)

-- each span has one number
abbrev pub is_fixed : List Span → Bool
is_fixed ss = list_all (λ (s : Span). int_eq s.lo s.hi) ss

-- the first that holds
abbrev pub first_of_all : Option ℕ → Option (ℕ × Sign) → Bool → Bool → Verdict
first_of_all (Some j) refuted priced fixed = Empty j
first_of_all None (Some q) priced fixed = Refuted q.0 q.1
first_of_all None None true fixed = Priced
first_of_all None None false true = Point
first_of_all None None false false = Unsettled

-- the verdict on a box: the first of an empty column, a row that no point satisfies, an aim that reaches the cutoff, and a single point
abbrev pub verdict : Problem → List Span → Option ℚ → Verdict
verdict p ss cutoff = first_of_all (first_empty ss) (refuted_from 0 ss p.rows) (reaches (low_of ss (aim p)) cutoff) (is_fixed ss)
