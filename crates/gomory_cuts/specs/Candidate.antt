-- The row that a candidate for a cut gives, if it gives one.
use Rattle.std.specs.Prelude.{ℕ, ◌+◌, ℤ, Bool, if◌then◌else◌, List, [], ◌∷◌, map}
use Rattle.fraction.specs.Rational.{ℚ, whole, frac, floor, ceil, ◌+ℚ◌, ◌*ℚ◌, neg_ℚ}
use Rattle.problem_box.specs.declared.span.Span.{Span}
use Rattle.problem.specs.declared.row.Row.{Row}
use Rattle.derivation_book.specs.Sums.{Sums, sums_of}
use Rattle.derivation_book.specs.Rounded.{cut_row, is_zero}
use Rattle.tableau.specs.declared.status.BasisStatus.{BasisStatus}
use Rattle.tableau.specs.Elimination.{zero_ℚ}
use Rattle.tableau.specs.Tableau.{Tableau, status_of}
use Rattle.dual_simplex.specs.Relaxation.{RationalPoint, rational_at}
use Rattle.gomory_cuts.specs.Multipliers.{is_at_upper}

-- the whole number that a filling makes of a coefficient: the next one down where the column is at its upper bound, else up
abbrev pub whole_to : BasisStatus → ℚ → ℤ
whole_to b c = if is_at_upper b then floor c else ceil c

-- the bound whose row fills
abbrev pub bound_at : BasisStatus → Span → ℤ
bound_at b s = if is_at_upper b then s.hi else s.lo

-- the fractions with these numerators over d
abbrev pub fractions : ℕ → List ℤ → List ℚ
fractions d zs = map (λ z. frac z d) zs

-- what it counts in a sum at a point, whose number in the column is 0 or isn't
abbrev pub counted : Bool → BasisStatus → ℚ → ℚ
counted z b c = if z then zero_ℚ else whole (whole_to b c)

-- of the coefficients of the columns from j on
abbrev pub counted_columns : RationalPoint → Tableau → ℕ → List ℚ → List ℚ
counted_columns x t j [] = []
counted_columns x t j (c ∷ cs) = counted (is_zero (rational_at x j)) (status_of t j) c ∷ counted_columns x t (j + 1) cs

-- a right side with what fills a coefficient times its bound
abbrev pub side_with : BasisStatus → ℚ → Span → ℚ → ℚ
side_with b c s v = v +ℚ (whole (whole_to b c) +ℚ neg_ℚ c) *ℚ whole (bound_at b s)

-- for the columns from j on
abbrev pub filled_side : Tableau → ℕ → List ℚ → List Span → ℚ → ℚ
filled_side t j [] ss v = v
filled_side t j (c ∷ cs) [] v = v
filled_side t j (c ∷ cs) (s ∷ ss) v = filled_side t (j + 1) cs ss (side_with (status_of t j) c s v)

-- the row of sums that are filled, but the terms that count nothing at a point
abbrev pub counted_candidate : RationalPoint → Tableau → List Span → Sums → Row
counted_candidate x t ss q = cut_row (sums_of (counted_columns x t 0 q.coefficients) (filled_side t 0 q.coefficients ss q.side))
