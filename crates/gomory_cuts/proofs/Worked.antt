-- Separations that were worked out by hand.
use Rattle.std.specs.Prelude.{◌≡◌, ℕ, ℤ, pos, negsuc, List, [], ◌∷◌, map, refl, Option, Some}
use Rattle.std.specs.Option.{option_map}
use Rattle.fraction.specs.Gcd.{gcd, gcd_within}
use Rattle.fraction.specs.Rational.{ℚ, whole, frac, floor, ceil, ◌+ℚ◌, ◌*ℚ◌, neg_ℚ, inv_ℚ}
use Rattle.fraction.specs.Checked.{add_fits, add_checked, mul_fits, mul_checked, compare}
use Rattle.problem_box.specs.declared.span.Span.{Span}
use Rattle.problem.specs.declared.row.Sense.{Sense}
use Rattle.problem.specs.declared.row.Sense.TheVariants.{G, E}
use Rattle.problem.specs.declared.row.Row.{Row}
use Rattle.problem.specs.Problem.{Problem}
use Rattle.derivation_book.specs.declared.cut.Cut.{Cut}
use Rattle.derivation_book.specs.Rounded.{rounded_row}
use Rattle.tableau.specs.Tableau.{Tableau}
use Rattle.tableau.specs.Multipliers.{point_of}
use Rattle.dual_simplex.specs.Answers.{linear_program, run}
use Rattle.gomory_cuts.specs.Separation.{separation}
use Rattle.problem.specs.declared.objective_sense.ObjectiveSense.TheVariants.{Minimise}

-- multipliers with their fractions as numerators and denominators
abbrev parts : List (ℕ × ℚ) → List (ℕ × ℤ × ℕ)
parts ms = map (λ (m : ℕ × ℚ). (m.0, m.1.num, m.1.den)) ms

-- what separates the point at the end of the run with all cuts over a box
abbrev separated : Problem → List Cut → List Span → Option (List (List (ℕ × ℤ × ℕ)))
separated p cuts box = option_map (λ (t : Tableau). map parts (separation p cuts t (point_of t))) (run (linear_program p cuts box)).tableau

-- the right side and the terms of a rounded row
abbrev row_parts : Row → (ℤ × ℕ) × List (ℕ × ℤ × ℕ)
row_parts r = ((r.rhs.num, r.rhs.den), parts r.terms)

abbrev n : ℕ → ℚ
n k = whole (pos k)

abbrev row : Sense → ℚ → List (ℕ × ℚ) → Row
row sense rhs terms = record { sense = sense; rhs = rhs; terms = terms }

abbrev span : ℤ → ℤ → Span
span a b = record { lo = a; hi = b }

-- ---- minimise x, 2x >= 3, x in 0..5
abbrev half : Problem
half = record { names = []; rows = row G (n 3) ((0, n 2) ∷ []) ∷ []; objective = (0, n 1) ∷ []; sense = Minimise; spans = span (pos 0) (pos 5) ∷ [] }

half_is : separated half [] half.spans ≡ Some (((0, pos 1, 2) ∷ []) ∷ [])
unfolding gcd gcd_within frac floor ceil ◌+ℚ◌ ◌*ℚ◌ neg_ℚ inv_ℚ add_fits add_checked mul_fits mul_checked compare
half_is = refl

-- ---- 2x + 2y = 3, x and y in 0..1
abbrev odd : Problem
odd = record { names = []; rows = row E (n 3) ((0, n 2) ∷ (1, n 2) ∷ []) ∷ []; objective = []; sense = Minimise; spans = span (pos 0) (pos 1) ∷ span (pos 0) (pos 1) ∷ [] }

odd_is : separated odd [] odd.spans ≡ Some (((0, pos 1, 2) ∷ []) ∷ ((0, negsuc 0, 2) ∷ []) ∷ [])
unfolding gcd gcd_within frac floor ceil ◌+ℚ◌ ◌*ℚ◌ neg_ℚ inv_ℚ add_fits add_checked mul_fits mul_checked compare
odd_is = refl

-- they are the rows x + y >= 2 and - x - y >= - 1
first_row : option_map row_parts (rounded_row odd [] ((0, frac (pos 1) 2) ∷ [])) ≡ Some ((pos 2, 1), (0, pos 1, 1) ∷ (1, pos 1, 1) ∷ [])
unfolding gcd gcd_within frac floor ceil ◌+ℚ◌ ◌*ℚ◌ neg_ℚ inv_ℚ add_fits add_checked mul_fits mul_checked compare
first_row = refl

second_row : option_map row_parts (rounded_row odd [] ((0, frac (negsuc 0) 2) ∷ [])) ≡ Some ((negsuc 0, 1), (0, negsuc 0, 1) ∷ (1, negsuc 0, 1) ∷ [])
unfolding gcd gcd_within frac floor ceil ◌+ℚ◌ ◌*ℚ◌ neg_ℚ inv_ℚ add_fits add_checked mul_fits mul_checked compare
second_row = refl
