-- Runs that were worked out: first by hand, then by a program that follows the run's description literally, over exact fractions.
use Rattle.std.specs.Prelude.{◌≡◌, ℕ, ℤ, pos, negsuc, List, [], ◌∷◌, map, Option, Some, None, refl, codes}
use Rattle.fraction.specs.Gcd.{gcd, gcd_within}
use Rattle.fraction.specs.Rational.{ℚ, whole, frac, ◌+ℚ◌, ◌*ℚ◌, neg_ℚ, inv_ℚ}
use Rattle.fraction.specs.Checked.{add_fits, add_checked, mul_fits, mul_checked, compare}
use Rattle.problem_box.specs.declared.span.Span.{Span}
use Rattle.problem.specs.declared.row.Sense.{Sense}
use Rattle.problem.specs.declared.row.Sense.TheVariants.{G, L, E}
use Rattle.problem.specs.declared.row.Row.{Row}
use Rattle.problem.specs.Linear.{Terms}
use Rattle.problem.specs.Rows.{Rows}
use Rattle.problem.specs.Problem.{Problem}
use Rattle.tableau.specs.declared.place.Place.{Place}
use Rattle.tableau.specs.declared.place.Place.TheVariants.{Done, NoColumn, Pivot, Cramped}
use Rattle.tableau.specs.Tableau.{Tableau}
use Rattle.tableau.specs.Run.{RunEnd, run_from}
use Rattle.tableau.specs.LinearProgram.{relaxation}
use Rattle.tableau.specs.Start.{started}
use Rattle.tableau.specs.Multipliers.{point_of, mult_of_cost, mult_of_row}
use Rattle.problem.specs.declared.objective_sense.ObjectiveSense.TheVariants.{Minimise}

-- ---- how a run is shown
-- fractions as numerators and denominators: the multipliers of a row that no column can help, or the point and the multipliers of the costs;
-- and the number of pivots
data Shown : Type 0 where
  no_column : List (ℕ × ℤ × ℕ) → ℕ → Shown
  done : List (ℤ × ℕ) → List (ℕ × ℤ × ℕ) → ℕ → Shown
  broken_off : Shown

abbrev pair : ℚ → ℤ × ℕ
pair q = (q.num, q.den)

abbrev multipliers : Terms → List (ℕ × ℤ × ℕ)
multipliers ms = map (λ (m : ℕ × ℚ). (m.0, m.1.num, m.1.den)) ms

abbrev shown_at : ℕ → Tableau → Place → Shown
shown_at pivots t Done = done (map pair (point_of t)) (multipliers (mult_of_cost t)) pivots
shown_at pivots t (NoColumn r) = no_column (multipliers (mult_of_row t r)) pivots
shown_at pivots t (Pivot r c) = broken_off
shown_at pivots t Cramped = broken_off

abbrev shown_end : ℕ → Place → Option Tableau → Shown
shown_end pivots p None = broken_off
shown_end pivots p (Some t) = shown_at pivots t p

abbrev shown : RunEnd → Shown
shown e = shown_end e.pivots e.place e.tableau

abbrev run_of : Option Tableau → Shown
run_of None = broken_off
run_of (Some t) = shown (run_from 400 t)

-- the run of a problem's rows and some cuts over a box
abbrev solved : Problem → Rows → List Span → Shown
solved p cuts spans = run_of (started (relaxation p cuts spans))

-- ---- programs
abbrev n : ℕ → ℚ
n k = whole (pos k)

abbrev row : Sense → ℚ → Terms → Row
row sense rhs terms = record { sense = sense; rhs = rhs; terms = terms }

abbrev span : ℤ → ℤ → Span
span a b = record { lo = a; hi = b }

-- ---- by hand
-- minimise x, 2x >= 3, x from 0 to 5
abbrev half : Problem
half = record { names = codes "x" ∷ []; rows = row G (n 3) ((0, n 2) ∷ []) ∷ []; objective = (0, n 1) ∷ []; sense = Minimise; spans = span (pos 0) (pos 5) ∷ [] }

half_is : solved half [] half.spans ≡ done ((pos 3, 2) ∷ []) ((0, pos 1, 2) ∷ []) 1
unfolding gcd gcd_within frac ◌+ℚ◌ ◌*ℚ◌ neg_ℚ inv_ℚ add_fits add_checked mul_fits mul_checked compare
half_is = refl

-- the same with the cut x >= 2
half_cut : solved half (row G (n 2) ((0, n 1) ∷ []) ∷ []) half.spans ≡ done ((pos 2, 1) ∷ []) ((3, pos 1, 1) ∷ []) 2
unfolding gcd gcd_within frac ◌+ℚ◌ ◌*ℚ◌ neg_ℚ inv_ℚ add_fits add_checked mul_fits mul_checked compare
half_cut = refl

-- 2x + 2y = 3, x and y from 0 to 1
abbrev odd : Problem
odd = record { names = codes "x" ∷ codes "y" ∷ []; rows = row E (n 3) ((0, n 2) ∷ (1, n 2) ∷ []) ∷ []; objective = []; sense = Minimise; spans = span (pos 0) (pos 1) ∷ span (pos 0) (pos 1) ∷ [] }

odd_is : solved odd [] odd.spans ≡ done ((pos 1, 1) ∷ (pos 1, 2) ∷ []) [] 2
unfolding gcd gcd_within frac ◌+ℚ◌ ◌*ℚ◌ neg_ℚ inv_ℚ add_fits add_checked mul_fits mul_checked compare
odd_is = refl

-- with y fixed at 0
odd_low : solved odd [] (span (pos 0) (pos 1) ∷ span (pos 0) (pos 0) ∷ []) ≡ no_column ((0, pos 1, 2) ∷ []) 1
unfolding gcd gcd_within frac ◌+ℚ◌ ◌*ℚ◌ neg_ℚ inv_ℚ add_fits add_checked mul_fits mul_checked compare
odd_low = refl

-- with the cuts x + y >= 2 and - x - y >= - 1
abbrev both : Rows
both = row G (n 2) ((0, n 1) ∷ (1, n 1) ∷ []) ∷ row G (whole (negsuc 0)) ((0, whole (negsuc 0)) ∷ (1, whole (negsuc 0)) ∷ []) ∷ []

odd_cut : solved odd both odd.spans ≡ no_column ((0, negsuc 0, 2) ∷ (5, pos 1, 1) ∷ []) 2
unfolding gcd gcd_within frac ◌+ℚ◌ ◌*ℚ◌ neg_ℚ inv_ℚ add_fits add_checked mul_fits mul_checked compare
odd_cut = refl

-- ---- by a literal reading
abbrev one : Problem
one = record { names = codes "x" ∷ codes "x" ∷ []; rows = row G (whole (negsuc 2)) ((0, whole (pos 1)) ∷ (1, whole (negsuc 1)) ∷ []) ∷ row E (whole (pos 0)) ((0, whole (pos 3)) ∷ (1, whole (pos 3)) ∷ []) ∷ []; objective = (1, whole (negsuc 0)) ∷ []; sense = Minimise; spans = span (pos 0) (pos 2) ∷ span (negsuc 0) (pos 3) ∷ [] }

one_is : solved one (row G (whole (negsuc 0)) ((0, whole (pos 2)) ∷ (1, whole (negsuc 1)) ∷ []) ∷ row G (whole (pos 1)) ((0, whole (pos 2)) ∷ []) ∷ []) one.spans ≡ done ((pos 1, 2) ∷ (negsuc 0, 2) ∷ []) ((1, negsuc 0, 3) ∷ (7, pos 1, 2) ∷ []) 5
unfolding gcd gcd_within frac ◌+ℚ◌ ◌*ℚ◌ neg_ℚ inv_ℚ add_fits add_checked mul_fits mul_checked compare
one_is = refl

abbrev two : Problem
two = record { names = codes "x" ∷ codes "x" ∷ codes "x" ∷ []; rows = row G (whole (negsuc 2)) ((0, whole (pos 1)) ∷ (1, whole (pos 1)) ∷ (2, whole (negsuc 0)) ∷ []) ∷ row G (whole (pos 4)) ((1, whole (negsuc 0)) ∷ (2, whole (negsuc 1)) ∷ []) ∷ row L (whole (negsuc 1)) ((0, whole (pos 1)) ∷ (1, whole (negsuc 0)) ∷ (2, whole (negsuc 0)) ∷ []) ∷ []; objective = (1, whole (pos 2)) ∷ (2, whole (negsuc 0)) ∷ []; sense = Minimise; spans = span (negsuc 1) (pos 2) ∷ span (negsuc 2) (negsuc 1) ∷ span (negsuc 0) (pos 3) ∷ [] }

two_is : solved two (row G (whole (negsuc 0)) ((0, whole (pos 1)) ∷ (2, whole (pos 1)) ∷ []) ∷ []) two.spans ≡ no_column ((1, pos 1, 1) ∷ (2, negsuc 1, 1) ∷ []) 5
unfolding gcd gcd_within frac ◌+ℚ◌ ◌*ℚ◌ neg_ℚ inv_ℚ add_fits add_checked mul_fits mul_checked compare
two_is = refl

abbrev three : Problem
three = record { names = codes "x" ∷ codes "x" ∷ codes "x" ∷ []; rows = row E (whole (negsuc 2)) ((0, whole (negsuc 1)) ∷ (1, whole (negsuc 2)) ∷ []) ∷ row L (whole (pos 3)) ((0, whole (pos 3)) ∷ (1, whole (negsuc 0)) ∷ (2, whole (negsuc 2)) ∷ []) ∷ row L (whole (pos 5)) ((0, whole (negsuc 2)) ∷ (2, whole (negsuc 1)) ∷ []) ∷ []; objective = (0, whole (negsuc 1)) ∷ (1, whole (negsuc 1)) ∷ (2, whole (pos 2)) ∷ []; sense = Minimise; spans = span (negsuc 0) (pos 3) ∷ span (pos 0) (pos 2) ∷ span (negsuc 2) (pos 1) ∷ [] }

three_is : solved three (row G (whole (pos 0)) ((0, whole (pos 1)) ∷ (1, whole (pos 2)) ∷ (2, whole (pos 1)) ∷ []) ∷ []) three.spans ≡ done ((negsuc 2, 7) ∷ (pos 9, 7) ∷ (negsuc 12, 7) ∷ []) ((0, pos 40, 49) ∷ (1, negsuc 21, 49) ∷ (2, negsuc 15, 49) ∷ []) 5
unfolding gcd gcd_within frac ◌+ℚ◌ ◌*ℚ◌ neg_ℚ inv_ℚ add_fits add_checked mul_fits mul_checked compare
three_is = refl

abbrev four : Problem
four = record { names = codes "x" ∷ codes "x" ∷ codes "x" ∷ []; rows = row L (whole (negsuc 1)) ((0, whole (pos 1)) ∷ (1, whole (pos 2)) ∷ (2, whole (pos 1)) ∷ []) ∷ row L (whole (pos 2)) ((0, whole (negsuc 2)) ∷ (1, whole (negsuc 2)) ∷ (2, whole (pos 1)) ∷ []) ∷ row E (whole (negsuc 3)) ((0, whole (pos 3)) ∷ (1, whole (negsuc 0)) ∷ (2, whole (negsuc 1)) ∷ []) ∷ []; objective = (0, whole (negsuc 1)) ∷ (1, whole (negsuc 2)) ∷ (2, whole (negsuc 1)) ∷ []; sense = Minimise; spans = span (pos 0) (pos 2) ∷ span (negsuc 2) (negsuc 1) ∷ span (pos 1) (pos 5) ∷ [] }

four_is : solved four (row G (whole (pos 1)) ((0, whole (negsuc 1)) ∷ (1, whole (pos 2)) ∷ (2, whole (pos 2)) ∷ []) ∷ row G (whole (negsuc 1)) ((0, whole (negsuc 1)) ∷ (1, whole (negsuc 1)) ∷ []) ∷ []) four.spans ≡ no_column ((0, negsuc 2, 5) ∷ (1, negsuc 1, 5) ∷ []) 5
unfolding gcd gcd_within frac ◌+ℚ◌ ◌*ℚ◌ neg_ℚ inv_ℚ add_fits add_checked mul_fits mul_checked compare
four_is = refl

abbrev eight : Problem
eight = record { names = codes "x" ∷ codes "x" ∷ []; rows = row L (whole (pos 5)) ((0, whole (pos 1)) ∷ (1, whole (pos 2)) ∷ []) ∷ row L (whole (pos 6)) ((0, whole (negsuc 0)) ∷ (1, whole (pos 3)) ∷ []) ∷ []; objective = (0, whole (negsuc 0)) ∷ (1, whole (negsuc 1)) ∷ []; sense = Minimise; spans = span (negsuc 1) (negsuc 0) ∷ span (pos 1) (pos 5) ∷ [] }

eight_is : solved eight (row G (whole (pos 3)) ((0, whole (negsuc 1)) ∷ (1, whole (pos 2)) ∷ []) ∷ row G (whole (pos 3)) ((0, whole (negsuc 1)) ∷ []) ∷ []) eight.spans ≡ done ((negsuc 2, 2) ∷ (pos 3, 2) ∷ []) ((1, negsuc 1, 3) ∷ (7, pos 5, 6) ∷ []) 5
unfolding gcd gcd_within frac ◌+ℚ◌ ◌*ℚ◌ neg_ℚ inv_ℚ add_fits add_checked mul_fits mul_checked compare
eight_is = refl
