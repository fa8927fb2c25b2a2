-- Separations that a literal reading of the rules gave, over exact fractions.
use Rattle.std.specs.Prelude.{◌≡◌, ℕ, ℤ, pos, negsuc, List, [], ◌∷◌, map, refl, Option, Some}
use Rattle.std.specs.Option.{option_map}
use Rattle.fraction.specs.Gcd.{gcd, gcd_within}
use Rattle.fraction.specs.Rational.{ℚ, whole, frac, floor, ceil, ◌+ℚ◌, ◌*ℚ◌, neg_ℚ, inv_ℚ}
use Rattle.fraction.specs.Checked.{add_fits, add_checked, mul_fits, mul_checked, compare}
use Rattle.problem_box.specs.declared.span.Span.{Span}
use Rattle.problem.specs.declared.row.Sense.{Sense}
use Rattle.problem.specs.declared.row.Sense.TheVariants.{G, L, E}
use Rattle.problem.specs.declared.row.Row.{Row}
use Rattle.problem.specs.Problem.{Problem}
use Rattle.derivation_book.specs.declared.cut.Cut.{Cut}
use Rattle.tableau.specs.Tableau.{Tableau}
use Rattle.tableau.specs.Multipliers.{point_of}
use Rattle.dual_simplex.specs.Answers.{linear_program, run}
use Rattle.gomory_cuts.specs.Separation.{separation}
use Rattle.problem.specs.declared.objective_sense.ObjectiveSense.TheVariants.{Minimise}

-- multipliers with their fractions as numerators and denominators
abbrev parts : List (ℕ × ℚ) → List (ℕ × ℤ × ℕ)
parts ms = map (λ (m : ℕ × ℚ). (m.0, m.1.num, m.1.den)) ms

-- cuts of these rows, whatever their multipliers
abbrev cuts_of : List Row → List Cut
cuts_of rows = map (λ (r : Row). record { row = r; mult = [] }) rows

-- what separates the point at the end of the run with all cuts over a box
abbrev separated : Problem → List Row → List Span → Option (List (List (ℕ × ℤ × ℕ)))
separated p rows box = option_map (λ (t : Tableau). map parts (separation p (cuts_of rows) t (point_of t))) (run (linear_program p (cuts_of rows) box)).tableau

abbrev row : Sense → ℚ → List (ℕ × ℚ) → Row
row sense rhs terms = record { sense = sense; rhs = rhs; terms = terms }

abbrev span : ℤ → ℤ → Span
span a b = record { lo = a; hi = b }

abbrev p1 : Problem
p1 = record { names = [] ∷ []; rows = row E (whole (negsuc 3)) ((0, whole (negsuc 2)) ∷ []) ∷ []; objective = (0, whole (negsuc 0)) ∷ []; sense = Minimise; spans = span (negsuc 2) (pos 2) ∷ [] }

p1_is : separated p1 (row G (whole (negsuc 2)) ((0, whole (negsuc 1)) ∷ []) ∷ []) (span (negsuc 1) (pos 2) ∷ []) ≡ Some (((0, pos 2, 3) ∷ []) ∷ ((0, negsuc 1, 3) ∷ []) ∷ [])
unfolding gcd gcd_within frac floor ceil ◌+ℚ◌ ◌*ℚ◌ neg_ℚ inv_ℚ add_fits add_checked mul_fits mul_checked compare
p1_is = refl

abbrev p3 : Problem
p3 = record { names = [] ∷ [] ∷ [] ∷ []; rows = row E (whole (pos 6)) ((0, whole (negsuc 2)) ∷ (2, whole (pos 2)) ∷ []) ∷ row L (whole (pos 0)) ((0, whole (pos 3)) ∷ (1, whole (negsuc 0)) ∷ []) ∷ row L (whole (pos 6)) ((0, whole (pos 1)) ∷ (1, whole (negsuc 1)) ∷ (2, whole (negsuc 1)) ∷ []) ∷ []; objective = (0, whole (negsuc 0)) ∷ (1, whole (pos 2)) ∷ []; sense = Minimise; spans = span (negsuc 0) (pos 3) ∷ span (negsuc 0) (pos 3) ∷ span (negsuc 1) (pos 3) ∷ [] }

p3_is : separated p3 (row G (whole (pos 2)) ((0, whole (negsuc 0)) ∷ (1, whole (pos 2)) ∷ (2, whole (pos 1)) ∷ []) ∷ row G (whole (negsuc 1)) ((0, whole (negsuc 1)) ∷ (2, whole (pos 2)) ∷ []) ∷ []) (span (negsuc 0) (pos 1) ∷ span (pos 1) (pos 3) ∷ span (pos 0) (pos 2) ∷ []) ≡ Some ([])
unfolding gcd gcd_within frac floor ceil ◌+ℚ◌ ◌*ℚ◌ neg_ℚ inv_ℚ add_fits add_checked mul_fits mul_checked compare
p3_is = refl

abbrev p9 : Problem
p9 = record { names = [] ∷ [] ∷ []; rows = row G (whole (negsuc 4)) ((0, whole (pos 2)) ∷ []) ∷ []; objective = (1, whole (pos 2)) ∷ []; sense = Minimise; spans = span (negsuc 4) (pos 0) ∷ span (pos 0) (pos 4) ∷ [] }

p9_is : separated p9 (row G (whole (pos 1)) ((0, whole (negsuc 1)) ∷ (1, whole (negsuc 1)) ∷ []) ∷ []) (span (negsuc 2) (negsuc 1) ∷ span (pos 0) (pos 2) ∷ []) ≡ Some (((0, pos 1, 2) ∷ []) ∷ [])
unfolding gcd gcd_within frac floor ceil ◌+ℚ◌ ◌*ℚ◌ neg_ℚ inv_ℚ add_fits add_checked mul_fits mul_checked compare
p9_is = refl

abbrev p14 : Problem
p14 = record { names = [] ∷ [] ∷ []; rows = row E (whole (negsuc 3)) ((0, whole (negsuc 2)) ∷ (1, whole (negsuc 1)) ∷ []) ∷ row L (whole (pos 4)) ((0, whole (pos 1)) ∷ (1, whole (pos 3)) ∷ []) ∷ row G (whole (negsuc 2)) ((0, whole (pos 3)) ∷ (1, whole (pos 3)) ∷ []) ∷ []; objective = (1, whole (negsuc 2)) ∷ []; sense = Minimise; spans = span (negsuc 0) (pos 1) ∷ span (pos 0) (pos 5) ∷ [] }

p14_is : separated p14 ([]) (span (pos 0) (pos 1) ∷ span (pos 0) (pos 4) ∷ []) ≡ Some (((0, pos 4, 7) ∷ (1, negsuc 1, 7) ∷ []) ∷ ((0, negsuc 3, 7) ∷ (1, negsuc 4, 7) ∷ []) ∷ ((0, pos 1, 7) ∷ (1, negsuc 3, 7) ∷ []) ∷ ((0, negsuc 0, 7) ∷ (1, negsuc 2, 7) ∷ []) ∷ [])
unfolding gcd gcd_within frac floor ceil ◌+ℚ◌ ◌*ℚ◌ neg_ℚ inv_ℚ add_fits add_checked mul_fits mul_checked compare
p14_is = refl

abbrev p24 : Problem
p24 = record { names = [] ∷ []; rows = row G (whole (pos 1)) ((0, whole (pos 3)) ∷ []) ∷ []; objective = (0, whole (pos 3)) ∷ []; sense = Minimise; spans = span (negsuc 2) (pos 2) ∷ [] }

p24_is : separated p24 (row G (whole (negsuc 2)) ((0, whole (pos 1)) ∷ []) ∷ row G (whole (negsuc 1)) ((0, whole (pos 2)) ∷ []) ∷ []) (span (negsuc 2) (pos 1) ∷ []) ≡ Some (((0, pos 1, 3) ∷ []) ∷ ((0, pos 2, 3) ∷ []) ∷ [])
unfolding gcd gcd_within frac floor ceil ◌+ℚ◌ ◌*ℚ◌ neg_ℚ inv_ℚ add_fits add_checked mul_fits mul_checked compare
p24_is = refl

abbrev p25 : Problem
p25 = record { names = [] ∷ [] ∷ [] ∷ []; rows = row E (whole (negsuc 0)) ((0, whole (pos 1)) ∷ (2, whole (pos 1)) ∷ []) ∷ row E (whole (negsuc 0)) ((0, whole (negsuc 1)) ∷ (1, whole (negsuc 2)) ∷ (2, whole (pos 2)) ∷ []) ∷ row L (whole (pos 5)) ((0, whole (negsuc 0)) ∷ (1, whole (pos 1)) ∷ (2, whole (negsuc 2)) ∷ []) ∷ []; objective = (1, whole (pos 2)) ∷ (2, whole (pos 2)) ∷ []; sense = Minimise; spans = span (pos 1) (pos 4) ∷ span (negsuc 1) (pos 0) ∷ span (negsuc 3) (negsuc 0) ∷ [] }

p25_is : separated p25 (row G (whole (negsuc 0)) ((1, whole (negsuc 0)) ∷ (2, whole (pos 1)) ∷ []) ∷ row G (whole (negsuc 2)) ((0, whole (negsuc 0)) ∷ (1, whole (pos 1)) ∷ (2, whole (negsuc 0)) ∷ []) ∷ []) (span (pos 1) (pos 2) ∷ span (negsuc 1) (negsuc 0) ∷ span (negsuc 1) (negsuc 1) ∷ []) ≡ Some ([])
unfolding gcd gcd_within frac floor ceil ◌+ℚ◌ ◌*ℚ◌ neg_ℚ inv_ℚ add_fits add_checked mul_fits mul_checked compare
p25_is = refl

abbrev p28 : Problem
p28 = record { names = [] ∷ [] ∷ [] ∷ []; rows = row L (whole (negsuc 1)) ((0, whole (negsuc 1)) ∷ (1, whole (pos 2)) ∷ (2, whole (pos 3)) ∷ []) ∷ []; objective = (0, whole (pos 1)) ∷ (1, whole (pos 1)) ∷ (2, whole (negsuc 2)) ∷ []; sense = Minimise; spans = span (pos 0) (pos 4) ∷ span (pos 2) (pos 2) ∷ span (negsuc 1) (pos 0) ∷ [] }

p28_is : separated p28 ([]) (span (pos 0) (pos 2) ∷ span (pos 2) (pos 2) ∷ span (negsuc 1) (pos 0) ∷ []) ≡ Some ([])
unfolding gcd gcd_within frac floor ceil ◌+ℚ◌ ◌*ℚ◌ neg_ℚ inv_ℚ add_fits add_checked mul_fits mul_checked compare
p28_is = refl

abbrev p36 : Problem
p36 = record { names = [] ∷ [] ∷ [] ∷ []; rows = row G (whole (pos 6)) ((0, whole (negsuc 2)) ∷ (1, whole (pos 1)) ∷ (2, whole (pos 1)) ∷ []) ∷ row G (whole (negsuc 1)) ((0, whole (negsuc 2)) ∷ (1, whole (negsuc 2)) ∷ []) ∷ row G (whole (pos 4)) ((0, whole (negsuc 2)) ∷ (1, whole (pos 1)) ∷ (2, whole (negsuc 1)) ∷ []) ∷ []; objective = (0, whole (negsuc 0)) ∷ (1, whole (negsuc 2)) ∷ (2, whole (negsuc 0)) ∷ []; sense = Minimise; spans = span (negsuc 2) (pos 0) ∷ span (negsuc 0) (pos 1) ∷ span (negsuc 0) (pos 4) ∷ [] }

p36_is : separated p36 (row G (whole (pos 0)) ((1, whole (pos 2)) ∷ (2, whole (negsuc 1)) ∷ []) ∷ row G (whole (pos 1)) ((0, whole (negsuc 1)) ∷ (1, whole (negsuc 1)) ∷ (2, whole (pos 2)) ∷ []) ∷ []) (span (negsuc 1) (pos 0) ∷ span (negsuc 0) (pos 1) ∷ span (pos 0) (pos 2) ∷ []) ≡ Some (((2, pos 2, 3) ∷ (6, negsuc 0, 3) ∷ (9, pos 1, 3) ∷ []) ∷ ((2, pos 1, 3) ∷ (6, negsuc 1, 3) ∷ (9, pos 2, 3) ∷ []) ∷ [])
unfolding gcd gcd_within frac floor ceil ◌+ℚ◌ ◌*ℚ◌ neg_ℚ inv_ℚ add_fits add_checked mul_fits mul_checked compare
p36_is = refl

abbrev p41 : Problem
p41 = record { names = [] ∷ [] ∷ [] ∷ []; rows = row E (whole (negsuc 2)) ((0, whole (negsuc 2)) ∷ (2, whole (pos 3)) ∷ []) ∷ row L (whole (pos 3)) ((1, whole (negsuc 2)) ∷ (2, whole (negsuc 1)) ∷ []) ∷ []; objective = (0, whole (pos 2)) ∷ (1, whole (negsuc 1)) ∷ (2, whole (pos 1)) ∷ []; sense = Minimise; spans = span (negsuc 3) (pos 3) ∷ span (negsuc 1) (pos 0) ∷ span (negsuc 1) (pos 2) ∷ [] }

p41_is : separated p41 (row G (whole (pos 1)) ((1, whole (pos 2)) ∷ (2, whole (negsuc 0)) ∷ []) ∷ row G (whole (negsuc 1)) ((0, whole (pos 1)) ∷ (1, whole (pos 1)) ∷ []) ∷ []) (span (negsuc 2) (pos 1) ∷ span (pos 0) (pos 0) ∷ span (negsuc 1) (pos 2) ∷ []) ≡ Some (((0, pos 2, 3) ∷ (1, negsuc 0, 2) ∷ (5, negsuc 0, 2) ∷ []) ∷ ((0, negsuc 1, 3) ∷ (1, negsuc 0, 2) ∷ (5, negsuc 0, 2) ∷ []) ∷ ((1, negsuc 0, 2) ∷ (5, negsuc 0, 2) ∷ []) ∷ [])
unfolding gcd gcd_within frac floor ceil ◌+ℚ◌ ◌*ℚ◌ neg_ℚ inv_ℚ add_fits add_checked mul_fits mul_checked compare
p41_is = refl

abbrev p49 : Problem
p49 = record { names = [] ∷ [] ∷ [] ∷ []; rows = row G (whole (negsuc 4)) ((0, whole (pos 2)) ∷ (1, whole (pos 3)) ∷ []) ∷ row G (whole (pos 3)) ((0, whole (negsuc 0)) ∷ (1, whole (negsuc 1)) ∷ (2, whole (negsuc 0)) ∷ []) ∷ row G (whole (negsuc 3)) ((0, whole (negsuc 0)) ∷ (2, whole (pos 2)) ∷ []) ∷ []; objective = (0, whole (negsuc 1)) ∷ (1, whole (negsuc 0)) ∷ (2, whole (pos 1)) ∷ []; sense = Minimise; spans = span (negsuc 3) (pos 0) ∷ span (negsuc 0) (pos 2) ∷ span (negsuc 2) (pos 0) ∷ [] }

p49_is : separated p49 (row G (whole (pos 1)) ((0, whole (negsuc 0)) ∷ (1, whole (negsuc 0)) ∷ (2, whole (pos 2)) ∷ []) ∷ []) (span (negsuc 1) (negsuc 1) ∷ span (negsuc 0) (pos 0) ∷ span (negsuc 1) (pos 0) ∷ []) ≡ Some (((1, pos 1, 5) ∷ (4, negsuc 0, 5) ∷ (9, pos 3, 5) ∷ []) ∷ [])
unfolding gcd gcd_within frac floor ceil ◌+ℚ◌ ◌*ℚ◌ neg_ℚ inv_ℚ add_fits add_checked mul_fits mul_checked compare
p49_is = refl

abbrev p62 : Problem
p62 = record { names = [] ∷ [] ∷ [] ∷ []; rows = row L (whole (pos 2)) ((0, whole (negsuc 1)) ∷ (1, whole (negsuc 1)) ∷ []) ∷ row L (whole (negsuc 0)) ((0, whole (negsuc 0)) ∷ (1, whole (negsuc 1)) ∷ (2, whole (negsuc 2)) ∷ []) ∷ row G (whole (negsuc 3)) ((0, whole (negsuc 2)) ∷ (2, whole (pos 1)) ∷ []) ∷ []; objective = (0, whole (pos 3)) ∷ (1, whole (pos 1)) ∷ (2, whole (negsuc 2)) ∷ []; sense = Minimise; spans = span (negsuc 1) (pos 0) ∷ span (negsuc 0) (pos 2) ∷ span (negsuc 1) (pos 0) ∷ [] }

p62_is : separated p62 (row G (whole (negsuc 1)) ((1, whole (negsuc 0)) ∷ (2, whole (negsuc 0)) ∷ []) ∷ []) (span (negsuc 1) (negsuc 0) ∷ span (pos 1) (pos 2) ∷ span (negsuc 1) (pos 0) ∷ []) ≡ Some (((1, negsuc 0, 2) ∷ (3, pos 1, 2) ∷ (8, negsuc 0, 2) ∷ []) ∷ [])
unfolding gcd gcd_within frac floor ceil ◌+ℚ◌ ◌*ℚ◌ neg_ℚ inv_ℚ add_fits add_checked mul_fits mul_checked compare
p62_is = refl

abbrev p63 : Problem
p63 = record { names = [] ∷ [] ∷ [] ∷ []; rows = row E (whole (negsuc 4)) ((0, whole (negsuc 2)) ∷ (1, whole (negsuc 1)) ∷ (2, whole (pos 3)) ∷ []) ∷ []; objective = (1, whole (pos 1)) ∷ []; sense = Minimise; spans = span (pos 1) (pos 4) ∷ span (negsuc 2) (pos 3) ∷ span (pos 1) (pos 7) ∷ [] }

p63_is : separated p63 ([]) (span (pos 2) (pos 4) ∷ span (negsuc 2) (pos 1) ∷ span (pos 2) (pos 6) ∷ []) ≡ Some ([])
unfolding gcd gcd_within frac floor ceil ◌+ℚ◌ ◌*ℚ◌ neg_ℚ inv_ℚ add_fits add_checked mul_fits mul_checked compare
p63_is = refl

abbrev p71 : Problem
p71 = record { names = [] ∷ [] ∷ []; rows = row E (whole (negsuc 0)) ((0, whole (negsuc 1)) ∷ (1, whole (pos 3)) ∷ []) ∷ row G (whole (negsuc 3)) ((0, whole (negsuc 0)) ∷ (1, whole (negsuc 0)) ∷ []) ∷ []; objective = (0, whole (pos 1)) ∷ (1, whole (pos 2)) ∷ []; sense = Minimise; spans = span (pos 1) (pos 3) ∷ span (pos 0) (pos 2) ∷ [] }

p71_is : separated p71 (row G (whole (pos 3)) ((0, whole (pos 2)) ∷ []) ∷ row G (whole (negsuc 1)) ((0, whole (pos 1)) ∷ (1, whole (negsuc 1)) ∷ []) ∷ []) (span (pos 1) (pos 2) ∷ span (pos 0) (pos 2) ∷ []) ≡ Some (((6, pos 1, 2) ∷ []) ∷ ((0, pos 1, 3) ∷ (6, pos 1, 3) ∷ []) ∷ ((0, negsuc 0, 3) ∷ (6, pos 2, 3) ∷ []) ∷ [])
unfolding gcd gcd_within frac floor ceil ◌+ℚ◌ ◌*ℚ◌ neg_ℚ inv_ℚ add_fits add_checked mul_fits mul_checked compare
p71_is = refl

abbrev p79 : Problem
p79 = record { names = [] ∷ [] ∷ [] ∷ []; rows = row L (whole (negsuc 4)) ((0, whole (pos 2)) ∷ (1, whole (negsuc 2)) ∷ (2, whole (negsuc 0)) ∷ []) ∷ row G (whole (negsuc 1)) ((0, whole (negsuc 0)) ∷ (1, whole (pos 3)) ∷ (2, whole (pos 1)) ∷ []) ∷ row L (whole (negsuc 4)) ((0, whole (negsuc 2)) ∷ (2, whole (negsuc 1)) ∷ []) ∷ []; objective = (0, whole (negsuc 0)) ∷ (1, whole (pos 1)) ∷ (2, whole (pos 2)) ∷ []; sense = Minimise; spans = span (negsuc 1) (pos 2) ∷ span (pos 0) (pos 2) ∷ span (pos 2) (pos 6) ∷ [] }

p79_is : separated p79 (row G (whole (pos 1)) ((0, whole (negsuc 1)) ∷ (2, whole (pos 1)) ∷ []) ∷ row G (whole (pos 3)) ((0, whole (pos 2)) ∷ (1, whole (pos 1)) ∷ (2, whole (pos 2)) ∷ []) ∷ []) (span (negsuc 0) (pos 1) ∷ span (pos 0) (pos 2) ∷ span (pos 2) (pos 6) ∷ []) ≡ Some (((7, pos 1, 2) ∷ (9, pos 1, 2) ∷ []) ∷ ((0, negsuc 0, 3) ∷ (9, pos 2, 3) ∷ []) ∷ ((0, negsuc 1, 3) ∷ (9, pos 1, 3) ∷ []) ∷ [])
unfolding gcd gcd_within frac floor ceil ◌+ℚ◌ ◌*ℚ◌ neg_ℚ inv_ℚ add_fits add_checked mul_fits mul_checked compare
p79_is = refl

abbrev p89 : Problem
p89 = record { names = [] ∷ [] ∷ []; rows = row L (whole (pos 3)) ((0, whole (pos 2)) ∷ (1, whole (pos 3)) ∷ []) ∷ row G (whole (pos 0)) ((0, whole (pos 1)) ∷ (1, whole (pos 3)) ∷ []) ∷ []; objective = (0, whole (pos 3)) ∷ (1, whole (pos 2)) ∷ []; sense = Minimise; spans = span (pos 1) (pos 7) ∷ span (negsuc 2) (pos 4) ∷ [] }

p89_is : separated p89 ([]) (span (pos 2) (pos 6) ∷ span (negsuc 0) (pos 3) ∷ []) ≡ Some (((1, pos 2, 3) ∷ (2, pos 1, 3) ∷ []) ∷ [])
unfolding gcd gcd_within frac floor ceil ◌+ℚ◌ ◌*ℚ◌ neg_ℚ inv_ℚ add_fits add_checked mul_fits mul_checked compare
p89_is = refl

abbrev p92 : Problem
p92 = record { names = [] ∷ [] ∷ []; rows = row G (whole (pos 3)) ((0, whole (pos 2)) ∷ (1, whole (negsuc 0)) ∷ []) ∷ row L (whole (pos 2)) ((0, whole (pos 1)) ∷ (1, whole (pos 3)) ∷ []) ∷ []; objective = (1, whole (negsuc 0)) ∷ []; sense = Minimise; spans = span (negsuc 2) (pos 4) ∷ span (pos 0) (pos 2) ∷ [] }

p92_is : separated p92 (row G (whole (negsuc 1)) ((1, whole (negsuc 0)) ∷ []) ∷ []) (span (negsuc 1) (pos 2) ∷ span (pos 0) (pos 1) ∷ []) ≡ Some (((0, pos 3, 7) ∷ (1, negsuc 5, 7) ∷ []) ∷ ((0, pos 4, 7) ∷ (1, negsuc 0, 7) ∷ []) ∷ ((0, pos 6, 7) ∷ (1, negsuc 4, 7) ∷ []) ∷ ((0, pos 1, 7) ∷ (1, negsuc 1, 7) ∷ []) ∷ [])
unfolding gcd gcd_within frac floor ceil ◌+ℚ◌ ◌*ℚ◌ neg_ℚ inv_ℚ add_fits add_checked mul_fits mul_checked compare
p92_is = refl

abbrev p103 : Problem
p103 = record { names = [] ∷ [] ∷ [] ∷ []; rows = row E (whole (negsuc 1)) ((0, whole (negsuc 0)) ∷ (1, whole (pos 1)) ∷ (2, whole (pos 2)) ∷ []) ∷ row L (whole (negsuc 4)) ((0, whole (negsuc 2)) ∷ (1, whole (negsuc 2)) ∷ (2, whole (pos 2)) ∷ []) ∷ row G (whole (negsuc 2)) ((0, whole (pos 3)) ∷ (1, whole (negsuc 1)) ∷ (2, whole (negsuc 2)) ∷ []) ∷ []; objective = (0, whole (pos 3)) ∷ (1, whole (negsuc 0)) ∷ (2, whole (negsuc 1)) ∷ []; sense = Minimise; spans = span (pos 0) (pos 4) ∷ span (negsuc 1) (pos 0) ∷ span (negsuc 0) (pos 3) ∷ [] }

p103_is : separated p103 (row G (whole (negsuc 0)) ((0, whole (negsuc 0)) ∷ (1, whole (negsuc 1)) ∷ (2, whole (pos 1)) ∷ []) ∷ row G (whole (negsuc 0)) ((0, whole (pos 1)) ∷ (1, whole (pos 1)) ∷ (2, whole (negsuc 1)) ∷ []) ∷ []) (span (pos 2) (pos 3) ∷ span (negsuc 1) (pos 0) ∷ span (negsuc 0) (pos 3) ∷ []) ≡ Some (((0, pos 1, 6) ∷ (1, negsuc 4, 6) ∷ (9, pos 1, 3) ∷ []) ∷ ((0, negsuc 0, 6) ∷ (1, negsuc 0, 6) ∷ (9, pos 2, 3) ∷ []) ∷ ((0, pos 1, 2) ∷ (1, negsuc 0, 2) ∷ []) ∷ ((0, negsuc 0, 2) ∷ (1, negsuc 0, 2) ∷ []) ∷ [])
unfolding gcd gcd_within frac floor ceil ◌+ℚ◌ ◌*ℚ◌ neg_ℚ inv_ℚ add_fits add_checked mul_fits mul_checked compare
p103_is = refl

abbrev p109 : Problem
p109 = record { names = [] ∷ [] ∷ [] ∷ []; rows = row L (whole (pos 3)) ((0, whole (pos 1)) ∷ (1, whole (negsuc 1)) ∷ (2, whole (pos 3)) ∷ []) ∷ row L (whole (negsuc 0)) ((0, whole (negsuc 2)) ∷ (1, whole (negsuc 0)) ∷ (2, whole (pos 3)) ∷ []) ∷ row L (whole (pos 6)) ((0, whole (negsuc 0)) ∷ (1, whole (negsuc 1)) ∷ (2, whole (negsuc 1)) ∷ []) ∷ []; objective = (0, whole (pos 3)) ∷ (1, whole (pos 2)) ∷ (2, whole (pos 2)) ∷ []; sense = Minimise; spans = span (negsuc 4) (pos 2) ∷ span (negsuc 2) (pos 0) ∷ span (negsuc 1) (negsuc 0) ∷ [] }

p109_is : separated p109 (row G (whole (negsuc 0)) ((0, whole (pos 1)) ∷ (1, whole (negsuc 0)) ∷ []) ∷ []) (span (negsuc 2) (pos 1) ∷ span (negsuc 2) (negsuc 0) ∷ span (negsuc 1) (negsuc 0) ∷ []) ≡ Some (((1, negsuc 6, 9) ∷ (2, negsuc 1, 3) ∷ (6, negsuc 0, 9) ∷ []) ∷ ((1, negsuc 0, 9) ∷ (2, negsuc 1, 3) ∷ (6, negsuc 3, 9) ∷ []) ∷ [])
unfolding gcd gcd_within frac floor ceil ◌+ℚ◌ ◌*ℚ◌ neg_ℚ inv_ℚ add_fits add_checked mul_fits mul_checked compare
p109_is = refl

abbrev p110 : Problem
p110 = record { names = [] ∷ [] ∷ []; rows = row L (whole (pos 0)) ((0, whole (pos 2)) ∷ (1, whole (pos 3)) ∷ []) ∷ row L (whole (pos 2)) ((0, whole (pos 2)) ∷ (1, whole (pos 3)) ∷ []) ∷ row G (whole (pos 3)) ((1, whole (pos 2)) ∷ []) ∷ []; objective = (0, whole (negsuc 1)) ∷ (1, whole (pos 1)) ∷ []; sense = Minimise; spans = span (negsuc 2) (pos 0) ∷ span (pos 1) (pos 2) ∷ [] }

p110_is : separated p110 ([]) (span (negsuc 2) (negsuc 0) ∷ span (pos 1) (pos 2) ∷ []) ≡ Some (((0, negsuc 0, 2) ∷ (2, pos 1, 4) ∷ []) ∷ ((0, negsuc 0, 2) ∷ (2, pos 3, 4) ∷ []) ∷ ((2, pos 1, 2) ∷ []) ∷ [])
unfolding gcd gcd_within frac floor ceil ◌+ℚ◌ ◌*ℚ◌ neg_ℚ inv_ℚ add_fits add_checked mul_fits mul_checked compare
p110_is = refl

abbrev p118 : Problem
p118 = record { names = [] ∷ [] ∷ [] ∷ []; rows = row G (whole (pos 5)) ((0, whole (negsuc 0)) ∷ (1, whole (pos 2)) ∷ (2, whole (pos 3)) ∷ []) ∷ row L (whole (negsuc 2)) ((0, whole (pos 2)) ∷ (2, whole (pos 1)) ∷ []) ∷ row L (whole (pos 5)) ((0, whole (negsuc 2)) ∷ (1, whole (pos 1)) ∷ (2, whole (pos 3)) ∷ []) ∷ []; objective = (0, whole (negsuc 2)) ∷ (2, whole (negsuc 2)) ∷ []; sense = Minimise; spans = span (negsuc 2) (pos 0) ∷ span (pos 1) (pos 6) ∷ span (negsuc 2) (pos 1) ∷ [] }

p118_is : separated p118 (row G (whole (pos 0)) ((0, whole (negsuc 0)) ∷ (1, whole (pos 1)) ∷ (2, whole (pos 1)) ∷ []) ∷ []) (span (negsuc 2) (negsuc 0) ∷ span (pos 1) (pos 5) ∷ span (negsuc 1) (pos 0) ∷ []) ≡ Some (((0, pos 1, 11) ∷ (1, negsuc 7, 11) ∷ (2, negsuc 1, 11) ∷ []) ∷ ((0, pos 10, 11) ∷ (1, negsuc 2, 11) ∷ (2, negsuc 8, 11) ∷ []) ∷ ((0, pos 9, 11) ∷ (1, negsuc 5, 11) ∷ (2, negsuc 6, 11) ∷ []) ∷ ((0, pos 2, 11) ∷ (1, negsuc 4, 11) ∷ (2, negsuc 3, 11) ∷ []) ∷ [])
unfolding gcd gcd_within frac floor ceil ◌+ℚ◌ ◌*ℚ◌ neg_ℚ inv_ℚ add_fits add_checked mul_fits mul_checked compare
p118_is = refl
