-- Relaxations whose answers and numbers of pivots a literal reading of the run over exact fractions gave, outside of this crate.
use Rattle.std.specs.Prelude.{◌≡◌, ℕ, pos, negsuc, List, [], ◌∷◌, refl}
use Rattle.fraction.specs.Gcd.{gcd, gcd_within}
use Rattle.fraction.specs.Rational.{ℚ, whole, frac, ◌+ℚ◌, ◌*ℚ◌, neg_ℚ, inv_ℚ}
use Rattle.fraction.specs.Checked.{add_fits, add_checked, mul_fits, mul_checked, compare}
use Rattle.problem_box.specs.declared.span.Span.{Span}
use Rattle.problem.specs.declared.row.Sense.TheVariants.{G, L, E}
use Rattle.problem.specs.declared.row.Row.{Row}
use Rattle.problem.specs.Problem.{Problem}
use Rattle.derivation_book.specs.declared.cut.Cut.{Cut}
use Rattle.dual_simplex.specs.Answers.{linear_program, run, answer}
use Rattle.dual_simplex.proofs.Showing.{Shown, no_point, best_point, broken_off, shown, row, span}
use Rattle.problem.specs.declared.objective_sense.ObjectiveSense.TheVariants.{Minimise}

abbrev cut : ℚ → List (ℕ × ℚ) → Cut
cut rhs terms = record { row = row G rhs terms; mult = [] }

abbrev problem : List Row → List (ℕ × ℚ) → List Span → Problem
problem rows objective box = record { names = []; rows = rows; objective = objective; sense = Minimise; spans = box }

-- the number of pivots and the answer
abbrev ended : List Row → List (ℕ × ℚ) → List Span → List Cut → ℕ × Shown
ended rows objective box cuts = ((run (linear_program (problem rows objective box) cuts box)).pivots, shown (answer (problem rows objective box) cuts box))

program_0 : ended
    []
    []
    (span (pos 1) (pos 5) ∷ span (pos 0) (pos 1) ∷ span (negsuc 1) (pos 2) ∷ [])
    (cut (whole (negsuc 5)) ((0, whole (negsuc 0)) ∷ (1, whole (pos 2)) ∷ (2, whole (pos 3)) ∷ []) ∷ [])
    ≡ (1, best_point ((pos 1, 1) ∷ (pos 1, 2) ∷ (negsuc 1, 1) ∷ []) [] (pos 0, 1))
unfolding gcd gcd_within frac ◌+ℚ◌ ◌*ℚ◌ neg_ℚ inv_ℚ add_fits add_checked mul_fits mul_checked compare
program_0 = refl

program_1 : ended
    (row L (whole (pos 4)) ((0, frac (pos 4) 3) ∷ (1, whole (negsuc 1)) ∷ (2, whole (pos 4)) ∷ [])
    ∷ row E (whole (pos 6)) ((0, whole (pos 4)) ∷ (1, whole (pos 2)) ∷ (2, whole (pos 3)) ∷ []) ∷ [])
    ((0, frac (pos 1) 2) ∷ (1, whole (pos 1)) ∷ (2, frac (pos 4) 3) ∷ [])
    (span (pos 1) (pos 5) ∷ span (negsuc 0) (pos 2) ∷ span (pos 1) (pos 1) ∷ [])
    (cut (whole (pos 3)) ((0, whole (pos 1)) ∷ (1, whole (negsuc 1)) ∷ (2, whole (pos 1)) ∷ []) ∷ [])
    ≡ (1, no_point ((0, negsuc 0, 1) ∷ (1, negsuc 0, 1) ∷ []))
unfolding gcd gcd_within frac ◌+ℚ◌ ◌*ℚ◌ neg_ℚ inv_ℚ add_fits add_checked mul_fits mul_checked compare
program_1 = refl

program_2 : ended
    []
    ((0, whole (negsuc 1)) ∷ (1, frac (negsuc 0) 2) ∷ [])
    (span (pos 0) (pos 2) ∷ span (pos 2) (pos 4) ∷ [])
    (cut (whole (negsuc 4)) ((0, whole (negsuc 1)) ∷ (1, whole (negsuc 2)) ∷ []) ∷ [])
    ≡ (2, no_point ((4, pos 1, 2) ∷ []))
unfolding gcd gcd_within frac ◌+ℚ◌ ◌*ℚ◌ neg_ℚ inv_ℚ add_fits add_checked mul_fits mul_checked compare
program_2 = refl

program_3 : ended
    (row G (whole (pos 3)) ((0, whole (negsuc 1)) ∷ (1, frac (pos 2) 3) ∷ (2, frac (pos 4) 3) ∷ []) ∷ [])
    []
    (span (negsuc 0) (pos 3) ∷ span (pos 0) (pos 4) ∷ span (negsuc 1) (pos 2) ∷ [])
    []
    ≡ (2, best_point ((negsuc 0, 1) ∷ (pos 4, 1) ∷ (negsuc 4, 4) ∷ []) [] (pos 0, 1))
unfolding gcd gcd_within frac ◌+ℚ◌ ◌*ℚ◌ neg_ℚ inv_ℚ add_fits add_checked mul_fits mul_checked compare
program_3 = refl

program_4 : ended
    []
    ((0, frac (negsuc 1) 3) ∷ (1, whole (pos 4)) ∷ [])
    (span (negsuc 2) (pos 1) ∷ span (negsuc 0) (pos 2) ∷ [])
    (cut (whole (pos 1)) ((0, whole (negsuc 2)) ∷ []) ∷ cut (whole (negsuc 1)) ((0, whole (pos 1)) ∷ (1, whole (pos 2)) ∷ []) ∷ [])
    ≡ (2, best_point ((negsuc 0, 3) ∷ (negsuc 4, 6) ∷ []) ((4, pos 8, 9) ∷ (5, pos 2, 1) ∷ []) (negsuc 27, 9))
unfolding gcd gcd_within frac ◌+ℚ◌ ◌*ℚ◌ neg_ℚ inv_ℚ add_fits add_checked mul_fits mul_checked compare
program_4 = refl

program_5 : ended
    (row E (whole (negsuc 1)) ((0, whole (negsuc 1)) ∷ []) ∷ [])
    ((0, frac (pos 4) 3) ∷ [])
    (span (pos 1) (pos 5) ∷ [])
    (cut (whole (negsuc 2)) ((0, whole (negsuc 2)) ∷ []) ∷ [])
    ≡ (0, best_point ((pos 1, 1) ∷ []) [] (pos 4, 3))
unfolding gcd gcd_within frac ◌+ℚ◌ ◌*ℚ◌ neg_ℚ inv_ℚ add_fits add_checked mul_fits mul_checked compare
program_5 = refl

program_6 : ended
    (row G (whole (negsuc 1)) ((0, whole (pos 1)) ∷ (1, frac (negsuc 3) 3) ∷ (2, frac (pos 2) 3) ∷ [])
    ∷ row L (whole (pos 0)) ((0, frac (negsuc 3) 3) ∷ (1, whole (negsuc 3)) ∷ (2, frac (pos 3) 2) ∷ [])
    ∷ row G (whole (negsuc 1)) ((0, frac (pos 1) 2) ∷ (1, whole (pos 1)) ∷ (2, whole (negsuc 3)) ∷ []) ∷ [])
    ((0, frac (pos 3) 2) ∷ (2, whole (negsuc 1)) ∷ [])
    (span (pos 1) (pos 4) ∷ span (pos 2) (pos 5) ∷ span (pos 2) (pos 6) ∷ [])
    []
    ≡ (4, best_point ((pos 14, 5) ∷ (pos 23, 5) ∷ (pos 2, 1) ∷ []) ((0, pos 9, 10) ∷ (2, pos 6, 5) ∷ []) (pos 1, 5))
unfolding gcd gcd_within frac ◌+ℚ◌ ◌*ℚ◌ neg_ℚ inv_ℚ add_fits add_checked mul_fits mul_checked compare
program_6 = refl

program_7 : ended
    (row L (whole (negsuc 0)) ((0, whole (negsuc 0)) ∷ (1, frac (negsuc 0) 3) ∷ (2, whole (pos 1)) ∷ [])
    ∷ row L (whole (pos 3)) ((0, whole (negsuc 0)) ∷ (1, whole (negsuc 0)) ∷ (2, whole (negsuc 2)) ∷ [])
    ∷ row E (whole (negsuc 2)) ((0, frac (pos 2) 3) ∷ (1, whole (negsuc 0)) ∷ (2, whole (pos 3)) ∷ []) ∷ [])
    ((0, whole (pos 2)) ∷ (1, whole (pos 3)) ∷ (2, whole (pos 2)) ∷ [])
    (span (pos 2) (pos 2) ∷ span (negsuc 1) (pos 2) ∷ span (negsuc 2) (pos 0) ∷ [])
    (cut (whole (pos 0)) ((0, whole (negsuc 1)) ∷ (1, whole (pos 2)) ∷ (2, whole (pos 2)) ∷ [])
    ∷ cut (whole (negsuc 5)) ((0, whole (negsuc 0)) ∷ (1, whole (pos 2)) ∷ (2, whole (negsuc 0)) ∷ []) ∷ [])
    ≡ (3, no_point ((2, negsuc 0, 4) ∷ (9, pos 3, 8) ∷ []))
unfolding gcd gcd_within frac ◌+ℚ◌ ◌*ℚ◌ neg_ℚ inv_ℚ add_fits add_checked mul_fits mul_checked compare
program_7 = refl

program_8 : ended
    (row L (frac (pos 3220972571) 5000000) ((0, frac (negsuc 1042446222) 5000000) ∷ (1, frac (pos 5841286621) 10000000) ∷ (2, frac (pos 1391173743) 5000000) ∷ [])
    ∷ row L (frac (negsuc 3479640768) 10000000) ((0, frac (negsuc 311957920) 625000) ∷ (1, frac (pos 2183191333) 10000000) ∷ (2, frac (pos 19989381) 312500) ∷ [])
    ∷ row G (frac (pos 6021745969) 10000000) ((0, frac (pos 3958929731) 5000000) ∷ (1, frac (pos 75582662) 78125) ∷ (2, frac (pos 397222601) 10000000) ∷ [])
    ∷ [])
    ((0, frac (pos 1573432603) 2000000) ∷ (1, frac (pos 9074243589) 10000000) ∷ (2, frac (negsuc 2912801160) 10000000) ∷ [])
    (span (negsuc 551) (pos 1002) ∷ span (negsuc 630) (pos 661) ∷ span (negsuc 914) (pos 50) ∷ [])
    (cut (whole (pos 308071)) ((0, whole (pos 86847)) ∷ (1, whole (negsuc 932720)) ∷ (2, whole (negsuc 228174)) ∷ []) ∷ [])
    ≡ (2, broken_off 2)
unfolding gcd gcd_within frac ◌+ℚ◌ ◌*ℚ◌ neg_ℚ inv_ℚ add_fits add_checked mul_fits mul_checked compare
program_8 = refl

program_9 : ended
    (row G (frac (negsuc 4976472) 15625) ((0, frac (negsuc 24405212) 40000) ∷ [])
    ∷ row E (frac (negsuc 36547646) 62500) ((0, frac (pos 177509827) 1000000) ∷ []) ∷ [])
    ((0, frac (negsuc 115428248) 125000) ∷ [])
    (span (negsuc 149) (pos 802) ∷ [])
    []
    ≡ (2, best_point ((negsuc 584762351, 177509827) ∷ []) ((1, negsuc 923425991, 177509827) ∷ []) (pos 8437261796560206, 2773591046875))
unfolding gcd gcd_within frac ◌+ℚ◌ ◌*ℚ◌ neg_ℚ inv_ℚ add_fits add_checked mul_fits mul_checked compare
program_9 = refl

program_10 : ended
    (row G (frac (negsuc 2834656370) 3125000) ((0, frac (pos 9413691311) 10000000) ∷ (1, frac (pos 54725897571) 100000000) ∷ (2, frac (pos 81378498157) 100000000) ∷ [])
    ∷ row G (frac (pos 5013337363) 50000000) ((0, frac (pos 909777277) 50000000) ∷ (1, frac (negsuc 15472788) 100000) ∷ (2, frac (pos 12673185453) 50000000) ∷ [])
    ∷ row L (frac (negsuc 81604039988) 100000000) ((0, frac (pos 27637530563) 100000000) ∷ (1, frac (negsuc 25861138836) 50000000) ∷ (2, frac (negsuc 8255681322) 20000000) ∷ [])
    ∷ [])
    ((0, frac (pos 4916198513) 20000000) ∷ (1, frac (pos 2565063183) 12500000) ∷ (2, frac (pos 4401525209) 5000000) ∷ [])
    (span (negsuc 159) (pos 187) ∷ span (negsuc 907) (negsuc 839) ∷ span (pos 62) (pos 1219) ∷ [])
    (cut (whole (pos 972333)) ((0, whole (negsuc 864357)) ∷ (1, whole (pos 757692)) ∷ (2, whole (pos 86869)) ∷ []) ∷ [])
    ≡ (3, broken_off 3)
unfolding gcd gcd_within frac ◌+ℚ◌ ◌*ℚ◌ neg_ℚ inv_ℚ add_fits add_checked mul_fits mul_checked compare
program_10 = refl

program_11 : ended
    (row G (frac (pos 241411822409) 2500000000) ((0, frac (negsuc 345921651102) 500000000) ∷ (1, frac (pos 1009730323053) 10000000000) ∷ [])
    ∷ row G (frac (pos 2221382186343) 2500000000) ((0, frac (pos 6591810787183) 10000000000) ∷ (1, frac (negsuc 296614951596) 10000000000) ∷ [])
    ∷ row G (frac (negsuc 8311009365556) 10000000000) ((0, frac (negsuc 2966116587612) 10000000000) ∷ (1, frac (pos 2078998327) 312500000) ∷ [])
    ∷ row L (frac (negsuc 6530158070236) 10000000000) ((0, frac (pos 299779439781) 625000000) ∷ (1, frac (pos 522832855227) 5000000000) ∷ []) ∷ [])
    ((0, frac (pos 478343999421) 500000000) ∷ (1, frac (pos 5556493175173) 10000000000) ∷ [])
    (span (negsuc 706) (pos 965) ∷ span (negsuc 961) (pos 528) ∷ [])
    []
    ≡ (1, broken_off 1)
unfolding gcd gcd_within frac ◌+ℚ◌ ◌*ℚ◌ neg_ℚ inv_ℚ add_fits add_checked mul_fits mul_checked compare
program_11 = refl
