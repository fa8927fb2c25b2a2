-- Relaxations whose answers were worked out by hand.
use Rattle.std.specs.Prelude.{◌≡◌, ℕ, pos, negsuc, List, [], ◌∷◌, refl, codes}
use Rattle.fraction.specs.Gcd.{gcd, gcd_within}
use Rattle.fraction.specs.Rational.{ℚ, whole, frac, ◌+ℚ◌, ◌*ℚ◌, neg_ℚ, inv_ℚ}
use Rattle.fraction.specs.Checked.{add_fits, add_checked, mul_fits, mul_checked, compare}
use Rattle.problem.specs.declared.row.Sense.TheVariants.{G, L, E}
use Rattle.problem.specs.Problem.{Problem}
use Rattle.derivation_book.specs.declared.cut.Cut.{Cut}
use Rattle.dual_simplex.specs.Answers.{answer}
use Rattle.dual_simplex.proofs.Showing.{no_point, best_point, shown, row, span}
use Rattle.problem.specs.declared.objective_sense.ObjectiveSense.TheVariants.{Minimise}

abbrev n : ℕ → ℚ
n k = whole (pos k)

-- ---- minimise x, 2x >= 3, x in 0..5
abbrev half : Problem
half = record { names = codes "x" ∷ []; rows = row G (n 3) ((0, n 2) ∷ []) ∷ []; objective = (0, n 1) ∷ []; sense = Minimise; spans = span (pos 0) (pos 5) ∷ [] }

half_is : shown (answer half [] half.spans) ≡ best_point ((pos 3, 2) ∷ []) ((0, pos 1, 2) ∷ []) (pos 3, 2)
unfolding gcd gcd_within frac ◌+ℚ◌ ◌*ℚ◌ neg_ℚ inv_ℚ add_fits add_checked mul_fits mul_checked compare
half_is = refl

-- with the cut x >= 2
abbrev at_least_two : Cut
at_least_two = record { row = row G (n 2) ((0, n 1) ∷ []); mult = (0, frac (pos 1) 2) ∷ [] }

half_with_cut : shown (answer half (at_least_two ∷ []) half.spans) ≡ best_point ((pos 2, 1) ∷ []) ((3, pos 1, 1) ∷ []) (pos 2, 1)
unfolding gcd gcd_within frac ◌+ℚ◌ ◌*ℚ◌ neg_ℚ inv_ℚ add_fits add_checked mul_fits mul_checked compare
half_with_cut = refl

-- ---- 2x + 2y = 3, x and y in 0..1, no objective
abbrev odd : Problem
odd = record { names = codes "x" ∷ codes "y" ∷ []; rows = row E (n 3) ((0, n 2) ∷ (1, n 2) ∷ []) ∷ []; objective = []; sense = Minimise; spans = span (pos 0) (pos 1) ∷ span (pos 0) (pos 1) ∷ [] }

odd_is : shown (answer odd [] odd.spans) ≡ best_point ((pos 1, 1) ∷ (pos 1, 2) ∷ []) [] (pos 0, 1)
unfolding gcd gcd_within frac ◌+ℚ◌ ◌*ℚ◌ neg_ℚ inv_ℚ add_fits add_checked mul_fits mul_checked compare
odd_is = refl

-- with y fixed at 0, the sum is at most 2
odd_low : shown (answer odd [] (span (pos 0) (pos 1) ∷ span (pos 0) (pos 0) ∷ [])) ≡ no_point ((0, pos 1, 2) ∷ [])
unfolding gcd gcd_within frac ◌+ℚ◌ ◌*ℚ◌ neg_ℚ inv_ℚ add_fits add_checked mul_fits mul_checked compare
odd_low = refl

-- with the cuts x + y >= 2 and -x - y >= -1
abbrev both_cuts : List Cut
both_cuts =
    record { row = row G (n 2) ((0, n 1) ∷ (1, n 1) ∷ []); mult = (0, frac (pos 1) 2) ∷ [] }
    ∷ record { row = row G (whole (negsuc 0)) ((0, whole (negsuc 0)) ∷ (1, whole (negsuc 0)) ∷ []); mult = (0, frac (negsuc 0) 2) ∷ [] } ∷ []

odd_with_cuts : shown (answer odd both_cuts odd.spans) ≡ no_point ((0, negsuc 0, 2) ∷ (5, pos 1, 1) ∷ [])
unfolding gcd gcd_within frac ◌+ℚ◌ ◌*ℚ◌ neg_ℚ inv_ℚ add_fits add_checked mul_fits mul_checked compare
odd_with_cuts = refl

-- ---- minimise -x - y, x + 2y <= 3, 2x + y <= 3, x and y in 0..4: an upper bound is left for each column
abbrev pair : Problem
pair = record {
  names = codes "x" ∷ codes "y" ∷ [];
  rows = row L (n 3) ((0, n 1) ∷ (1, n 2) ∷ []) ∷ row L (n 3) ((0, n 2) ∷ (1, n 1) ∷ []) ∷ [];
  objective = (0, whole (negsuc 0)) ∷ (1, whole (negsuc 0)) ∷ [];
  sense = Minimise;
  spans = span (pos 0) (pos 4) ∷ span (pos 0) (pos 4) ∷ [];
}

pair_is : shown (answer pair [] pair.spans) ≡ best_point ((pos 1, 1) ∷ (pos 1, 1) ∷ []) ((0, negsuc 0, 3) ∷ (1, negsuc 0, 3) ∷ []) (negsuc 1, 1)
unfolding gcd gcd_within frac ◌+ℚ◌ ◌*ℚ◌ neg_ℚ inv_ℚ add_fits add_checked mul_fits mul_checked compare
pair_is = refl
