-- Cuts, prices and proofs that were worked out by hand.
use Rattle.std.specs.Prelude.{◌≡◌, ℕ, ℤ, pos, negsuc, true, false, List, [], ◌∷◌, map, Some, None, option_map, refl}
use Rattle.fraction.specs.Gcd.{gcd, gcd_within}
use Rattle.fraction.specs.Rational.{ℚ, whole, frac, ◌+ℚ◌, ◌*ℚ◌, neg_ℚ, floor, ceil}
use Rattle.fraction.specs.Checked.{add_fits, add_checked, mul_fits, mul_checked, compare}
use Rattle.problem_box.specs.declared.span.Span.{Span}
use Rattle.problem.specs.declared.row.Sense.{Sense}
use Rattle.problem.specs.declared.row.Sense.TheVariants.{G, E}
use Rattle.problem.specs.declared.row.Row.{Row}
use Rattle.problem.specs.Problem.{Problem}
use Rattle.problem.specs.Limits.{largest_cut_coefficient}
use Rattle.node_events.specs.declared.proof.Proof.TheVariants.{Empty, Refute, Bound}
use Rattle.derivation_book.specs.declared.cut.Cut.{Cut}
use Rattle.derivation_book.specs.Rounded.{is_cut_coefficient, rounded_row}
use Rattle.derivation_book.specs.Price.{price}
use Rattle.derivation_book.specs.Legal.{is_legal_proof}
use Rattle.problem.specs.declared.objective_sense.ObjectiveSense.TheVariants.{Minimise}

abbrev n : ℕ → ℚ
n k = whole (pos k)

-- one half, and its negative
abbrev half : ℚ
half = frac (pos 1) 2

abbrev minus_half : ℚ
minus_half = frac (negsuc 0) 2

abbrev span : ℤ → ℤ → Span
span a b = record { lo = a; hi = b }

abbrev row : Sense → ℚ → List (ℕ × ℚ) → Row
row sense rhs terms = record { sense = sense; rhs = rhs; terms = terms }

-- what a fraction and a row consist of
abbrev parts : ℚ → ℤ × ℕ
parts x = (x.num, x.den)

abbrev row_parts : Row → Sense × (ℤ × ℕ) × List (ℕ × (ℤ × ℕ))
row_parts r = (r.sense, parts r.rhs, map (λ (t : ℕ × ℚ). (t.0, parts t.1)) r.terms)

-- ---- minimise x, 2x >= 3, x in 0..5
abbrev p3 : Problem
p3 = record { names = []; rows = row G (n 3) ((0, n 2) ∷ []) ∷ []; objective = (0, n 1) ∷ []; sense = Minimise; spans = span (pos 0) (pos 5) ∷ [] }

-- x >= 2
abbrev k3 : Cut
k3 = record { row = row G (n 2) ((0, n 1) ∷ []); mult = (0, half) ∷ [] }

cut_of_row : option_map row_parts (rounded_row p3 [] ((0, half) ∷ [])) ≡ Some (G, (pos 2, 1), (0, (pos 1, 1)) ∷ [])
unfolding frac gcd gcd_within ◌+ℚ◌ ◌*ℚ◌ neg_ℚ floor ceil add_fits add_checked mul_fits mul_checked
cut_of_row = refl

-- a wrong sign, a number that names no row, and a coefficient that isn't whole
wrong_sign : rounded_row p3 [] ((0, minus_half) ∷ []) ≡ None
unfolding frac gcd gcd_within ◌+ℚ◌ ◌*ℚ◌ neg_ℚ floor ceil add_fits add_checked mul_fits mul_checked
wrong_sign = refl

no_row : rounded_row p3 [] ((3, n 1) ∷ []) ≡ None
unfolding frac gcd gcd_within ◌+ℚ◌ ◌*ℚ◌ neg_ℚ floor ceil add_fits add_checked mul_fits mul_checked
no_row = refl

not_whole : rounded_row p3 [] ((0, frac (pos 1) 3) ∷ []) ≡ None
unfolding frac gcd gcd_within ◌+ℚ◌ ◌*ℚ◌ neg_ℚ floor ceil add_fits add_checked mul_fits mul_checked
not_whole = refl

-- the upper bound row with a multiplier of at most 0, and not of above 0
upper_row_used : option_map row_parts (rounded_row p3 [] ((2, whole (negsuc 0)) ∷ [])) ≡ Some (G, (negsuc 4, 1), (0, (negsuc 0, 1)) ∷ [])
unfolding frac gcd gcd_within ◌+ℚ◌ ◌*ℚ◌ neg_ℚ floor ceil add_fits add_checked mul_fits mul_checked
upper_row_used = refl

upper_row_wrong : rounded_row p3 [] ((2, n 1) ∷ []) ≡ None
unfolding frac gcd gcd_within ◌+ℚ◌ ◌*ℚ◌ neg_ℚ floor ceil add_fits add_checked mul_fits mul_checked
upper_row_wrong = refl

-- the cut as a row of another
cut_of_cut : option_map row_parts (rounded_row p3 (k3 ∷ []) ((3, n 2) ∷ [])) ≡ Some (G, (pos 4, 1), (0, (pos 2, 1)) ∷ [])
unfolding frac gcd gcd_within ◌+ℚ◌ ◌*ℚ◌ neg_ℚ floor ceil add_fits add_checked mul_fits mul_checked
cut_of_cut = refl

-- the row alone doesn't refute the box
price_of_row : option_map parts (price p3 [] p3.spans [] ((0, n 1) ∷ [])) ≡ Some (negsuc 6, 1)
unfolding frac gcd gcd_within ◌+ℚ◌ ◌*ℚ◌ neg_ℚ floor ceil add_fits add_checked mul_fits mul_checked
price_of_row = refl

row_alone : is_legal_proof p3 [] p3.spans None (Refute ((0, n 1) ∷ [])) ≡ false
unfolding frac gcd gcd_within ◌+ℚ◌ ◌*ℚ◌ neg_ℚ floor ceil add_fits add_checked mul_fits mul_checked
row_alone = refl

-- the cut bounds the objective by 2, and not by 3
bound_by_cut : is_legal_proof p3 (k3 ∷ []) p3.spans (Some (n 2)) (Bound ((3, n 1) ∷ []) false) ≡ true
unfolding frac gcd gcd_within ◌+ℚ◌ ◌*ℚ◌ neg_ℚ floor ceil add_fits add_checked mul_fits mul_checked compare
bound_by_cut = refl

bound_too_high : is_legal_proof p3 (k3 ∷ []) p3.spans (Some (n 3)) (Bound ((3, n 1) ∷ []) true) ≡ false
unfolding frac gcd gcd_within ◌+ℚ◌ ◌*ℚ◌ neg_ℚ floor ceil add_fits add_checked mul_fits mul_checked compare
bound_too_high = refl

no_cutoff : is_legal_proof p3 (k3 ∷ []) p3.spans None (Bound ((3, n 1) ∷ []) false) ≡ false
unfolding frac gcd gcd_within ◌+ℚ◌ ◌*ℚ◌ neg_ℚ floor ceil add_fits add_checked mul_fits mul_checked compare
no_cutoff = refl

-- half the row bounds it by 3/2, so by 2 where that is rounded up
bound_rounded : is_legal_proof p3 [] p3.spans (Some (n 2)) (Bound ((0, half) ∷ []) true) ≡ true
unfolding frac gcd gcd_within ◌+ℚ◌ ◌*ℚ◌ neg_ℚ floor ceil add_fits add_checked mul_fits mul_checked compare
bound_rounded = refl

bound_unrounded : is_legal_proof p3 [] p3.spans (Some (n 2)) (Bound ((0, half) ∷ []) false) ≡ false
unfolding frac gcd gcd_within ◌+ℚ◌ ◌*ℚ◌ neg_ℚ floor ceil add_fits add_checked mul_fits mul_checked compare
bound_unrounded = refl

-- a proof names no bound row
bound_row_named : is_legal_proof p3 [] p3.spans (Some (n 0)) (Bound ((1, n 1) ∷ []) false) ≡ false
unfolding frac gcd gcd_within ◌+ℚ◌ ◌*ℚ◌ neg_ℚ floor ceil add_fits add_checked mul_fits mul_checked compare
bound_row_named = refl

-- bounds that cross
crossed : is_legal_proof p3 [] (span (pos 3) (pos 2) ∷ []) None (Empty 0) ≡ true
crossed = refl

not_crossed : is_legal_proof p3 [] (span (pos 2) (pos 2) ∷ []) None (Empty 0) ≡ false
not_crossed = refl

no_column : is_legal_proof p3 [] (span (pos 3) (pos 2) ∷ []) None (Empty 1) ≡ false
no_column = refl

-- ---- no objective, 2x + 2y = 3, x and y in 0..1
abbrev pb : Problem
pb = record { names = []; rows = row E (n 3) ((0, n 2) ∷ (1, n 2) ∷ []) ∷ []; objective = []; sense = Minimise; spans = span (pos 0) (pos 1) ∷ span (pos 0) (pos 1) ∷ [] }

abbrev k0 : Cut
k0 = record { row = row G (n 2) ((0, n 1) ∷ (1, n 1) ∷ []); mult = (0, half) ∷ [] }

abbrev k1 : Cut
k1 = record { row = row G (whole (negsuc 0)) ((0, whole (negsuc 0)) ∷ (1, whole (negsuc 0)) ∷ []); mult = (0, minus_half) ∷ [] }

first_cut_is : option_map row_parts (rounded_row pb [] k0.mult) ≡ Some (row_parts k0.row)
unfolding frac gcd gcd_within ◌+ℚ◌ ◌*ℚ◌ neg_ℚ floor ceil add_fits add_checked mul_fits mul_checked
first_cut_is = refl

second_cut_is : option_map row_parts (rounded_row pb (k0 ∷ []) k1.mult) ≡ Some (row_parts k1.row)
unfolding frac gcd gcd_within ◌+ℚ◌ ◌*ℚ◌ neg_ℚ floor ceil add_fits add_checked mul_fits mul_checked
second_cut_is = refl

-- the row and the first cut refute the box, with the price 1/2
refuted_price : option_map parts (price pb (k0 ∷ k1 ∷ []) pb.spans [] ((0, minus_half) ∷ (5, n 1) ∷ [])) ≡ Some (pos 1, 2)
unfolding frac gcd gcd_within ◌+ℚ◌ ◌*ℚ◌ neg_ℚ floor ceil add_fits add_checked mul_fits mul_checked
refuted_price = refl

refuted : is_legal_proof pb (k0 ∷ k1 ∷ []) pb.spans None (Refute ((0, minus_half) ∷ (5, n 1) ∷ [])) ≡ true
unfolding frac gcd gcd_within ◌+ℚ◌ ◌*ℚ◌ neg_ℚ floor ceil add_fits add_checked mul_fits mul_checked
refuted = refl

-- no multipliers have the price 0, which isn't above 0
nothing_refuted : is_legal_proof pb [] pb.spans None (Refute []) ≡ false
unfolding frac gcd gcd_within ◌+ℚ◌ ◌*ℚ◌ neg_ℚ floor ceil add_fits add_checked mul_fits mul_checked
nothing_refuted = refl

-- ---- minimise x/2, x in 1..5: bounded by 1/2, which may not be rounded up
abbrev p20 : Problem
p20 = record { names = []; rows = []; objective = (0, half) ∷ []; sense = Minimise; spans = span (pos 1) (pos 5) ∷ [] }

half_bound : is_legal_proof p20 [] p20.spans (Some half) (Bound [] false) ≡ true
unfolding frac gcd gcd_within ◌+ℚ◌ ◌*ℚ◌ neg_ℚ floor ceil add_fits add_checked mul_fits mul_checked compare
half_bound = refl

half_rounded : is_legal_proof p20 [] p20.spans (Some half) (Bound [] true) ≡ false
unfolding frac gcd gcd_within ◌+ℚ◌ ◌*ℚ◌ neg_ℚ floor ceil add_fits add_checked mul_fits mul_checked compare
half_rounded = refl

-- ---- how large a coefficient may be
largest : is_cut_coefficient (n largest_cut_coefficient) ≡ true
unfolding frac gcd gcd_within
largest = refl

too_large : is_cut_coefficient (whole (negsuc largest_cut_coefficient)) ≡ false
unfolding frac gcd gcd_within
too_large = refl
