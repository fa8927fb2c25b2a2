-- Which variable enters, on whole numbers: the one of least ratio by cross multiplication, the first of those.
use Rattle.std.proofs.Common.{List, [], ◌∷◌, length, get_or, zero, suc, ◌≡◌, ℕ, ◌+◌, ◌-◌, ◌*◌, ◌^◌, ◌<◌, arith, refl, ap, ◌∙◌, Bool, true, false, Option, Some, None}
use Rattle.std.specs.Prelude.{ℤ, pos, nat_abs, int_lt, map, ◌&&◌, if◌then◌else◌}
use Rattle.std.specs.Option.{option_map, option_and_then, IfSome}
use Rattle.std.proofs.lemmas.Int.{ints}
use Rattle.std.proofs.lemmas.Bool.{and_parts}
use Rattle.fraction.specs.Checked.{abs_ℚ, div_checked}
use Rattle.fraction.specs.Rational.{frac, whole, ℚ}
use Rattle.fraction.specs.Lemmas.Order.{above_zero, below_zero}
use Rattle.integer_tableau.specs.Lemmas.Comparing.{less_quotient, ratio_exact}
use Rattle.integer_tableau.specs.Lemmas.Fractions.{IsNarrow}
use Rattle.integer_tableau.proofs.Sums.{coefficient_is, numerator_within}
use Rattle.integer_tableau.specs.Entering.{better_candidate, entering_by_numerators, is_eligible_numerator, with_candidate}
use Rattle.integer_tableau.specs.IntegerTableau.{fraction_bounds, status, statuses_of}
use Rattle.integer_tableau.specs.Numbers.{IsWithin}
use Rattle.integer_tableau.specs.Range.{size_limit}
use Rattle.integer_tableau.specs.Positions.{coefficient, coefficients, numerator}
use Rattle.integer_tableau.specs.declared.entering.Candidate.{Candidate}
use Rattle.integer_tableau.specs.declared.integer_bounds.IntegerBounds.{IntegerBounds}
use Rattle.integer_tableau.specs.declared.position.Position.{Position}
use Rattle.integer_tableau.specs.declared.position.Position.TheVariants.{InBasis}
use Rattle.tableau.specs.Entering.{better, entering_from, is_eligible, with_ratio}
use Rattle.tableau.specs.Leaving.{bounds_differ}
use Rattle.tableau.specs.declared.bounds.Bounds.{Bounds}
use Rattle.tableau.specs.declared.bounds.Direction.{Direction}
use Rattle.tableau.specs.declared.bounds.Direction.TheVariants.{Fall, Rise}
use Rattle.tableau.specs.declared.status.BasisStatus.{BasisStatus}
use Rattle.tableau.specs.declared.status.BasisStatus.TheVariants.{AtLower, AtUpper, Basic}

abbrev pub as_ratio : Candidate → ℕ × ℚ
as_ratio b = (b.variable, frac (pos b.reduced_cost) b.coefficient)

abbrev pub as_ratios : Option Candidate → Option (ℕ × ℚ)
as_ratios best = option_map as_ratio best

-- the best so far has a coefficient that isn't 0
abbrev pub HasCoefficient : Option Candidate → Type 0
HasCoefficient best = IfSome best (λ b. 0 < b.coefficient)

-- ---- the same choice
better_is : (b : Candidate) (best : Option Candidate) → 0 < b.coefficient → HasCoefficient best → better b.variable (frac (pos b.reduced_cost) b.coefficient) (as_ratios best) ≡ as_ratios (better_candidate b best)
better_is b None o p = refl
better_is b (Some best) o p =
    ap (λ t. if t then Some (as_ratio b) else Some (as_ratio best)) (less_quotient b.reduced_cost best.reduced_cost b.coefficient best.coefficient o p)
    ∙ chosen (int_lt (pos (b.reduced_cost * best.coefficient)) (pos (best.reduced_cost * b.coefficient)))
  where
    chosen : (t : Bool) → (if t then Some (as_ratio b) else Some (as_ratio best)) ≡ as_ratios (if t then Some b else Some best)
    chosen true = refl
    chosen false = refl

is_eligible_is : (w : Direction) (s : BasisStatus) (t : ℤ) (d : ℕ) → 0 < d → is_eligible w s (frac t d) ≡ is_eligible_numerator w s t
is_eligible_is w Basic t d o = refl
is_eligible_is Rise AtLower t d o = above_zero t d o
is_eligible_is Rise AtUpper t d o = below_zero t d o
is_eligible_is Fall AtLower t d o = below_zero t d o
is_eligible_is Fall AtUpper t d o = above_zero t d o

above : (t : ℤ) → int_lt (pos 0) t ≡ true → 0 < nat_abs t
above t e = grind (arith, ints)

under : (t : ℤ) → int_lt t (pos 0) ≡ true → 0 < nat_abs t
under t e = grind (arith, ints)

pub entry_there : (w : Direction) (s : BasisStatus) (t : ℤ) → is_eligible_numerator w s t ≡ true → 0 < nat_abs t
entry_there w Basic t e = cc
entry_there Rise AtLower t e = above t e
entry_there Rise AtUpper t e = under t e
entry_there Fall AtLower t e = under t e
entry_there Fall AtUpper t e = above t e

-- with one variable more: no ratio is cramped, and the choice is the one by fractions
pub with_candidate_is : (j : ℕ) (w : Direction) (best : Option Candidate) (s : BasisStatus) (b : Bounds) (d t : ℤ) (denominator : ℕ) → 0 < denominator → denominator < 2 ^ 63 → IsNarrow d → IsNarrow t → HasCoefficient best
    → with_ratio j w (as_ratios best) s b (frac d denominator) (frac t denominator) ≡ Some (as_ratios (with_candidate j w best s b d t))
with_candidate_is j w best s b d t denominator o hd nd nt p =
    ap (λ e. if e && bounds_differ b then option_map (λ q. better j q (as_ratios best)) (div_checked (abs_ℚ (frac d denominator)) (abs_ℚ (frac t denominator))) else Some (as_ratios best)) (is_eligible_is w s t denominator o)
    ∙ by_test (is_eligible_numerator w s t && bounds_differ b) refl
  where
    by_test : (e : Bool) → (is_eligible_numerator w s t && bounds_differ b) ≡ e
        → (if e then option_map (λ q. better j q (as_ratios best)) (div_checked (abs_ℚ (frac d denominator)) (abs_ℚ (frac t denominator))) else Some (as_ratios best))
        ≡ Some (as_ratios (if e then better_candidate record { variable = j; reduced_cost = nat_abs d; coefficient = nat_abs t } best else best))
    by_test true e =
        let l = entry_there w s t (and_parts (is_eligible_numerator w s t) (bounds_differ b) e).0 in
        ap (option_map (λ q. better j q (as_ratios best))) (ratio_exact d t denominator o hd nd nt l)
        ∙ ap Some (better_is record { variable = j; reduced_cost = nat_abs d; coefficient = nat_abs t } best l p)
    by_test false e = refl

-- and the best stays one with a coefficient that isn't 0
pub with_candidate_has : (j : ℕ) (w : Direction) (best : Option Candidate) (s : BasisStatus) (b : Bounds) (d t : ℤ) → HasCoefficient best → HasCoefficient (with_candidate j w best s b d t)
with_candidate_has j w best s b d t p = by_test (is_eligible_numerator w s t && bounds_differ b) refl
  where
    chosen : (new : Candidate) (best : Option Candidate) → 0 < new.coefficient → HasCoefficient best → HasCoefficient (better_candidate new best)
    chosen new None o p = o
    chosen new (Some best) o p = picked (int_lt (pos (new.reduced_cost * best.coefficient)) (pos (best.reduced_cost * new.coefficient)))
      where
        picked : (t : Bool) → HasCoefficient (if t then Some new else Some best)
        picked true = o
        picked false = p

    by_test : (e : Bool) → (is_eligible_numerator w s t && bounds_differ b) ≡ e → HasCoefficient (if e then better_candidate record { variable = j; reduced_cost = nat_abs d; coefficient = nat_abs t } best else best)
    by_test true e = chosen record { variable = j; reduced_cost = nat_abs d; coefficient = nat_abs t } best (entry_there w s t (and_parts (is_eligible_numerator w s t) (bounds_differ b) e).0) p
    by_test false e = p

-- ---- over all variables

pub entering_is : (w : Direction) (d : ℕ) (reduced_costs row : List ℤ) (fraction_row : List ℚ) → 0 < d → d < size_limit → IsWithin (size_limit - 1) reduced_costs → IsWithin (size_limit - 1) row
    → (j : ℕ) (best : Option Candidate) (ss : List Position) (us : List Bool) (ls : List IntegerBounds) → length us ≡ length ss → length ls ≡ length ss → HasCoefficient best
    → ((i : ℕ) → i < length ss → get_or fraction_row (j + i) (whole (pos 0)) ≡ coefficient d row (get_or ss i InBasis))
    → entering_from j w (as_ratios best) (statuses_of ss us) (map fraction_bounds ls) (coefficients d ss reduced_costs) fraction_row ≡ Some (as_ratios (entering_by_numerators j w best ss us ls reduced_costs row))
entering_is w d reduced_costs row fraction_row o hd hc hr j best [] us ls e f p h = refl
entering_is w d reduced_costs row fraction_row o hd hc hr j best (s ∷ ss) [] ls e f p h = absurd (omega arith)
entering_is w d reduced_costs row fraction_row o hd hc hr j best (s ∷ ss) (u ∷ us) [] e f p h = absurd (omega arith)
entering_is w d reduced_costs row fraction_row o hd hc hr j best (s ∷ ss) (u ∷ us) (l ∷ ls) e f p h =
    ap (option_and_then (λ b. entering_from (j + 1) w b (statuses_of ss us) (map fraction_bounds ls) (coefficients d ss reduced_costs) fraction_row))
    ((λ i. with_ratio j w (as_ratios best) (status s u) (fraction_bounds l) (coefficient_is d reduced_costs s o i) (read i))
    ∙ with_candidate_is j w best (status s u) (fraction_bounds l) (numerator reduced_costs s) (numerator row s) d o (omega arith) (omega (arith, numerator_within (size_limit - 1) reduced_costs s hc)) (omega (arith, numerator_within (size_limit - 1) row s hr)) p)
    ∙ entering_is w d reduced_costs row fraction_row o hd hc hr (j + 1) _ ss us ls (omega arith) (omega arith)
    (with_candidate_has j w best (status s u) (fraction_bounds l) (numerator reduced_costs s) (numerator row s) p)
    (λ i m. ap (λ n. get_or fraction_row n (whole (pos 0))) (let q : j + 1 + i ≡ j + suc i = omega arith in q) ∙ h (suc i) (omega arith))
  where
    read : get_or fraction_row j (whole (pos 0)) ≡ frac (numerator row s) d
    read = ap (λ n. get_or fraction_row n (whole (pos 0))) (let q : j ≡ j + 0 = omega arith in q) ∙ h zero (omega arith) ∙ coefficient_is d row s o
