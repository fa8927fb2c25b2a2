-- Whole numbers of combinations: the fractions that they stand for, alone and over one denominator.
use Rattle.std.specs.Prelude.{◌≡◌, ◌<◌, ◌^◌, ℕ, zero, suc, ℤ, pos, ◌*ℤ◌, nat_abs, List, [], ◌∷◌, map, length, replicate, slice_set, slice_index_or, All, Some, option_map, refl}
use Rattle.std.specs.Option.{option_and_then}
use Rattle.std.proofs.Common.{sym, ap, ◌∙◌, subst, arith}
use Rattle.std.proofs.lemmas.Int.{ints}
use Rattle.std.proofs.lemmas.List.{length-map, map-set}
use Rattle.std.proofs.lemmas.List.Elements.{All-map, All-weaker}
use Rattle.std.proofs.Math.ListN.{get_or-map}
use Rattle.fraction.specs.Rational.{ℚ, whole, frac}
use Rattle.fraction.specs.Fits.{FitsFraction}
use Rattle.fraction.specs.Lemmas.Rational.{lit_one, frac_same}
use Rattle.fraction.specs.Lemmas.Bounds.{whole_parts}
use Rattle.problem.specs.declared.row.Row.{Row}
use Rattle.derivation_book.specs.Sums.{with_product, Sums, sums_of}
use Rattle.derivation_book.specs.Adding.{columns_added, row_added}
use Rattle.derivation_book.specs.OverOne.{over}
use Rattle.derivation_book.specs.IntegerSums.{FitsInteger}
use Rattle.derivation_book.specs.Lemmas.Columns.{one_added}

-- ---- sizes
pub fits_fraction : (z : ℤ) → FitsInteger z → FitsFraction (whole z)
fits_fraction z h = (subst (λ n. nat_abs n < 2 ^ 127) (sym (whole_parts z).0) h, subst (λ n. n < 2 ^ 127) (sym (whole_parts z).1) (omega arith))

pub all_fit : (zs : List ℤ) → All FitsInteger zs → All FitsFraction (map whole zs)
all_fit zs h = All-map FitsFraction whole zs (All-weaker FitsInteger (λ z. FitsFraction (whole z)) fits_fraction zs h)

-- ---- zeros
pub zeros_are : (n : ℕ) → map whole (replicate n (pos 0)) ≡ replicate n (whole (pos 0))
zeros_are zero = refl
zeros_are (suc n) = ap (λ (xs : List ℚ). whole (pos 0) ∷ xs) (zeros_are n)

-- ---- one term more
-- the same numbers, written otherwise
pub product_added : (z z' f f' n n' u u' : ℤ) → z' ≡ z → f' ≡ f → n' ≡ n → u' ≡ u → with_product (whole z') (whole f') (whole n') ≡ Some (whole u') → with_product (whole z) (whole f) (whole n) ≡ Some (whole u)
product_added z z' f f' n n' u u' ez ef en eu h = (λ i. with_product (whole (sym ez i)) (whole (sym ef i)) (whole (sym en i))) ∙ h ∙ ap (λ x. Some (whole x)) eu

pub term_added : (zs : List ℤ) (f : ℤ) (k : ℕ) (a : ℚ) (n z u : ℤ) → All FitsInteger zs → k < length zs → z ≡ slice_index_or zs k z → a ≡ whole n → with_product (whole z) (whole f) (whole n) ≡ Some (whole u)
    → columns_added (map whole zs) 0 (whole f) ((k, a) ∷ []) ≡ Some (map whole (slice_set zs k u))
term_added zs f k a n z u h l e g w =
    one_added (map whole zs) 0 k (whole f) k a (whole z) (whole u) (all_fit zs h) (omega arith) (omega (arith, l, length-map zs whole)) (ap whole e ∙ sym (get_or-map whole zs k z))
    (ap (with_product (whole z) (whole f)) g ∙ w)
    ∙ ap Some (sym (map-set whole zs k u))

-- ---- one row more
row_added_is : (q : Sums) (m : ℚ) (r : Row) (cs : List ℚ) (t : ℚ) → columns_added q.coefficients 0 m r.terms ≡ Some cs → with_product q.side m r.rhs ≡ Some t → row_added q m r ≡ Some (sums_of cs t)
row_added_is q m r cs t e f = λ i. option_and_then (λ ds. option_map (sums_of ds) (f i)) (e i)

pub numbers_added : (q : Sums) (zs us now : List ℤ) (side f b s : ℤ) (r : Row) → sums_of (map whole zs) (whole side) ≡ q → r.rhs ≡ whole b → now ≡ us
    → columns_added (map whole zs) 0 (whole f) r.terms ≡ Some (map whole us) → with_product (whole side) (whole f) (whole b) ≡ Some (whole s)
    → row_added q (whole f) r ≡ Some (sums_of (map whole now) (whole s))
numbers_added q zs us now side f b s r v e g h w =
    ap (λ (p : Sums). row_added p (whole f) r) (sym v)
    ∙ row_added_is (sums_of (map whole zs) (whole side)) (whole f) r (map whole us) (whole s) h (ap (with_product (whole side) (whole f)) e ∙ w)
    ∙ ap (λ (ys : List ℤ). Some (sums_of (map whole ys) (whole s))) (sym g)

-- ---- over a denominator
pub over_whole : (d : ℕ) (z : ℤ) → over d (whole z) ≡ frac z d
over_whole d z = ap (λ n. frac n d) (whole_parts z).0

pub multiple_over : (q : ℤ) (d : ℕ) → 0 < d → whole q ≡ frac (q *ℤ pos d) d
multiple_over q d o = frac_same q (q *ℤ pos d) 1 d lit_one o (let e : q *ℤ pos d ≡ q *ℤ pos d *ℤ pos 1 = omega (arith, ints) in e)

pub over_at : (d : ℕ) (zs : List ℤ) (j : ℕ) (z : ℤ) → z ≡ slice_index_or zs j z → frac z d ≡ slice_index_or (map (over d) (map whole zs)) j (frac z d)
over_at d zs j z e =
    sym (over_whole d z) ∙ ap (λ x. over d (whole x)) e ∙ ap (over d) (sym (get_or-map whole zs j z)) ∙ sym (get_or-map (over d) (map whole zs) j (whole z))
    ∙ ap (slice_index_or (map (over d) (map whole zs)) j) (over_whole d z)
