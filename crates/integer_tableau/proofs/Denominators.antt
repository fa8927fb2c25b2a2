-- One denominator for all numbers of a tableau.
use Rattle.std.proofs.Common.{◌≡◌, ℕ, zero, suc, ◌+◌, ◌-◌, ◌*◌, ◌≤◌, ◌<◌, arith, refl, ap, sym, ◌∙◌, subst, List, [], ◌∷◌, length, get_or, inl, inr}
use Rattle.std.specs.Prelude.{ℤ, pos, ◌<ℤ◌, ◌+ℤ◌, ◌*ℤ◌, nat_abs, All}
use Rattle.std.proofs.Math.Nat.{mul-le-mul_left, mul-le-mul_right, mul-one}
use Rattle.std.proofs.lemmas.Int.{ints, unsigned_abs-mul}
use Rattle.std.proofs.lemmas.List.Elements.{All-nil, All-cons}
use Rattle.fraction.specs.Bounds.{Within}
use Rattle.fraction.specs.Rational.{frac, whole}
use Rattle.fraction.specs.Lemmas.Bounds.{Within-more}
use Rattle.integer_tableau.proofs.Expanded.{value_of_column, value_of_row, which}
use Rattle.integer_tableau.specs.Lemmas.Fractions.{Within-frac}
use Rattle.integer_tableau.proofs.Lists.{size_is}
use Rattle.integer_tableau.proofs.Sums.{coefficient_is, numerator_within}
use Rattle.integer_tableau.specs.Consistent.{IsConsistent}
use Rattle.integer_tableau.specs.Combined.{IsCompact, combined_value, expanded, value_numerator}
use Rattle.integer_tableau.specs.Denominator.{HasDenominator}
use Rattle.integer_tableau.specs.IntegerTableau.{IntegerTableau, row_of_position, rows_of, tableau_of, value, values_of}
use Rattle.integer_tableau.specs.Numbers.{IsWithin, number_at, total_size}
use Rattle.integer_tableau.specs.Range.{size_limit}
use Rattle.integer_tableau.specs.Positions.{coefficient, coefficients, numerator}
use Rattle.integer_tableau.specs.declared.position.Position.{Position}
use Rattle.integer_tableau.specs.declared.position.Position.TheVariants.{InBasis, InColumn}

over : (z : ℤ) (d : ℕ) → 0 < d → nat_abs z ≤ size_limit → Within d size_limit (frac z d)
over z d o l = Within-more d (nat_abs z) size_limit (frac z d) l
    (subst (λ m. Within m (nat_abs z) (frac z d)) (mul-one d) (subst (λ m. Within (d * 1) m (frac z d)) (mul-one (nat_abs z)) (Within-frac z d 1 o)))

whole_over : (z : ℤ) (d : ℕ) → nat_abs z * d ≤ size_limit → Within d size_limit (whole z)
whole_over z d l = Within-more d (nat_abs z * d) size_limit (whole z) l (subst (λ m. Within m (nat_abs z * d) (whole z)) (one_times d) (Within-frac z 1 d (omega arith)))
  where
    one_times : (d : ℕ) → 1 * d ≡ d
    one_times d = omega arith

value_within : (d : ℕ) (dd : ℤ) (s : Position) (x v : ℤ) → 0 < d → nat_abs dd ≡ d → nat_abs (value_numerator dd s x v) ≤ size_limit → Within d size_limit (value d s x v)
value_within d dd InBasis x v o e l = over v d o l
value_within d dd (InColumn k) x v o e l = whole_over x d (subst (λ n. n ≤ size_limit) (unsigned_abs-mul x dd ∙ ap (λ n. nat_abs x * n) e) l)

values_within : (d : ℕ) (dd : ℤ) (ss : List Position) (xs vs : List ℤ) → 0 < d → nat_abs dd ≡ d → length xs ≡ length ss → length vs ≡ length ss
    → ((v : ℕ) → v < length ss → nat_abs (value_numerator dd (get_or ss v InBasis) (number_at xs v) (number_at vs v)) ≤ size_limit) → All (Within d size_limit) (values_of d ss xs vs)
values_within d dd [] xs vs o e f g h = All-nil (Within d size_limit)
values_within d dd (s ∷ ss) [] vs o e f g h = absurd (omega arith)
values_within d dd (s ∷ ss) (x ∷ xs) [] o e f g h = absurd (omega arith)
values_within d dd (s ∷ ss) (x ∷ xs) (v ∷ vs) o e f g h =
    All-cons (Within d size_limit) (value d s x v) (values_of d ss xs vs) (value_within d dd s x v o e (h zero (omega arith)))
    (values_within d dd ss xs vs o e (omega arith) (omega arith) (λ v l. h (suc v) (omega arith)))

-- ---- rows
coefficients_within : (d : ℕ) (row : List ℤ) (ss : List Position) → 0 < d → IsWithin (size_limit - 1) row → All (Within d size_limit) (coefficients d ss row)
coefficients_within d row [] o h = All-nil (Within d size_limit)
coefficients_within d row (s ∷ ss) o h = All-cons (Within d size_limit) (coefficient d row s) (coefficients d ss row)
    (subst (Within d size_limit) (sym (coefficient_is d row s o)) (over (numerator row s) d o (omega (arith, numerator_within (size_limit - 1) row s h))))
    (coefficients_within d row ss o h)

row_within : (d : ℕ) (all : List Position) (s : Position) (row : List ℤ) → 0 < d → IsWithin (size_limit - 1) row → All (Within d size_limit) (row_of_position d all s row)
row_within d all InBasis row o h = coefficients_within d row all o h
row_within d all (InColumn k) row o h = All-nil (Within d size_limit)

rows_within : (d : ℕ) (all ss : List Position) (rows : List (List ℤ)) → 0 < d → ((v : ℕ) → IsWithin (size_limit - 1) (get_or rows v []))
    → All (All (Within d size_limit)) (rows_of (row_of_position d all) ss rows)
rows_within d all [] rows o h = All-nil (All (Within d size_limit))
rows_within d all (s ∷ ss) [] o h = All-nil (All (Within d size_limit))
rows_within d all (s ∷ ss) (row ∷ rows) o h = All-cons (All (Within d size_limit)) (row_of_position d all s row) (rows_of (row_of_position d all) ss rows)
    (row_within d all s row o (h zero)) (rows_within d all ss rows o (λ v. h (suc v)))

-- ---- the value of a row's variable
value_by_weight : (most : ℕ) (d : ℤ) (cs : List ℤ) (ss : List Position) (xs vs : List ℤ) → length cs ≤ length vs
    → ((j : ℕ) → j < length vs → nat_abs (value_numerator d (get_or ss j InBasis) (number_at xs j) (number_at vs j)) ≤ most) → nat_abs (combined_value d cs ss xs vs) ≤ total_size cs * most
value_by_weight most d [] ss xs vs l h = omega arith
value_by_weight most d (c ∷ cs) [] xs vs l h = omega arith
value_by_weight most d (c ∷ cs) (s ∷ ss) [] vs l h = omega arith
value_by_weight most d (c ∷ cs) (s ∷ ss) (x ∷ xs) [] l h = omega arith
value_by_weight most d (c ∷ cs) (s ∷ ss) (x ∷ xs) (v ∷ vs) l h =
    let y = value_numerator d s x v in
    omega (arith, size (c *ℤ y) (combined_value d cs ss xs vs), unsigned_abs-mul c y, mul-le-mul_left (nat_abs c) (h zero (omega arith)), value_by_weight most d cs ss xs vs (omega (arith, l)) (λ j m. h (suc j) (omega (arith, m))))
  where
    size : (a b : ℤ) → nat_abs (a +ℤ b) ≤ nat_abs a + nat_abs b
    size a b = omega (arith, ints)

pub row_small_by_weight : (most weight : ℕ) (d : ℤ) (s : Position) (x : ℤ) (cs : List ℤ) (ss : List Position) (xs vs : List ℤ) → length cs ≡ length vs → total_size cs ≤ weight → weight * most ≤ size_limit
    → ((j : ℕ) → j < length vs → nat_abs (value_numerator d (get_or ss j InBasis) (number_at xs j) (number_at vs j)) ≤ most) → ((k : ℕ) → s ≡ InColumn k → nat_abs (x *ℤ d) ≤ size_limit)
    → nat_abs (value_numerator d s x (combined_value d cs ss xs vs)) ≤ size_limit
row_small_by_weight most weight d InBasis x cs ss xs vs e m light h g = omega (arith, value_by_weight most d cs ss xs vs (omega (arith, e)) h, mul-le-mul_right most m, light)
row_small_by_weight most weight d (InColumn k) x cs ss xs vs e m light h g = g k refl

-- ---- of the whole tableau
pub has_denominator : (columns : ℕ) (numbers : List ℕ) (ps : List (List ℤ)) (weight reach : ℕ) (w : IntegerTableau) (d : ℤ) → IsCompact ps weight reach w → pos 0 <ℤ d → nat_abs d ≡ w.denominator
    → ((j : ℕ) → j < length w.values → nat_abs (value_numerator d (get_or w.positions j InBasis) (number_at w.nonbasic_values j) (number_at w.values j)) ≤ size_limit)
    → ((i : ℕ) → i < length ps → nat_abs (value_numerator d (get_or w.positions (length w.values + i) InBasis) (number_at w.nonbasic_values (length w.values + i))
    (combined_value d (get_or ps i []) w.positions w.nonbasic_values w.values)) ≤ size_limit)
    → HasDenominator w.denominator (tableau_of columns numbers (expanded ps w))
has_denominator columns numbers ps weight reach w d compact positive e columns_small rows_small = record {
  positive = consistent.positive;
  small = consistent.denominator_small;
  values = values_within w.denominator d w.positions w.nonbasic_values (expanded ps w).values consistent.positive e consistent.nonbasic_values consistent.values each;
  reduced_costs = coefficients_within w.denominator w.reduced_costs w.positions consistent.positive consistent.costs_within;
  rows = rows_within w.denominator w.positions w.positions (expanded ps w).rows consistent.positive consistent.rows_within;
}
  where
    consistent : IsConsistent (expanded ps w)
    consistent = compact.consistent

    d_is : d ≡ pos w.denominator
    d_is = size_is d positive ∙ ap pos e

    each : (v : ℕ) → v < length w.positions → nat_abs (value_numerator d (get_or w.positions v InBasis) (number_at w.nonbasic_values v) (number_at (expanded ps w).values v)) ≤ size_limit
    each v l = elim (which (length w.values) (length ps) v (omega (arith, l, compact.variables, compact.values))) [
      | inl h ↦ subst (λ z. nat_abs (value_numerator d (get_or w.positions v InBasis) (number_at w.nonbasic_values v) z) ≤ size_limit)
          (sym (value_of_column w.denominator ps w.positions w.nonbasic_values w.values v h)) (columns_small v h)
      | inr z ↦ subst (λ v. nat_abs (value_numerator d (get_or w.positions v InBasis) (number_at w.nonbasic_values v) (number_at (expanded ps w).values v)) ≤ size_limit) (sym z.2)
          (subst (λ y. nat_abs (value_numerator d (get_or w.positions (length w.values + z.0) InBasis) (number_at w.nonbasic_values (length w.values + z.0)) y) ≤ size_limit)
          (ap (λ d. combined_value d (get_or ps z.0 []) w.positions w.nonbasic_values w.values) d_is ∙ sym (value_of_row w.denominator ps w.positions w.nonbasic_values w.values z.0 z.1)) (rows_small z.0 z.1))
    ]
