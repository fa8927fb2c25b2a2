-- What is read off a tableau with scales.
use Rattle.std.proofs.Common.{◌≡◌, ℕ, zero, suc, ◌+◌, ◌*◌, ◌<◌, ◌≤◌, arith, refl, ap, sym, ◌∙◌, List, [], ◌∷◌, length, map, take, drop, set}
use Rattle.std.specs.Prelude.{pos, negsuc, neg_ℤ, ◌*ℤ◌, if◌then◌else◌}
use Rattle.fraction.specs.Lemmas.Rational.{neg_ℚ-frac, neg_ℚ_is}
use Rattle.fraction.specs.Lemmas.Integers.{neg-mul_ℤ}
use Rattle.fraction.specs.Rational.{ℚ, frac, whole, neg_ℚ}
use Rattle.tableau.specs.declared.bounds.Direction.{Direction}
use Rattle.tableau.specs.declared.bounds.Direction.TheVariants.{Rise, Fall}
use Rattle.tableau.specs.Elimination.{zero_ℚ}
use Rattle.tableau.specs.Multipliers.{direction_of, mult_of_cost, mult_of_row, numbered, point_of, row_multipliers}
use Rattle.tableau.specs.Leaving.{is_below, unbounded}
use Rattle.std.proofs.Math.Nat.{mul-pos}
use Rattle.tableau.specs.Tableau.{Tableau, bounds_of, row_of, value_of}
use Rattle.integer_tableau.specs.Scales.{Scales, map_from, scaled_by, unscaled, unscaled_bounds, unscaled_row, unscaled_value}
use Rattle.integer_tableau.specs.Lemmas.MapFrom.{drop-map_from, get_or-map_from, set-map_from, take-map_from}
use Rattle.scaled_program.proofs.Numbers.{scaled_frac, scaled_is, scaled_self, scaled_zero}
use Rattle.scaled_program.proofs.Places.{below_same, row_unscaled}

-- ---- the point
same_from : (f : ℕ → ℚ → ℚ) (i : ℕ) (xs : List ℚ) → ((j : ℕ) (x : ℚ) → j < length xs → f (i + j) x ≡ x) → map_from f i xs ≡ xs
same_from f i [] h = refl
same_from f i (x ∷ xs) h = λ t. (ap (λ k. f k x) (let e : i ≡ i + 0 = omega arith in e) ∙ h 0 x (omega arith)) t
    ∷ same_from f (i + 1) xs (λ j y l. ap (λ k. f k y) (let e : i + 1 + j ≡ i + suc j = omega arith in e) ∙ h (suc j) y (omega arith)) t

length-take-most : (n : ℕ) (xs : List ℚ) → length (take n xs) ≤ n
length-take-most zero xs = omega arith
length-take-most (suc n) [] = omega arith
length-take-most (suc n) (x ∷ xs) = omega (arith, length-take-most n xs)

pub point_unscaled : (σ : Scales) (s : ℕ) (t : Tableau) → ((j : ℕ) → j < t.columns → σ j ≡ 1) → point_of (unscaled σ s t) ≡ point_of t
point_unscaled σ s t h =
    take-map_from (unscaled_value σ) t.columns 0 t.values
    ∙ same_from (unscaled_value σ) 0 (take t.columns t.values)
    (λ j x l. ap (λ b. scaled_by 1 b x) (ap σ (let e : 0 + j ≡ j = omega arith in e) ∙ h j (omega (arith, l, length-take-most t.columns t.values))) ∙ scaled_self 1 x (omega arith))

-- ---- multipliers
pub costs_multipliers : (σ : Scales) (s : ℕ) (t : Tableau) → mult_of_cost (unscaled σ s t) ≡ numbered t.numbers (unscaled_row σ s t.columns (drop t.columns t.reduced_costs))
costs_multipliers σ s t =
    ap (numbered t.numbers) (drop-map_from (λ j x. scaled_by (σ j) s x) t.columns 0 t.reduced_costs
    ∙ ap (λ k. unscaled_row σ s k (drop t.columns t.reduced_costs)) (let e : 0 + t.columns ≡ t.columns = omega arith in e))

negative : (a b : ℕ) (x : ℚ) → 0 < b → neg_ℚ (scaled_by a b x) ≡ scaled_by a b (neg_ℚ x)
negative a b x o =
    ap neg_ℚ (scaled_is a b x o) ∙ neg_ℚ-frac (x.num *ℤ pos a) (x.den * b) (mul-pos x.lowest.0 o)
    ∙ ap (λ z. frac z (x.den * b)) (sym (neg-mul_ℤ x.num (pos a)))
    ∙ sym (ap (scaled_by a b) (neg_ℚ_is x) ∙ scaled_frac a b (neg_ℤ x.num) x.den o x.lowest.0)

negatives : (σ : Scales) (k i : ℕ) (xs : List ℚ) → 0 < k → map neg_ℚ (unscaled_row σ k i xs) ≡ unscaled_row σ k i (map neg_ℚ xs)
negatives σ k i [] o = refl
negatives σ k i (x ∷ xs) o = λ t. negative (σ i) k x o t ∷ negatives σ k (i + 1) xs o t

own : (σ : Scales) (r : ℕ) (x : ℚ) (xs : List ℚ) → 0 < σ r → set (unscaled_row σ (σ r) 0 xs) r x ≡ unscaled_row σ (σ r) 0 (set xs r x)
own σ r x xs o =
    ap (set (unscaled_row σ (σ r) 0 xs) r) (sym (ap (λ j. scaled_by (σ j) (σ r) x) (let g : 0 + r ≡ r = omega arith in g) ∙ scaled_self (σ r) x o))
    ∙ set-map_from (λ j x. scaled_by (σ j) (σ r) x) 0 xs r x

of_direction : (σ : Scales) (r : ℕ) (w : Direction) (row : List ℚ) → 0 < σ r → row_multipliers w r (unscaled_row σ (σ r) 0 row) ≡ unscaled_row σ (σ r) 0 (row_multipliers w r row)
of_direction σ r Rise row o = ap (λ xs. set xs r (whole (pos 1))) (negatives σ (σ r) 0 row o) ∙ own σ r (whole (pos 1)) (map neg_ℚ row) o
of_direction σ r Fall row o = own σ r (whole (negsuc 0)) row o

direction_same : (σ : Scales) (s : ℕ) (t : Tableau) (r : ℕ) → 0 < σ r → direction_of (unscaled σ s t) r ≡ direction_of t r
direction_same σ s t r o =
    (λ i. if is_below (value_is i) (bounds_is i).lower then Rise else Fall) ∙ ap (λ b. if b then Rise else Fall) (below_same σ r o (value_of t r) (bounds_of t r).lower)
  where
    value_is : value_of (unscaled σ s t) r ≡ unscaled_value σ r (value_of t r)
    value_is = get_or-map_from (unscaled_value σ) 0 t.values r zero_ℚ zero_ℚ (λ k. scaled_zero 1 (σ k)) ∙ ap (λ i. unscaled_value σ i (value_of t r)) (let g : 0 + r ≡ r = omega arith in g)

    bounds_is : bounds_of (unscaled σ s t) r ≡ unscaled_bounds σ r (bounds_of t r)
    bounds_is = get_or-map_from (unscaled_bounds σ) 0 t.bounds r unbounded unbounded (λ k. refl) ∙ ap (λ i. unscaled_bounds σ i (bounds_of t r)) (let g : 0 + r ≡ r = omega arith in g)

pub row_multipliers_unscaled : (σ : Scales) (s : ℕ) (t : Tableau) (r : ℕ) → 0 < σ r
    → mult_of_row (unscaled σ s t) r ≡ numbered t.numbers (unscaled_row σ (σ r) t.columns (drop t.columns (row_multipliers (direction_of t r) r (row_of t r))))
row_multipliers_unscaled σ s t r o =
    ap (numbered t.numbers)
    ((λ i. drop t.columns (row_multipliers (direction_same σ s t r o i) r (row_unscaled σ t.rows r i)))
    ∙ ap (drop t.columns) (of_direction σ r (direction_of t r) (row_of t r) o)
    ∙ drop-map_from (λ j x. scaled_by (σ j) (σ r) x) t.columns 0 (row_multipliers (direction_of t r) r (row_of t r))
    ∙ ap (λ k. unscaled_row σ (σ r) k (drop t.columns (row_multipliers (direction_of t r) r (row_of t r)))) (let e : 0 + t.columns ≡ t.columns = omega arith in e))
