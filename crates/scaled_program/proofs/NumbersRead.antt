-- Numbers that code reads with scales: they are small enough for that, and a list of them is read from place to place.
use Rattle.std.proofs.Common.{◌≡◌, ℕ, zero, suc, ◌+◌, ◌*◌, ◌<◌, ◌≤◌, arith, refl, ap, sym, ◌∙◌, subst, List, [], ◌∷◌, ◌++◌, get_or, length, map, set, take, drop, inl, inr}
use Rattle.std.specs.Prelude.{pos, negsuc, neg_ℤ, nat_abs}
use Rattle.std.proofs.Math.Nat.{mul-le-mul}
use Rattle.std.proofs.lemmas.Bool.{cases_lt}
use Rattle.std.proofs.lemmas.Int.{ints}
use Rattle.std.proofs.lemmas.List.{get_or-drop, get_or-map, get_or_past, length-map, length-take, take_more}
use Rattle.fraction.specs.Lemmas.Rational.{frac_same, lit_one, neg_ℚ-frac}
use Rattle.fraction.specs.Rational.{ℚ, neg_ℚ, whole}
use Rattle.tableau.specs.declared.bounds.Direction.{Direction}
use Rattle.tableau.specs.declared.bounds.Direction.TheVariants.{Rise, Fall}
use Rattle.tableau.specs.Elimination.{entry, zero_ℚ}
use Rattle.tableau.specs.Multipliers.{row_multipliers}
use Rattle.integer_tableau.specs.Range.{size_limit}
use Rattle.integer_tableau.specs.Scales.{map_from, scale_at, scaled_by, unscaled_row}
use Rattle.integer_tableau.specs.Small.{IsOver}
use Rattle.scaled_program.specs.Sizes.{AreSmallTimes}
use Rattle.integer_tableau.specs.Lemmas.Fractions.{frac-den_le, less_over, zero_is_over}
use Rattle.fraction.specs.Lemmas.Bounds.{frac-num_le}
use Rattle.integer_tableau.specs.Lemmas.MapFrom.{append-map_from}
use Rattle.integer_tableau.specs.Lemmas.Scales.{row_scale}

-- ---- one number
module _ (d k : ℕ) (x : ℚ) (o : 0 < d) (l : d * k < size_limit) (h : IsOver d k x) where
  pub numerator_fits : (a : ℕ) → a ≤ k → nat_abs x.num * a ≤ size_limit
  numerator_fits a la =
      let n : nat_abs x.num ≤ nat_abs h.numerator = subst (λ (y : ℚ). nat_abs y.num ≤ nat_abs h.numerator) (sym h.exact) (frac-num_le h.numerator d o) in
      omega (arith, h.small, mul-le-mul n la)

  pub denominator_fits : (b : ℕ) → b ≤ k → x.den * b < size_limit
  denominator_fits b lb =
      let n : x.den ≤ d = subst (λ (y : ℚ). y.den ≤ d) (sym h.exact) (frac-den_le h.numerator d o) in
      omega (arith, l, mul-le-mul n lb)

-- ---- a list, from its front
pub one_more_from : {A B : Type 0} (f : ℕ → A → B) (first : ℕ) (all : List B) (xs : List A) (i : ℕ) (y : B) (d : A) → i < length xs → all ≡ map_from f first (take i xs)
    → y ≡ f (first + i) (get_or xs i d) → all ++ (y ∷ []) ≡ map_from f first (take (i + 1) xs)
one_more_from f first all xs i y d l h e =
    (λ t. h t ++ (e t ∷ []))
    ∙ ap (λ k. map_from f first (take i xs) ++ (f k (get_or xs i d) ∷ [])) many
    ∙ sym (append-map_from f first (take i xs) (get_or xs i d ∷ []))
    ∙ ap (map_from f first) (sym (take_more xs i d l))
  where
    many : first + i ≡ first + length (take i xs)
    many = omega (arith, l, length-take i xs)

pub one_more : {A B : Type 0} (f : ℕ → A → B) (all : List B) (xs : List A) (i : ℕ) (y : B) (d : A) → i < length xs → all ≡ map_from f 0 (take i xs) → y ≡ f i (get_or xs i d)
    → all ++ (y ∷ []) ≡ map_from f 0 (take (i + 1) xs)
one_more f all xs i y d l h e = one_more_from f 0 all xs i y d l h (e ∙ ap (λ k. f k (get_or xs i d)) (let z : i ≡ 0 + i = omega arith in z))

-- what is read of the numbers behind the first ones
drop_mapped : {A B : Type 0} (f : ℕ → A → B) (i n : ℕ) (xs : List A) → drop n (map_from f i xs) ≡ map_from f (i + n) (drop n xs)
drop_mapped f i zero xs = ap (λ k. map_from f k xs) (let z : i ≡ i + 0 = omega arith in z)
drop_mapped f i (suc n) [] = refl
drop_mapped f i (suc n) (x ∷ xs) = drop_mapped f (i + 1) n xs ∙ ap (λ k. map_from f k (drop n xs)) (let z : i + 1 + n ≡ i + suc n = omega arith in z)

pub drop_unscaled : (σ : ℕ → ℕ) (unit first : ℕ) (row : List ℚ) → drop first (unscaled_row σ unit 0 row) ≡ unscaled_row σ unit first (drop first row)
drop_unscaled σ unit first row = drop_mapped (λ j x. scaled_by (σ j) unit x) 0 first row ∙ ap (λ k. unscaled_row σ unit k (drop first row)) (let z : 0 + first ≡ first = omega arith in z)

-- ---- the rows' variables alone
scale_same : (n : ℕ) (scales : List ℕ) (j : ℕ) → scale_at 0 scales j ≡ scale_at n scales (n + j)
scale_same n scales j = ap (scale_at 0 scales) (let e : j ≡ 0 + j = omega arith in e) ∙ row_scale 0 scales j ∙ sym (row_scale n scales j)

shifted : (f g : ℕ → ℚ → ℚ) (n : ℕ) → ((j : ℕ) (x : ℚ) → f j x ≡ g (n + j) x) → (i : ℕ) (xs : List ℚ) → map_from f i xs ≡ map_from g (n + i) xs
shifted f g n h i [] = refl
shifted f g n h i (x ∷ xs) = λ t. h i x t ∷ (shifted f g n h (i + 1) xs ∙ ap (λ k. map_from g k xs) (let e : n + (i + 1) ≡ n + i + 1 = omega arith in e)) t

pub rows_alone : (n : ℕ) (scales : List ℕ) (unit : ℕ) (xs : List ℚ) → unscaled_row (scale_at 0 scales) unit 0 xs ≡ unscaled_row (scale_at n scales) unit n xs
rows_alone n scales unit xs =
    shifted (λ j x. scaled_by (scale_at 0 scales j) unit x) (λ j x. scaled_by (scale_at n scales j) unit x) n (λ j x. ap (λ s. scaled_by s unit x) (scale_same n scales j)) 0 xs
    ∙ ap (λ k. unscaled_row (scale_at n scales) unit k xs) (let e : n + 0 ≡ n = omega arith in e)

-- ---- multipliers are as small as the row is
negative_over : (d k : ℕ) (x : ℚ) → 0 < d → IsOver d k x → IsOver d k (neg_ℚ x)
negative_over d k x o h = record {
  numerator = neg_ℤ h.numerator;
  small = subst (λ n. n * k ≤ size_limit) (let e : nat_abs h.numerator ≡ nat_abs (neg_ℤ h.numerator) = omega (arith, ints) in e) h.small;
  exact = ap neg_ℚ h.exact ∙ neg_ℚ-frac h.numerator d o;
}

module _ (d k : ℕ) (o : 0 < d) (l : d * k < size_limit) where
  less_is_over : IsOver d k (whole (negsuc 0))
  less_is_over = record {
    numerator = neg_ℤ (pos d);
    small = subst (λ n. n * k ≤ size_limit) (let e : d ≡ nat_abs (neg_ℤ (pos d)) = omega (arith, ints) in e) (omega (arith, l));
    exact = sym (less_over d o);
  }

  one_is_over : IsOver d k (whole (pos 1))
  one_is_over = record { numerator = pos d; small = omega (arith, l); exact = frac_same _ _ _ _ lit_one o (omega (arith, ints)) }

negatives_over : (d k : ℕ) (xs : List ℚ) → 0 < d → ((j : ℕ) → IsOver d k (entry xs j)) → (j : ℕ) → IsOver d k (entry (map neg_ℚ xs) j)
negatives_over d k xs o h j = elim (cases_lt j (length xs)) [
  | inl m ↦ subst (IsOver d k) (sym (get_or-map neg_ℚ xs j zero_ℚ zero_ℚ m)) (negative_over d k (entry xs j) o (h j))
  | inr m ↦ subst (IsOver d k) (sym (get_or_past (map neg_ℚ xs) j zero_ℚ (omega (arith, m, length-map xs neg_ℚ)))) (zero_is_over d k o)
]

over_set : (d k : ℕ) (xs : List ℚ) (i : ℕ) (v : ℚ) → IsOver d k v → ((j : ℕ) → IsOver d k (entry xs j)) → (j : ℕ) → IsOver d k (entry (set xs i v) j)
over_set d k [] i v g h j = h j
over_set d k (x ∷ xs) zero v g h zero = g
over_set d k (x ∷ xs) zero v g h (suc j) = h (suc j)
over_set d k (x ∷ xs) (suc i) v g h zero = h zero
over_set d k (x ∷ xs) (suc i) v g h (suc j) = over_set d k xs i v g (λ j. h (suc j)) j

of_direction : (d k r : ℕ) (w : Direction) (row : List ℚ) → 0 < d → d * k < size_limit → ((j : ℕ) → IsOver d k (entry row j)) → (j : ℕ) → IsOver d k (entry (row_multipliers w r row) j)
of_direction d k r Rise row o l h = over_set d k (map neg_ℚ row) r (whole (pos 1)) (one_is_over d k o l) (negatives_over d k row o h)
of_direction d k r Fall row o l h = over_set d k row r (whole (negsuc 0)) (less_is_over d k o l) h

dropped : (d k n : ℕ) (xs : List ℚ) → ((j : ℕ) → IsOver d k (entry xs j)) → (j : ℕ) → IsOver d k (entry (drop n xs) j)
dropped d k n xs h j = subst (IsOver d k) (sym (get_or-drop n xs j zero_ℚ)) (h (n + j))

pub small_drop : (k n : ℕ) (xs : List ℚ) → AreSmallTimes k xs → AreSmallTimes k (drop n xs)
small_drop k n xs h = record { denominator = h.denominator; positive = h.positive; small = h.small; numbers = dropped h.denominator k n xs h.numbers }

pub small_multipliers : (k r : ℕ) (w : Direction) (row : List ℚ) → AreSmallTimes k row → AreSmallTimes k (row_multipliers w r row)
small_multipliers k r w row h = record {
  denominator = h.denominator;
  positive = h.positive;
  small = h.small;
  numbers = of_direction h.denominator k r w row h.positive h.small h.numbers;
}
