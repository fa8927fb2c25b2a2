-- From what code keeps to the laws.
use Rattle.std.proofs.Common.{◌≡◌, ℕ, ◌-◌, ◌<◌, ◌≤◌, arith, ap, sym, ◌∙◌, subst, Bool, true, false, Option, Some, None, IfSome, List, drop, length, get_or, inl, inr}
use Rattle.std.specs.Prelude.{nat_abs, nat_lt, if◌then◌else◌}
use Rattle.std.proofs.Math.Nat.{mul-le-mul_left}
use Rattle.std.proofs.lemmas.Bool.{cases_lt}
use Rattle.std.proofs.lemmas.List.{get_or_past}
use Rattle.fraction.specs.Rational.{ℚ}
use Rattle.tableau.specs.Elimination.{entry}
use Rattle.tableau.specs.Tableau.{Tableau, row_of}
use Rattle.integer_tableau.specs.Small.{IsOver, IsSmallTimes}
use Rattle.integer_tableau.specs.Scales.{AreScalesTo, scale_at, unscaled, unscaled_row}
use Rattle.scaled_program.specs.Sizes.{AreSmallTimes, IsSmall}
use Rattle.scaled_program.proofs.Places.{place_unscaled, row_unscaled}
use Rattle.scaled_program.proofs.Pivots.{pivoted_columns}
use Rattle.scaled_program.proofs.Runs.{asked_pivot}
use Rattle.scaled_program.proofs.AnswersRead.{costs_multipliers, point_unscaled, row_multipliers_unscaled}
use Rattle.scaled_program.proofs.NumbersRead.{drop_unscaled, rows_alone, small_drop, small_multipliers}
use Rattle.tableau.specs.Multipliers.{direction_of, mult_of_cost, mult_of_row, numbered, point_of, row_multipliers}
use Rattle.tableau.specs.Pivot.{pivoted}
use Rattle.tableau.specs.Place.{place}
use Rattle.tableau.specs.declared.place.Place.TheVariants.{Pivot}
use Rattle.integer_tableau.specs.Lemmas.Scales.{column_scale}

-- two clauses on what an option has
pub both : {A : Type 0} (P Q R : A → Type 0) (o : Option A) → ((x : A) → P x → Q x → R x) → IfSome o P → IfSome o Q → IfSome o R
both P Q R None f h k = tt
both P Q R (Some x) f h k = f x h k

fewer : (d k m : ℕ) (x : ℚ) → m ≤ k → IsOver d k x → IsOver d m x
fewer d k m x l h = record { numerator = h.numerator; small = omega (arith, h.small, mul-le-mul_left (nat_abs h.numerator) l); exact = h.exact }

module _ (greatest : ℕ) (scales : List ℕ) (costs : ℕ) (h : AreScalesTo greatest scales costs) where
  at : (i : ℕ) → (0 < get_or scales i 1) × (get_or scales i 1 ≤ greatest)
  at i = elim (cases_lt i (length scales)) [
    | inl l ↦ h.each i l
    | inr l ↦ subst (λ n. (0 < n) × (n ≤ greatest)) (sym (get_or_past scales i 1 l)) (omega arith, omega (arith, h.one))
  ]

  pub scale_is : (columns i : ℕ) → (0 < scale_at columns scales i) × (scale_at columns scales i ≤ greatest)
  scale_is columns i = step (nat_lt i columns)
    where
      step : (b : Bool) → (0 < (if b then 1 else get_or scales (i - columns) 1)) × ((if b then 1 else get_or scales (i - columns) 1) ≤ greatest)
      step true = (omega arith, omega (arith, h.one))
      step false = at (i - columns)

  pub is_small : (columns : ℕ) (t : Tableau) → IsSmallTimes greatest t → IsSmall (scale_at columns scales) costs t
  is_small columns t x = record {
    denominator = x.denominator;
    at_denominator = record {
      positive = x.positive;
      denominators = λ i. let k = scale_is columns i in (k.0, omega (arith, x.small, mul-le-mul_left x.denominator k.1));
      cost_denominator = (h.costs.0, omega (arith, x.small, mul-le-mul_left x.denominator h.costs.1));
      rows = λ i j. fewer x.denominator greatest (scale_at columns scales j) (entry (row_of t i) j) (scale_is columns j).1 (x.rows i j);
      costs = λ j. fewer x.denominator greatest (scale_at columns scales j) (entry t.reduced_costs j) (scale_is columns j).1 (x.costs j);
      numbers = x.numbers;
      point = x.point;
      total = x.total;
    };
  }

-- ---- tableaus that code keeps
module _ (greatest : ℕ) (scales : List ℕ) (costs : ℕ) (h : AreScalesTo greatest scales costs) (t v : Tableau) (small : IsSmallTimes greatest t)
    (view : unscaled (scale_at t.columns scales) costs t ≡ v) where
  pub place_is : place t ≡ place v
  place_is = let x = is_small greatest scales costs h t.columns t small in sym (place_unscaled x.denominator (scale_at t.columns scales) costs t x.at_denominator) ∙ ap place view

  pub point_from_code : point_of t ≡ point_of v
  point_from_code = sym (point_unscaled (scale_at t.columns scales) costs t (λ j l. column_scale t.columns scales j l)) ∙ ap point_of view

  columns_stay : (u : Tableau) (r c : ℕ) → pivoted r c t ≡ Some u → t.columns ≡ u.columns
  columns_stay u r c e = pivoted_columns r c t u e

  pub pivot_from_code : (u w : Tableau) (r c : ℕ) → IsSmallTimes greatest u → place v ≡ Pivot r c → pivoted r c t ≡ Some u → w ≡ unscaled (scale_at u.columns scales) costs u → pivoted r c v ≡ Some w
  pivot_from_code u w r c small' asked e f =
      let x = is_small greatest scales costs h t.columns t small in
      let y = is_small greatest scales costs h t.columns u small' in
      ap (pivoted r c) (sym view)
      ∙ asked_pivot small.variables (scale_at t.columns scales) costs t u r c small.shaped x y (place_is ∙ asked) e
      ∙ ap Some (ap (λ n. unscaled (scale_at n scales) costs u) (columns_stay u r c e) ∙ sym f)

  -- ---- multipliers, and what the tableau says of one variable
  pub costs_small : AreSmallTimes greatest (drop t.columns t.reduced_costs)
  costs_small = small_drop greatest t.columns t.reduced_costs record { denominator = small.denominator; positive = small.positive; small = small.small; numbers = small.costs }

  pub row_small : (i : ℕ) → AreSmallTimes greatest (row_of t i)
  row_small i = record { denominator = small.denominator; positive = small.positive; small = small.small; numbers = small.rows i }

  pub multipliers_small : (r : ℕ) → AreSmallTimes greatest (drop t.columns (row_multipliers (direction_of t r) r (row_of t r)))
  multipliers_small r = small_drop greatest t.columns _ (small_multipliers greatest r (direction_of t r) (row_of t r) (row_small r))

  pub costs_from_code : (ms : List ℚ) → ms ≡ unscaled_row (scale_at 0 scales) costs 0 (drop t.columns t.reduced_costs) → numbered t.numbers ms ≡ mult_of_cost v
  costs_from_code ms e =
      ap (numbered t.numbers) (e ∙ rows_alone t.columns scales costs (drop t.columns t.reduced_costs)) ∙ sym (costs_multipliers (scale_at t.columns scales) costs t) ∙ ap mult_of_cost view

  pub row_from_code : (r unit : ℕ) (ms : List ℚ) → unit ≡ scale_at t.columns scales r
      → ms ≡ unscaled_row (scale_at 0 scales) unit 0 (drop t.columns (row_multipliers (direction_of t r) r (row_of t r))) → numbered t.numbers ms ≡ mult_of_row v r
  row_from_code r unit ms u e =
      let xs = drop t.columns (row_multipliers (direction_of t r) r (row_of t r)) in
      ap (numbered t.numbers) (e ∙ rows_alone t.columns scales unit xs ∙ ap (λ k. unscaled_row (scale_at t.columns scales) k t.columns xs) u)
      ∙ sym (row_multipliers_unscaled (scale_at t.columns scales) costs t r (scale_is greatest scales costs h t.columns r).0)
      ∙ ap (λ w. mult_of_row w r) view

  pub coefficients_from_code : (i first unit : ℕ) (xs : List ℚ) → unit ≡ scale_at t.columns scales i → xs ≡ unscaled_row (scale_at t.columns scales) unit first (drop first (row_of t i)) → xs ≡ drop first (row_of v i)
  coefficients_from_code i first unit xs u e =
      e
      ∙ sym (drop_unscaled (scale_at t.columns scales) unit first (row_of t i))
      ∙ ap (drop first) (ap (λ k. unscaled_row (scale_at t.columns scales) k 0 (row_of t i)) u ∙ sym (row_unscaled (scale_at t.columns scales) t.rows i) ∙ ap (λ w. row_of w i) view)
