-- A tableau whose numbers are within a limit that is small many times over.
use Rattle.std.proofs.Common.{◌≡◌, ℕ, zero, suc, ◌+◌, ◌*◌, ◌<◌, ◌≤◌, arith, refl, ap, sym, ◌∙◌, subst, List, [], ◌∷◌, length, get_or, max, inl, inr, Bool}
use Rattle.std.specs.Prelude.{ℤ, nat_abs}
use Rattle.std.proofs.Math.Nat.{mul-le-mul_right}
use Rattle.std.proofs.lemmas.Bool.{cases_lt}
use Rattle.std.proofs.lemmas.List.{get_or-map, get_or_past, length-map}
use Rattle.tableau.specs.Elimination.{entry, zero_ℚ}
use Rattle.tableau.specs.Invariants.{IsNonbasic}
use Rattle.tableau.specs.Tableau.{Tableau, row_of, status_of}
use Rattle.tableau.specs.declared.status.BasisStatus.TheVariants.{Basic}
use Rattle.integer_tableau.proofs.AllRows.{get_or-rows_of}
use Rattle.integer_tableau.proofs.Expanded.{row_of_column, row_of_row, which}
use Rattle.integer_tableau.specs.Lemmas.Fractions.{none_over, zero_is_over}
use Rattle.integer_tableau.proofs.Sums.{coefficient_is, numerator_within}
use Rattle.integer_tableau.proofs.ToFractions.{bounds_many, costs_many, nonbasic_values_many, rows_many, statuses_many, values_many}
use Rattle.integer_tableau.specs.Combined.{IsCompact, combined, combined_row, expanded, row_if_basic}
use Rattle.integer_tableau.specs.Consistent.{IsConsistent}
use Rattle.integer_tableau.specs.IntegerTableau.{IntegerTableau, row_of_position, statuses_of, tableau_of}
use Rattle.integer_tableau.specs.Numbers.{IsWithin, total_size}
use Rattle.integer_tableau.specs.Range.{size_limit}
use Rattle.integer_tableau.specs.Positions.{coefficient, coefficients, numerator}
use Rattle.integer_tableau.specs.Small.{AreNumbersWithin, IsKept, IsOver, IsSmallTimes}
use Rattle.integer_tableau.proofs.Combining.{combined_row_within, combined_within}
use Rattle.integer_tableau.specs.declared.position.Position.{Position}
use Rattle.integer_tableau.specs.declared.position.Position.TheVariants.{InBasis, InColumn}

-- ---- a row
coefficient_over : (limit d k : ℕ) (row : List ℤ) (s : Position) → 0 < d → limit * k < size_limit → IsWithin limit row → IsOver d k (coefficient d row s)
coefficient_over limit d k row s o l h = record {
  numerator = numerator row s;
  small = omega (arith, l, mul-le-mul_right k (numerator_within limit row s h));
  exact = coefficient_is d row s o;
}

pub coefficients_over : (limit d k : ℕ) (row : List ℤ) (ss : List Position) → 0 < d → limit * k < size_limit → IsWithin limit row → (j : ℕ) → IsOver d k (entry (coefficients d ss row) j)
coefficients_over limit d k row ss o l h j = elim (cases_lt j (length ss)) [
  | inl m ↦ subst (IsOver d k) (sym (get_or-map (coefficient d row) ss j InBasis zero_ℚ m)) (coefficient_over limit d k row (get_or ss j InBasis) o l h)
  | inr m ↦ subst (IsOver d k) (sym (get_or_past (coefficients d ss row) j zero_ℚ (omega (arith, m, length-map ss (coefficient d row))))) (zero_is_over d k o)
]

pub row_over : (limit d k : ℕ) (all : List Position) (s : Position) (row : List ℤ) → 0 < d → limit * k < size_limit → (s ≡ InBasis → IsWithin limit row) → (j : ℕ) → IsOver d k (entry (row_of_position d all s row) j)
row_over limit d k all InBasis row o l h j = coefficients_over limit d k row all o l (h refl) j
row_over limit d k all (InColumn c) row o l h j = none_over d k j o

-- ---- statuses
status_at : (ss : List Position) (us : List Bool) (i : ℕ) → length us ≡ length ss → i < length ss → IsNonbasic (get_or (statuses_of ss us) i Basic) → (c : ℕ) × (get_or ss i InBasis ≡ InColumn c)
status_at [] us i e l h = absurd (omega arith)
status_at (s ∷ ss) [] i e l h = absurd (omega arith)
status_at (InBasis ∷ ss) (u ∷ us) zero e l h = absurd h
status_at (InColumn c ∷ ss) (u ∷ us) zero e l h = (c, refl)
status_at (s ∷ ss) (u ∷ us) (suc i) e l h = status_at ss us i (omega arith) (omega arith) h

-- ---- the whole tableau
module _ (numbers : List ℕ) (ps : List (List ℤ)) (weight reach : ℕ) (w : IntegerTableau) (compact : IsCompact ps weight reach w) (limit k : ℕ) (small : limit * k < size_limit)
    (h : AreNumbersWithin limit w.denominator ps w.positions w.rows w.reduced_costs) where
  cons : IsConsistent (expanded ps w)
  cons = compact.consistent

  abbrev t : Tableau
  t = tableau_of (length w.rows) numbers (expanded ps w)

  row_is : (i : ℕ) → i < length w.positions → row_of t i ≡ row_of_position w.denominator w.positions (get_or w.positions i InBasis) (get_or (expanded ps w).rows i [])
  row_is i l = get_or-rows_of (row_of_position w.denominator w.positions) w.positions (expanded ps w).rows i cons.rows l

  numbers_within : (i : ℕ) → i < length w.positions → get_or w.positions i InBasis ≡ InBasis → IsWithin limit (get_or (expanded ps w).rows i [])
  numbers_within i l e = elim (which (length w.rows) (length ps) i (omega (arith, l, compact.variables))) [
    | inl m ↦ subst (IsWithin limit) (sym (row_of_column w.denominator ps w.positions w.rows i m)) (h.rows_within i m)
    | inr z ↦ at z.0 z.1 (sym (ap (λ i. get_or w.positions i InBasis) z.2) ∙ e) (sym z.2)
  ]
    where
      at : (m : ℕ) → m < length ps → get_or w.positions (length w.rows + m) InBasis ≡ InBasis → length w.rows + m ≡ i → IsWithin limit (get_or (expanded ps w).rows i [])
      at m l e f = subst (λ i. IsWithin limit (get_or (expanded ps w).rows i [])) f
          (subst (IsWithin limit) (sym (row_of_row w.denominator ps w.positions w.rows compact.variables m l ∙ ap (λ s. row_if_basic s (combined_row w.denominator w.positions w.rows (get_or ps m []))) e)) (h.combinations m l e))

  rows_over : (i j : ℕ) → IsOver w.denominator k (entry (row_of t i) j)
  rows_over i j = elim (cases_lt i (length w.positions)) [
    | inl l ↦ subst (λ row. IsOver w.denominator k (entry row j)) (sym (row_is i l))
        (row_over limit w.denominator k w.positions (get_or w.positions i InBasis) (get_or (expanded ps w).rows i []) cons.positive small (numbers_within i l) j)
    | inr l ↦ subst (λ row. IsOver w.denominator k (entry row j)) (sym (get_or_past t.rows i [] (omega (arith, l, rows_many (length w.rows) numbers ps weight reach w t compact refl refl)))) (none_over w.denominator k j cons.positive)
  ]

  no_row : (i : ℕ) → i < length w.positions → IsNonbasic (status_of t i) → row_of t i ≡ []
  no_row i l m =
      let c = status_at w.positions w.at_upper i cons.at_upper l m in
      row_is i l ∙ ap (λ s. row_of_position w.denominator w.positions s (get_or (expanded ps w).rows i [])) c.1

  pub is_small_times : IsSmallTimes k t
  is_small_times = record {
    variables = length w.positions;
    shaped = record {
      size = record {
        bounds = bounds_many (length w.rows) numbers ps weight reach w t compact refl refl;
        statuses = statuses_many (length w.rows) numbers ps weight reach w t compact refl refl;
        nonbasic_values = nonbasic_values_many (length w.rows) numbers ps weight reach w t compact refl refl;
        rows = rows_many (length w.rows) numbers ps weight reach w t compact refl refl;
        reduced_costs = costs_many (length w.rows) numbers ps weight reach w t compact refl refl;
        values = values_many (length w.rows) numbers ps weight reach w t compact refl refl;
      };
      empty = no_row;
    };
    denominator = w.denominator;
    positive = cons.positive;
    small = omega (arith, small, mul-le-mul_right k h.denominator);
    rows = rows_over;
    costs = λ j. coefficients_over limit w.denominator k w.reduced_costs w.positions cons.positive small h.costs_within j;
    numbers = w.nonbasic_values;
    point = refl;
    total = cons.small;
  }

-- ---- the loop over the combinations
-- so many of them are within the limit
pub record AreSoFarWithin (n limit d : ℕ) (program_rows : List (List ℤ)) (positions : List Position) (rows : List (List ℤ)) (costs : List ℤ) : Type 0 where
  pub denominator : d ≤ limit
  pub rows_within : (v : ℕ) → v < length rows → IsWithin limit (get_or rows v [])
  pub costs_within : IsWithin limit costs
  pub combinations : (i : ℕ) → i < n → get_or positions (length rows + i) InBasis ≡ InBasis → IsWithin limit (combined_row d positions rows (get_or program_rows i []))

more_within : (a b : ℕ) (xs : List ℤ) → a ≤ b → IsWithin a xs → IsWithin b xs
more_within a b xs l h k = omega (arith, l, h k)

pub all_within : (n limit d : ℕ) (ps : List (List ℤ)) (ss : List Position) (rows : List (List ℤ)) (costs : List ℤ) → length ps ≤ n → AreSoFarWithin n limit d ps ss rows costs → AreNumbersWithin limit d ps ss rows costs
all_within n limit d ps ss rows costs l h = record {
  denominator = h.denominator;
  rows_within = h.rows_within;
  costs_within = h.costs_within;
  combinations = λ i m e. h.combinations i (omega (arith, l, m)) e;
}

-- one more, with a greater limit
pub one_past : (n limit more d : ℕ) (ps : List (List ℤ)) (ss : List Position) (rows : List (List ℤ)) (costs : List ℤ) → limit ≤ more
    → (get_or ss (length rows + n) InBasis ≡ InBasis → IsWithin more (combined_row d ss rows (get_or ps n []))) → AreSoFarWithin n limit d ps ss rows costs → AreSoFarWithin (n + 1) more d ps ss rows costs
one_past n limit more d ps ss rows costs a own h = record {
  denominator = omega (arith, a, h.denominator);
  rows_within = λ v l. more_within limit more (get_or rows v []) a (h.rows_within v l);
  costs_within = more_within limit more costs a h.costs_within;
  combinations = λ i m e. elim (cases_lt i n) [
    | inl l ↦ more_within limit more (combined_row d ss rows (get_or ps i [])) a (h.combinations i l e)
    | inr l ↦ at i (let f : n ≡ i = omega arith in f) e
  ];
}
  where
    at : (i : ℕ) → n ≡ i → get_or ss (length rows + i) InBasis ≡ InBasis → IsWithin more (combined_row d ss rows (get_or ps i []))
    at i f e = subst (λ i. IsWithin more (combined_row d ss rows (get_or ps i []))) f (own (ap (λ i. get_or ss (length rows + i) InBasis) f ∙ e))

-- ---- by the weight
pub by_weight : (weight most d : ℕ) (ps : List (List ℤ)) (ss : List Position) (rows : List (List ℤ)) (costs : List ℤ) → ((i : ℕ) → i < length ps → total_size (get_or ps i []) ≤ weight)
    → IsKept most d rows costs → AreNumbersWithin (max weight 1 * most) d ps ss rows costs
by_weight weight most d ps ss rows costs light h = record {
  denominator = omega (arith, h.denominator, least);
  rows_within = λ v l. more_within most (max weight 1 * most) (get_or rows v []) least (h.rows_within v l);
  costs_within = more_within most (max weight 1 * most) costs least h.costs_within;
  combinations = λ i l e. combined_row_within d (max weight 1 * most) (get_or ps i []) ss rows (λ k.
      below (total_size (get_or ps i [])) (max weight 1) most (nat_abs (combined d (get_or ps i []) ss rows k)) (omega (arith, light i l)) (combined_within d most k (get_or ps i []) ss rows h.denominator each));
}
  where
    least : most ≤ max weight 1 * most
    least = let one : 1 ≤ max weight 1 = omega arith in omega (arith, mul-le-mul_right most one)

    each : (j : ℕ) → IsWithin most (get_or rows j [])
    each j = elim (cases_lt j (length rows)) [
      | inl l ↦ h.rows_within j l
      | inr l ↦ subst (IsWithin most) (sym (get_or_past rows j [] l)) (λ k. omega arith)
    ]

    below : (t w m x : ℕ) → t ≤ w → x ≤ t * m → x ≤ w * m
    below t w m x l h = omega (arith, h, mul-le-mul_right m l)
