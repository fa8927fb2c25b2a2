-- A tableau on whole numbers as the tableau of fractions that it stands for, and a pivot of it.
use Rattle.std.proofs.Common.{◌≡◌, ◌≢◌, ℕ, zero, suc, ◌+◌, ◌-◌, ◌<◌, arith, refl, ap, sym, ◌∙◌, Bool, true, false, Some, List, [], ◌∷◌, length, get_or, set}
use Rattle.std.specs.Prelude.{ℤ, pos, nat_abs, map}
use Rattle.std.specs.Option.{option_and_then, option_map}
use Rattle.std.specs.List.{swap}
use Rattle.std.proofs.lemmas.List.{map-set, length-set}
use Rattle.std.proofs.lemmas.List.Edits.{swap_is}
use Rattle.fraction.specs.Checked.{dot_checked}
use Rattle.fraction.specs.Rational.{frac, whole, ℚ}
use Rattle.integer_tableau.proofs.AllRows.{new_is, rows_are, swapped_are}
use Rattle.integer_tableau.proofs.RowsByVariable.{row_substituted}
use Rattle.integer_tableau.proofs.Sums.{value_is}
use Rattle.integer_tableau.specs.IntegerTableau.{IntegerTableau, bound_status, fraction_bounds, row_of_position, rows_of, status, statuses_of, tableau_of, value, values_of}
use Rattle.integer_tableau.specs.Numbers.{IsWithin, number_at, total_size}
use Rattle.integer_tableau.specs.Range.{size_limit}
use Rattle.integer_tableau.specs.Pivot.{is_upper}
use Rattle.integer_tableau.specs.Positions.{IsColumnOf, coefficients, sum_over}
use Rattle.integer_tableau.proofs.Exchanges.{nonbasic_values_exchanged, positions_exchanged}
use Rattle.integer_tableau.specs.Substitution.{IsSolvedFor, IsSubstituted}
use Rattle.integer_tableau.specs.declared.position.Position.{Position}
use Rattle.integer_tableau.specs.declared.position.Position.TheVariants.{InBasis, InColumn}
use Rattle.tableau.specs.Elimination.{substituted}
use Rattle.tableau.specs.Leaving.{unbounded, violated_bound, violation}
use Rattle.tableau.specs.Pivot.{basis_exchanged, computed_value, computed_values, eliminated, exchanged, pivoted, revalued, status_after}
use Rattle.tableau.specs.Tableau.{Tableau}
use Rattle.tableau.specs.declared.bounds.Direction.{Direction}
use Rattle.tableau.specs.declared.bounds.Direction.TheVariants.{Fall, Rise}
use Rattle.tableau.specs.declared.status.BasisStatus.TheVariants.{Basic}

-- ---- lists made variable by variable
statuses-set : (ss : List Position) (us : List Bool) (v : ℕ) (s : Position) (u : Bool) → statuses_of (set ss v s) (set us v u) ≡ set (statuses_of ss us) v (status s u)
statuses-set [] us v s u = refl
statuses-set (t ∷ ss) [] zero s u = refl
statuses-set (t ∷ ss) [] (suc v) s u = refl
statuses-set (t ∷ ss) (w ∷ us) zero s u = refl
statuses-set (t ∷ ss) (w ∷ us) (suc v) s u = ap (λ xs. status t w ∷ xs) (statuses-set ss us v s u)

pub get_or-values : (d : ℕ) (ss : List Position) (xs vs : List ℤ) (v : ℕ) → length xs ≡ length ss → length vs ≡ length ss → v < length ss
    → get_or (values_of d ss xs vs) v (whole (pos 0)) ≡ value d (get_or ss v InBasis) (number_at xs v) (number_at vs v)
get_or-values d [] xs vs v e f h = absurd (omega arith)
get_or-values d (s ∷ ss) [] vs v e f h = absurd (omega arith)
get_or-values d (s ∷ ss) (x ∷ xs) [] v e f h = absurd (omega arith)
get_or-values d (s ∷ ss) (x ∷ xs) (y ∷ vs) zero e f h = refl
get_or-values d (s ∷ ss) (x ∷ xs) (y ∷ vs) (suc v) e f h = get_or-values d ss xs vs v (omega arith) (omega arith) (omega arith)

computed_one : (nonbasic_values : List ℚ) (d : ℕ) (all : List Position) (s : Position) (u : Bool) (x : ℤ) (l : List ℤ) (v : ℤ)
    → (s ≡ InBasis → dot_checked (coefficients d all l) nonbasic_values ≡ Some (frac v d)) → computed_value nonbasic_values (status s u) (whole x) (row_of_position d all s l) ≡ Some (value d s x v)
computed_one nonbasic_values d all InBasis u x l v h = h refl
computed_one nonbasic_values d all (InColumn k) true x l v h = refl
computed_one nonbasic_values d all (InColumn k) false x l v h = refl

pub computed_each : (nonbasic_values : List ℚ) (d : ℕ) (all ss : List Position) (us : List Bool) (xs : List ℤ) (ls : List (List ℤ)) (vs : List ℤ)
    → length us ≡ length ss → length xs ≡ length ss → length ls ≡ length ss → length vs ≡ length ss
    → ((v : ℕ) → v < length ss → get_or ss v InBasis ≡ InBasis → dot_checked (coefficients d all (get_or ls v [])) nonbasic_values ≡ Some (frac (number_at vs v) d))
    → computed_values nonbasic_values (statuses_of ss us) (map whole xs) (rows_of (row_of_position d all) ss ls) ≡ Some (values_of d ss xs vs)
computed_each nonbasic_values d all [] us xs ls vs e f g m h = refl
computed_each nonbasic_values d all (s ∷ ss) [] xs ls vs e f g m h = absurd (omega arith)
computed_each nonbasic_values d all (s ∷ ss) (u ∷ us) [] ls vs e f g m h = absurd (omega arith)
computed_each nonbasic_values d all (s ∷ ss) (u ∷ us) (x ∷ xs) [] vs e f g m h = absurd (omega arith)
computed_each nonbasic_values d all (s ∷ ss) (u ∷ us) (x ∷ xs) (l ∷ ls) [] e f g m h = absurd (omega arith)
computed_each nonbasic_values d all (s ∷ ss) (u ∷ us) (x ∷ xs) (l ∷ ls) (v ∷ vs) e f g m h =
    ap (option_and_then (λ y. option_map (λ ys. y ∷ ys) (computed_values nonbasic_values (statuses_of ss us) (map whole xs) (rows_of (row_of_position d all) ss ls)))) (computed_one nonbasic_values d all s u x l v (λ q. h zero (omega arith) q))
    ∙ ap (option_map (λ ys. value d s x v ∷ ys)) (computed_each nonbasic_values d all ss us xs ls vs (omega arith) (omega arith) (omega arith) (omega arith) (λ j n q. h (suc j) (omega arith) q))

-- ---- a pivot

pub status_after_is : (w : Direction) → status_after w ≡ bound_status (is_upper w)
status_after_is Rise = refl
status_after_is Fall = refl

-- what a pivot of r and c makes: the rows are those of `news`, with r and c in each other's place
abbrev pub pivot_result : ℕ → ℕ → ℕ → Direction → ℤ → List (List ℤ) → List ℤ → List ℤ → IntegerTableau → IntegerTableau
pivot_result r c k direction b news reduced_costs values w = record w {
  positions = positions_exchanged r c k w.positions;
  at_upper = set (set w.at_upper r (is_upper direction)) c false;
  nonbasic_values = nonbasic_values_exchanged r c b w.nonbasic_values;
  rows = swap news r c;
  reduced_costs = reduced_costs;
  values = values;
  denominator = nat_abs (number_at (get_or w.rows r []) k);
  pivots = w.pivots + 1;
}

-- what holds of a pivot on whole numbers that was not given up
pub record IsExactPivot (w : IntegerTableau) (r c k : ℕ) (direction : Direction) (b : ℤ) (news : List (List ℤ)) (reduced_costs values : List ℤ) : Type 0 where
  pub alone : IsColumnOf w.positions c k
  pub at_c : get_or w.positions c InBasis ≡ InColumn k
  pub at_r : get_or w.positions r InBasis ≡ InBasis
  pub c_there : c < length w.positions
  pub r_there : r < length w.positions
  pub positive : 0 < w.denominator
  pub denominator_small : w.denominator < size_limit
  pub as_many_rows : length w.rows ≡ length w.positions
  pub as_many_news : length news ≡ length w.positions
  pub as_many_at_upper : length w.at_upper ≡ length w.positions
  pub as_many_nonbasic_values : length w.nonbasic_values ≡ length w.positions
  pub as_many_values : length w.values ≡ length w.positions
  pub as_many_after : length values ≡ length w.positions
  pub long : (v : ℕ) → v < length w.positions → get_or w.positions v InBasis ≡ InBasis → k < length (get_or w.rows v [])
  pub small : (v : ℕ) → IsWithin (size_limit - 1) (get_or w.rows v [])
  pub new_small : (v : ℕ) → IsWithin (size_limit - 1) (get_or (swap news r c) v [])
  pub source_small : IsWithin (size_limit - 1) (get_or news r [])
  pub pivot : 0 < nat_abs (number_at (get_or w.rows r []) k)
  pub turn : IsSolvedFor (number_at (get_or w.rows r []) k) k w.denominator (get_or w.rows r []) (get_or news r [])
  pub steps : (v : ℕ) → v < length w.positions → v ≢ r → get_or w.positions v InBasis ≡ InBasis
      → IsSubstituted (pos w.denominator) (pos (nat_abs (number_at (get_or w.rows r []) k))) (number_at (get_or w.rows v []) k) (set (get_or w.rows v []) k (pos 0)) (get_or news r []) (get_or news v [])
  pub cost_long : k < length w.reduced_costs
  pub cost_small : IsWithin (size_limit - 1) w.reduced_costs
  pub cost_step : IsSubstituted (pos w.denominator) (pos (nat_abs (number_at (get_or w.rows r []) k))) (number_at w.reduced_costs k) (set w.reduced_costs k (pos 0)) (get_or news r []) reduced_costs
  pub violated : violation (get_or (map fraction_bounds w.bounds) r unbounded) (frac (number_at w.values r) w.denominator) ≡ Some direction
  pub bound : violated_bound direction (get_or (map fraction_bounds w.bounds) r unbounded) ≡ whole b
  pub total_small : total_size (nonbasic_values_exchanged r c b w.nonbasic_values) < size_limit
  pub exact : (v : ℕ) → v < length w.positions → get_or (positions_exchanged r c k w.positions) v InBasis ≡ InBasis
      → number_at values v ≡ sum_over (positions_exchanged r c k w.positions) (get_or (swap news r c) v []) (nonbasic_values_exchanged r c b w.nonbasic_values)

module _ (columns : ℕ) (numbers : List ℕ) (w : IntegerTableau) (r c k : ℕ) (direction : Direction) (b : ℤ) (news : List (List ℤ)) (reduced_costs values : List ℤ) (h : IsExactPivot w r c k direction b news reduced_costs values) where
  abbrev e : ℕ
  e = nat_abs (number_at (get_or w.rows r []) k)

  abbrev between : List (List ℚ)
  between = rows_of (row_of_position e (positions_exchanged r c k w.positions)) w.positions news

  he : e < size_limit
  he = omega (arith, h.small r k)

  -- rows and reduced costs
  eliminated_is : eliminated r c (tableau_of columns numbers w) ≡ Some (record (tableau_of columns numbers w) { rows = between; reduced_costs = coefficients e (positions_exchanged r c k w.positions) reduced_costs })
  eliminated_is =
      ap (option_and_then (λ rows. option_map (λ reduced_costs. record (tableau_of columns numbers w) { rows = rows; reduced_costs = reduced_costs }) (substituted c (get_or rows r []) (coefficients w.denominator w.positions w.reduced_costs))))
      (rows_are w.positions r c k w.denominator h.alone h.at_c h.at_r h.c_there h.r_there h.positive h.denominator_small w.rows news h.as_many_rows h.as_many_news h.long h.small h.source_small h.pivot h.turn h.steps)
      ∙ ap (option_map (λ reduced_costs. record (tableau_of columns numbers w) { rows = between; reduced_costs = reduced_costs }))
      (ap (λ new. substituted c new (coefficients w.denominator w.positions w.reduced_costs))
      (new_is w.positions r c k w.denominator h.alone h.at_c h.at_r h.c_there h.r_there h.positive h.denominator_small w.rows news h.as_many_rows h.as_many_news h.long h.small h.source_small h.pivot h.turn h.steps)
      ∙ row_substituted w.positions r c k w.denominator e h.alone h.at_c h.at_r h.c_there h.r_there h.positive h.denominator_small w.reduced_costs (get_or news r []) reduced_costs h.pivot he h.cost_long h.cost_small h.source_small h.cost_step)

  abbrev after : IntegerTableau
  after = pivot_result r c k direction b news reduced_costs values w

  -- the basis
  abbrev exchanged_tableau : Tableau
  exchanged_tableau = record (tableau_of columns numbers w) {
    statuses = statuses_of after.positions after.at_upper;
    nonbasic_values = map whole after.nonbasic_values;
    rows = rows_of (row_of_position e after.positions) after.positions after.rows;
    reduced_costs = coefficients e after.positions reduced_costs;
  }

  statuses_are : set (set (statuses_of w.positions w.at_upper) r (status_after direction)) c Basic ≡ statuses_of after.positions after.at_upper
  statuses_are =
      ap (λ s. set (set (statuses_of w.positions w.at_upper) r s) c Basic) (status_after_is direction)
      ∙ sym (statuses-set (set w.positions r (InColumn k)) (set w.at_upper r (is_upper direction)) c InBasis false ∙ ap (λ xs. set xs c Basic) (statuses-set w.positions w.at_upper r (InColumn k) (is_upper direction)))

  nonbasic_values_are : set (set (map whole w.nonbasic_values) r (violated_bound direction (get_or (map fraction_bounds w.bounds) r unbounded))) c (whole (pos 0)) ≡ map whole after.nonbasic_values
  nonbasic_values_are =
      ap (λ x. set (set (map whole w.nonbasic_values) r x) c (whole (pos 0))) h.bound
      ∙ sym (map-set whole (set w.nonbasic_values r b) c (pos 0) ∙ ap (λ xs. set xs c (whole (pos 0))) (map-set whole w.nonbasic_values r b))

  basis_exchanged_is : basis_exchanged r c direction (record (tableau_of columns numbers w) { rows = between; reduced_costs = coefficients e (positions_exchanged r c k w.positions) reduced_costs }) ≡ exchanged_tableau
  basis_exchanged_is = λ i. record (tableau_of columns numbers w) {
    statuses = statuses_are i;
    nonbasic_values = nonbasic_values_are i;
    rows = swapped_are w.positions r c k w.denominator h.alone h.at_c h.at_r h.c_there h.r_there h.positive h.denominator_small w.rows news h.as_many_rows h.as_many_news h.long h.small h.source_small h.pivot h.turn h.steps i;
    reduced_costs = coefficients e (positions_exchanged r c k w.positions) reduced_costs;
  }

  -- the values
  same_positions : length after.positions ≡ length w.positions
  same_positions = length-set (set w.positions r (InColumn k)) c InBasis ∙ length-set w.positions r (InColumn k)

  same_at_upper : length after.at_upper ≡ length w.positions
  same_at_upper = length-set (set w.at_upper r (is_upper direction)) c false ∙ length-set w.at_upper r (is_upper direction) ∙ h.as_many_at_upper

  same_nonbasic_values : length after.nonbasic_values ≡ length w.positions
  same_nonbasic_values = length-set (set w.nonbasic_values r b) c (pos 0) ∙ length-set w.nonbasic_values r b ∙ h.as_many_nonbasic_values

  same_rows : length after.rows ≡ length w.positions
  same_rows =
      ap length (sym (swap_is news r c [] (omega (arith, h.as_many_news, h.r_there)) (omega (arith, h.as_many_news, h.c_there))))
      ∙ length-set (set news r (get_or news c [])) c (get_or news r []) ∙ length-set news r (get_or news c []) ∙ h.as_many_news

  values_are : computed_values (map whole after.nonbasic_values) (statuses_of after.positions after.at_upper) (map whole after.nonbasic_values) (rows_of (row_of_position e after.positions) after.positions after.rows) ≡ Some (values_of e after.positions after.nonbasic_values values)
  values_are = computed_each (map whole after.nonbasic_values) e after.positions after.positions after.at_upper after.nonbasic_values after.rows values
      (same_at_upper ∙ sym same_positions) (same_nonbasic_values ∙ sym same_positions) (same_rows ∙ sym same_positions) (h.as_many_after ∙ sym same_positions)
      (λ v l q. value_is e (size_limit - 1) (get_or after.rows v []) after.positions after.nonbasic_values h.pivot he (h.new_small v) (omega (arith, h.total_small))
      ∙ ap (λ z. Some (frac z e)) (sym (h.exact v (omega (arith, l, same_positions)) q)))

  value_r : get_or (values_of w.denominator w.positions w.nonbasic_values w.values) r (whole (pos 0)) ≡ frac (number_at w.values r) w.denominator
  value_r = get_or-values w.denominator w.positions w.nonbasic_values w.values r h.as_many_nonbasic_values h.as_many_values h.r_there ∙ ap (λ s. value w.denominator s (number_at w.nonbasic_values r) (number_at w.values r)) h.at_r

  -- the tableau of fractions after the pivot is the one that the whole numbers stand for
  pub pivoted_is : pivoted r c (tableau_of columns numbers w) ≡ Some (tableau_of columns numbers after)
  pivoted_is =
      ap (option_and_then (λ w'. exchanged r c w' (tableau_of columns numbers w))) (ap (violation (get_or (map fraction_bounds w.bounds) r unbounded)) value_r ∙ h.violated)
      ∙ ap (option_and_then (λ u. revalued (basis_exchanged r c direction u))) eliminated_is
      ∙ ap revalued basis_exchanged_is
      ∙ ap (option_map (λ values. record exchanged_tableau { values = values; pivots = w.pivots + 1 })) values_are
