-- The parts of the tableau of fractions, from those of the tableau on whole numbers.
use Rattle.std.proofs.Common.{◌≡◌, ℕ, zero, suc, ◌+◌, ◌<◌, ◌≤◌, arith, refl, ap, sym, ◌∙◌, List, [], ◌∷◌, ◌++◌, length, get_or, take}
use Rattle.std.specs.Prelude.{ℤ, pos}
use Rattle.std.proofs.lemmas.List.{get_or_default, length-map, take_all}
use Rattle.fraction.specs.Rational.{frac, whole}
use Rattle.integer_tableau.proofs.AllRows.{length-rows_of}
use Rattle.integer_tableau.proofs.Answering.{value_at}
use Rattle.integer_tableau.proofs.Starting.{statuses_long}
use Rattle.integer_tableau.specs.Combined.{IsCompact, expanded, expanded_rows, expanded_values}
use Rattle.integer_tableau.specs.Consistent.{IsConsistent}
use Rattle.integer_tableau.specs.IntegerTableau.{IntegerTableau, fraction_bounds, row_of_position, tableau_of, value, values_of}
use Rattle.integer_tableau.specs.Numbers.{number_at}
use Rattle.integer_tableau.specs.Positions.{coefficient}
use Rattle.integer_tableau.specs.declared.position.Position.{Position}
use Rattle.integer_tableau.specs.declared.position.Position.TheVariants.{InBasis, InColumn}
use Rattle.tableau.specs.Tableau.{Tableau, value_of}

-- ---- loops over all variables
-- one element more
pub one_more : {X : Type 0} (xs done next : List X) (i : ℕ) (x d : X) → i < length xs → done ≡ take i xs → x ≡ get_or xs i d → next ≡ done ++ (x ∷ []) → next ≡ take (i + 1) xs
one_more xs done next i x d l e f g = g ∙ (λ j. e j ++ (f j ∷ [])) ∙ sym (step xs i d l) ∙ ap (λ n. take n xs) (let q : suc i ≡ i + 1 = omega arith in q)
  where
    step : {X : Type 0} (xs : List X) (i : ℕ) (d : X) → i < length xs → take (suc i) xs ≡ take i xs ++ (get_or xs i d ∷ [])
    step [] i d l = absurd (omega arith)
    step (y ∷ ys) zero d l = refl
    step (y ∷ ys) (suc i) d l = ap (λ zs. y ∷ zs) (step ys i d (omega arith))

-- all of them
pub no_more : {X : Type 0} (xs done : List X) (i : ℕ) → length xs ≤ i → done ≡ take i xs → done ≡ xs
no_more xs done i l e = e ∙ take_all i xs l

-- ---- the parts
length-values_of : (d : ℕ) (ss : List Position) (xs vs : List ℤ) → length xs ≡ length ss → length vs ≡ length ss → length (values_of d ss xs vs) ≡ length ss
length-values_of d [] xs vs e f = refl
length-values_of d (s ∷ ss) [] vs e f = absurd (omega arith)
length-values_of d (s ∷ ss) (x ∷ xs) [] e f = absurd (omega arith)
length-values_of d (s ∷ ss) (x ∷ xs) (v ∷ vs) e f = ap suc (length-values_of d ss xs vs (omega arith) (omega arith))

module _ (columns : ℕ) (numbers : List ℕ) (ps : List (List ℤ)) (weight reach : ℕ) (w : IntegerTableau) (t : Tableau) (compact : IsCompact ps weight reach w)
    (view : tableau_of columns numbers (expanded ps w) ≡ t) (columns_are : columns ≡ length w.rows) where
  cons : IsConsistent (expanded ps w)
  cons = compact.consistent

  pub bounds_many : length t.bounds ≡ length w.positions
  bounds_many = sym (ap (λ (t : Tableau). length t.bounds) view) ∙ length-map w.bounds fraction_bounds ∙ cons.bounds

  pub statuses_many : length t.statuses ≡ length w.positions
  statuses_many = sym (ap (λ (t : Tableau). length t.statuses) view) ∙ statuses_long w.positions w.at_upper cons.at_upper

  pub nonbasic_values_many : length t.nonbasic_values ≡ length w.positions
  nonbasic_values_many = sym (ap (λ (t : Tableau). length t.nonbasic_values) view) ∙ length-map w.nonbasic_values whole ∙ cons.nonbasic_values

  pub rows_many : length t.rows ≡ length w.positions
  rows_many = sym (ap (λ (t : Tableau). length t.rows) view) ∙ length-rows_of (row_of_position w.denominator w.positions) w.positions (expanded_rows w.denominator ps w.positions w.rows) cons.rows

  pub costs_many : length t.reduced_costs ≡ length w.positions
  costs_many = sym (ap (λ (t : Tableau). length t.reduced_costs) view) ∙ length-map w.positions (coefficient w.denominator w.reduced_costs)

  pub values_many : length t.values ≡ length w.positions
  values_many = sym (ap (λ (t : Tableau). length t.values) view)
      ∙ length-values_of w.denominator w.positions w.nonbasic_values (expanded_values w.denominator ps w.positions w.nonbasic_values w.values) cons.nonbasic_values cons.values

  pub columns_within : columns ≤ length w.positions
  columns_within = omega (arith, columns_are, compact.variables)

  -- ---- the value of a variable
  module _ (r : ℕ) (there : r < length w.positions) where
    abbrev numerator : ℤ
    numerator = number_at (expanded_values w.denominator ps w.positions w.nonbasic_values w.values) r

    pub basic_value : (v : ℤ) (d : ℕ) → get_or w.positions r InBasis ≡ InBasis → v ≡ numerator → d ≡ w.denominator → frac v d ≡ value_of t r
    basic_value v d q e f =
        (λ i. frac (e i) (f i)) ∙ ap (λ s. value w.denominator s (number_at w.nonbasic_values r) numerator) (sym q) ∙ value_at columns numbers ps weight reach w t compact view columns_are r there

    pub nonbasic_value : (x : ℤ) (k : ℕ) → get_or w.positions r InBasis ≡ InColumn k → x ≡ get_or w.nonbasic_values r x → whole x ≡ value_of t r
    nonbasic_value x k q e =
        ap whole (e ∙ get_or_default w.nonbasic_values r x (pos 0) (omega (arith, there, cons.nonbasic_values)))
        ∙ ap (λ s. value w.denominator s (number_at w.nonbasic_values r) numerator) (sym q) ∙ value_at columns numbers ps weight reach w t compact view columns_are r there
