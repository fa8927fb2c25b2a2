-- The dictionary of a basis: what its rows and reduced costs say, whatever the bounds and the values are.
use Rattle.std.specs.Prelude.{◌≡◌, ◌≢◌, ◌<◌, ℕ, pos, List, length, slice_set, Option}
use Rattle.std.specs.Option.{option_and_then}
use Rattle.fraction.specs.Lemmas.Bounds.{dot_value}
use Rattle.fraction.specs.Rational.{ℚ, whole}
use Rattle.tableau.specs.declared.bounds.Direction.{Direction}
use Rattle.tableau.specs.declared.status.BasisStatus.TheVariants.{Basic}
use Rattle.tableau.specs.Elimination.{Coefficients}
use Rattle.tableau.specs.Invariants.{HasSameObjective, HasSameSolutions, IsCanonical}
use Rattle.tableau.specs.Leaving.{violated_bound, violation}
use Rattle.tableau.specs.LinearProgram.{LinearProgram}
use Rattle.tableau.specs.Pivot.{revalued, status_after}
use Rattle.tableau.specs.Tableau.{Tableau, bounds_of, row_of, status_of, value_of}

-- the same rows and costs; the bounds may differ
pub record HasSameMatrix (p q : LinearProgram) : Type 0 where
  pub rows : p.rows ≡ q.rows
  pub costs : p.costs ≡ q.costs

-- the rows and the reduced costs are those of the linear program's rows and costs, solved for the basic variables
pub record IsDictionaryOf (n : ℕ) (p : LinearProgram) (t : Tableau) : Type 0 where
  pub count : length t.rows ≡ n
  pub canonical : IsCanonical n t
  pub solutions : HasSameSolutions n p t
  pub objective : HasSameObjective n p t

-- two tableaus with the same rows and reduced costs
pub record HasSameDictionary (t u : Tableau) : Type 0 where
  pub rows : t.rows ≡ u.rows
  pub costs : t.reduced_costs ≡ u.reduced_costs

-- ---- bases
-- the same variables are basic
pub record HasSameBasis (n : ℕ) (t u : Tableau) : Type 0 where
  pub to : (i : ℕ) → i < n → status_of t i ≡ Basic → status_of u i ≡ Basic
  pub back : (i : ℕ) → i < n → status_of u i ≡ Basic → status_of t i ≡ Basic

-- in u the same variables are basic as in t, but that r isn't and c is
pub record HasExchangedBasis (n r c : ℕ) (t u : Tableau) : Type 0 where
  pub left : status_of u r ≢ Basic
  pub entered : status_of u c ≡ Basic
  pub to : (i : ℕ) → i < n → i ≢ r → i ≢ c → status_of t i ≡ Basic → status_of u i ≡ Basic
  pub back : (i : ℕ) → i < n → i ≢ r → i ≢ c → status_of u i ≡ Basic → status_of t i ≡ Basic

-- ---- a pivot whose rows and reduced costs are known: these stand in place of the elimination
-- r leaves in this direction, and c enters
abbrev pub exchanged_to : ℕ → ℕ → List Coefficients → Coefficients → Direction → Tableau → Option Tableau
exchanged_to r c rows costs w t = revalued record t {
  statuses = slice_set (slice_set t.statuses r (status_after w)) c Basic;
  nonbasic_values = slice_set (slice_set t.nonbasic_values r (violated_bound w (bounds_of t r))) c (whole (pos 0));
  rows = rows;
  reduced_costs = costs;
}

-- r goes to the bound that it violates
abbrev pub pivoted_to : ℕ → ℕ → List Coefficients → Coefficients → Tableau → Option Tableau
pivoted_to r c rows costs t = option_and_then (λ w. exchanged_to r c rows costs w t) (violation (bounds_of t r) (value_of t r))

-- ---- values after a step
-- r goes to its bound, and c comes to this value from that which xs has of it: each basic variable then has what its row before the step says
pub record AreValuesAfter (n r c : ℕ) (t u : Tableau) (xs : List ℚ) (value bound : ℚ) : Type 0 where
  pub entered : dot_value (row_of u c) (slice_set (slice_set xs r bound) c (whole (pos 0))) ≡ value
  pub others : (i : ℕ) → i < n → i ≢ c → status_of u i ≡ Basic → dot_value (row_of u i) (slice_set (slice_set xs r bound) c (whole (pos 0))) ≡ dot_value (row_of t i) (slice_set xs c value)
