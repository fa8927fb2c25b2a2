-- What makes a tableau one of its linear program: it has the same solutions and the same objective, and is dual feasible.
use Rattle.std.specs.Prelude.{◌≡◌, ◌<◌, ◌+◌, ℕ, true, List, [], length, slice_index_or, Some, None, IfSome}
use Rattle.fraction.specs.Rational.{ℚ, ◌≤ℚ◌}
use Rattle.fraction.specs.Lemmas.Bounds.{dot_value}
use Rattle.tableau.specs.declared.bounds.Bounds.{Bounds}
use Rattle.tableau.specs.declared.status.BasisStatus.{BasisStatus}
use Rattle.tableau.specs.declared.status.BasisStatus.TheVariants.{Basic, AtLower, AtUpper}
use Rattle.tableau.specs.declared.place.Place.TheVariants.{Cramped}
use Rattle.tableau.specs.Elimination.{Coefficients, zero_ℚ, entry}
use Rattle.tableau.specs.Leaving.{bounds_differ}
use Rattle.tableau.specs.Tableau.{Tableau, bounds_of, status_of, nonbasic_value_of, row_of, reduced_cost_of, value_of, HasSize}
use Rattle.tableau.specs.Pivot.{computed_value}
use Rattle.tableau.specs.Place.{place}
use Rattle.tableau.specs.Run.{RunEnd}
use Rattle.tableau.specs.LinearProgram.{LinearProgram}

-- ---- nonbasic variables are at bounds
-- the variable is at one of its bounds
abbrev pub IsNonbasic : BasisStatus → Type 0
IsNonbasic Basic = ⊥
IsNonbasic AtLower = Unit {0}
IsNonbasic AtUpper = Unit {0}

-- a nonbasic variable is at a bound that it has; a basic one has 0 there
abbrev pub IsAtBound : Bounds → BasisStatus → ℚ → Type 0
IsAtBound b Basic q = q ≡ zero_ℚ
IsAtBound b AtLower q = b.lower ≡ Some q
IsAtBound b AtUpper q = b.upper ≡ Some q

-- each variable that is not in the basis has the value of the bound at which it is
abbrev pub AreAtBounds : ℕ → Tableau → Type 0
AreAtBounds n t = (i : ℕ) → i < n → IsAtBound (bounds_of t i) (status_of t i) (nonbasic_value_of t i)

-- ---- canonical form: rows and reduced costs speak of nonbasic variables alone
-- one coefficient for each variable, and 0 at each basic one
pub record IsCanonicalRow (n : ℕ) (t : Tableau) (row : Coefficients) : Type 0 where
  pub full : length row ≡ n
  pub clear : (j : ℕ) → j < n → status_of t j ≡ Basic → entry row j ≡ zero_ℚ

-- each row, and that of the reduced costs, has numbers in columns of variables outside the basis alone
pub record IsCanonical (n : ℕ) (t : Tableau) : Type 0 where
  pub rows : (i : ℕ) → i < n → status_of t i ≡ Basic → IsCanonicalRow n t (row_of t i)
  pub costs : IsCanonicalRow n t t.reduced_costs
  pub nonbasic : (i : ℕ) → i < n → IsNonbasic (status_of t i) → row_of t i ≡ []

-- ---- solutions
-- each basic variable has the value that its row says
abbrev pub Solves : ℕ → Tableau → List ℚ → Type 0
Solves n t x = (i : ℕ) → i < n → status_of t i ≡ Basic → dot_value (row_of t i) x ≡ entry x i

-- each row variable has the value of its row
abbrev pub SolvesRows : LinearProgram → List ℚ → Type 0
SolvesRows p x = (i : ℕ) → i < length p.rows → dot_value (slice_index_or p.rows i []) x ≡ entry x (length p.costs + i)

-- what satisfies the rows of the linear program satisfies those of the tableau, and the reverse
pub record HasSameSolutions (n : ℕ) (p : LinearProgram) (t : Tableau) : Type 0 where
  pub to : (x : List ℚ) → length x ≡ n → SolvesRows p x → Solves n t x
  pub back : (x : List ℚ) → length x ≡ n → Solves n t x → SolvesRows p x

-- at each solution the reduced costs come to the objective
abbrev pub HasSameObjective : ℕ → LinearProgram → Tableau → Type 0
HasSameObjective n p t = (x : List ℚ) → length x ≡ n → Solves n t x → dot_value t.reduced_costs x ≡ dot_value p.costs x

-- ---- dual feasibility
-- a variable that isn't fixed doesn't lower the objective by leaving its bound
abbrev pub HasDualSign : Bounds → BasisStatus → ℚ → Type 0
HasDualSign b Basic d = Unit {0}
HasDualSign b AtLower d = bounds_differ b ≡ true → zero_ℚ ≤ℚ d
HasDualSign b AtUpper d = bounds_differ b ≡ true → d ≤ℚ zero_ℚ

-- each reduced cost has the sign that the bound of its variable asks for
abbrev pub IsDualFeasible : ℕ → Tableau → Type 0
IsDualFeasible n t = (i : ℕ) → i < n → HasDualSign (bounds_of t i) (status_of t i) (reduced_cost_of t i)

-- ---- values
-- each value is the one that is computed of its row
abbrev pub HasComputedValues : ℕ → Tableau → Type 0
HasComputedValues n t =
    (i : ℕ) → i < n → computed_value t.nonbasic_values (status_of t i) (nonbasic_value_of t i) (row_of t i) ≡ Some (value_of t i)

-- ---- all of it, with n variables
-- all that holds of a tableau of this linear program
pub record IsTableauOf (n : ℕ) (p : LinearProgram) (t : Tableau) : Type 0 where
  pub size : HasSize n t
  pub columns : t.columns ≡ length p.costs
  pub numbers : t.numbers ≡ p.numbers
  pub bounds : t.bounds ≡ p.bounds
  pub at_bounds : AreAtBounds n t
  pub canonical : IsCanonical n t
  pub solutions : HasSameSolutions n p t
  pub objective : HasSameObjective n p t
  pub dual : IsDualFeasible n t
  pub values : HasComputedValues n t

-- a run that ended with a tableau ended with one of this linear program, at the place that it asks for
pub record EndsWithTableauOf (n : ℕ) (p : LinearProgram) (e : RunEnd) : Type 0 where
  pub tableau : IfSome e.tableau (IsTableauOf n p)
  pub place : IfSome e.tableau (λ t. e.place ≡ place t)
  pub lost : e.tableau ≡ None → e.place ≡ Cramped
