-- Who enters where a variable leaves: by an order that doesn't depend on bounds and values.
use Rattle.std.specs.Prelude.{◌≡◌, ◌<◌, ◌-◌, ◌&&◌, ◌⊎◌, ℕ, ℤ, pos, nat_abs, not, List, length, map, slice_index_or, Bool, true, false, Option, None, Some}
use Rattle.tableau.specs.Leaving.{bounds_differ}
use Rattle.tableau.specs.declared.bounds.Direction.{Direction}
use Rattle.integer_tableau.specs.Entering.{comes_first, is_eligible_at}
use Rattle.integer_tableau.specs.IntegerTableau.{fraction_bounds}
use Rattle.integer_tableau.specs.Numbers.{number_at}
use Rattle.integer_tableau.specs.declared.entering.Candidate.{Candidate}
use Rattle.integer_tableau.specs.declared.exits.Edge.{Edge}
use Rattle.integer_tableau.specs.declared.integer_bounds.IntegerBounds.{IntegerBounds}

-- one of a list of edges
abbrev pub edge_at : List Edge → ℕ → Edge
edge_at es p = slice_index_or es p record { from = 0; leaving = 0; entering = 0; column = 0; coefficient = pos 0; target = 0 }

-- the candidate that an edge's variable is, by the reduced costs
abbrev pub candidate_by : List ℤ → Edge → Candidate
candidate_by costs e = record { variable = e.entering; reduced_cost = nat_abs (number_at costs e.column); coefficient = nat_abs e.coefficient }

-- the candidate that the variable of a column is
abbrev pub column_candidate : List ℕ → List ℤ → List ℤ → ℕ → Candidate
column_candidate nonbasic costs row k = record { variable = slice_index_or nonbasic k 0; reduced_cost = nat_abs (number_at costs k); coefficient = nat_abs (number_at row k) }

-- whether a candidate comes behind the last one that is noted, if there is one
abbrev pub is_behind : Option Candidate → Candidate → Bool
is_behind None c = true
is_behind (Some last) c = comes_first last c

-- whether a candidate comes behind the last one that is noted, if there is one, and not behind the best one
abbrev pub is_between : Option Candidate → Candidate → Candidate → Bool
is_between None best c = not (comes_first best c)
is_between (Some last) best c = comes_first last c && not (comes_first best c)

-- an edge is a column of the leaving row with a coefficient
pub record IsEdge (nonbasic : List ℕ) (row : List ℤ) (e : Edge) : Type 0 where
  pub there : e.column < length nonbasic
  pub entering : e.entering ≡ slice_index_or nonbasic e.column 0
  pub coefficient : e.coefficient ≡ number_at row e.column
  pub some : 0 < nat_abs e.coefficient

-- the first of such columns: each comes before the next ones by its ratio, or by its number where ratios are the same, and before those that aren't noted
pub record AreFirstEdges (nonbasic : List ℕ) (costs row : List ℤ) (es : List Edge) : Type 0 where
  pub each : (p : ℕ) → p < length es → IsEdge nonbasic row (edge_at es p)
  pub order : (p q : ℕ) → p < q → q < length es → comes_first (candidate_by costs (edge_at es p)) (candidate_by costs (edge_at es q)) ≡ true
  pub rest : (k : ℕ) → k < length nonbasic → 0 < nat_abs (number_at row k)
      → ((p : ℕ) × (p < length es) × ((edge_at es p).column ≡ k)) ⊎ ((p : ℕ) → p < length es → comes_first (candidate_by costs (edge_at es p)) (column_candidate nonbasic costs row k) ≡ true)

-- the first ones, of which the last is that of the best candidate
pub record AreEdgesTo (nonbasic : List ℕ) (costs row : List ℤ) (best : Candidate) (es : List Edge) : Type 0 where
  pub first : AreFirstEdges nonbasic costs row es
  pub some : 0 < length es
  pub last : candidate_by costs (edge_at es (length es - 1)) ≡ best

-- each variable of a list stands in it once
abbrev pub IsOnceEach : List ℕ → Type 0
IsOnceEach vs = (j k : ℕ) → j < length vs → k < length vs → slice_index_or vs j 0 ≡ slice_index_or vs k 0 → j ≡ k

-- which variables aren't fixed at these bounds
abbrev pub are_free : List IntegerBounds → List Bool
are_free bs = map (λ (b : IntegerBounds). bounds_differ (fraction_bounds b)) bs

-- whether a variable of this coefficient may enter at these bounds
abbrev pub variable_enters : Direction → List Bool → List IntegerBounds → ℕ → ℤ → Bool
variable_enters w us bs v t = is_eligible_at w (slice_index_or us v false) t
    && bounds_differ (fraction_bounds (slice_index_or bs v record { lower = None; upper = None }))

-- whether an edge's variable may enter at these bounds
abbrev pub edge_enters : Direction → List Bool → List IntegerBounds → Edge → Bool
edge_enters w us bs e = is_eligible_at w (slice_index_or us e.entering false) e.coefficient
    && bounds_differ (fraction_bounds (slice_index_or bs e.entering record { lower = None; upper = None }))
