-- The order in which columns enter, whatever the bounds are.
use Rattle.std.specs.Prelude.{◌≡◌, ◌<◌, ◌*◌, ◌⊎◌, ℕ, ℤ, pos, nat_abs, List, [], ◌∷◌, ◌++◌, slice_index_or, All, Bool, true, false, Option}
use Rattle.std.specs.List.{AllPairs, Any}
use Rattle.std.specs.Ordering.{nat_cmp, ordering_then}
use Rattle.std.specs.declared.cmp.Ordering.{Ordering}
use Rattle.integer_tableau.specs.Exits.{is_behind}
use Rattle.integer_tableau.specs.Numbers.{number_at}
use Rattle.integer_tableau.specs.declared.entering.Candidate.{Candidate}
use Rattle.integer_tableau.specs.declared.exits.Edge.{Edge}
use Rattle.integer_tableau.specs.declared.ranked_column.RankedColumn.{RankedColumn}

-- by ratio, by cross multiplication, and then by variable
abbrev pub rank_order : RankedColumn → RankedColumn → Ordering
rank_order b c = ordering_then (nat_cmp (b.reduced_cost * nat_abs c.coefficient) (c.reduced_cost * nat_abs b.coefficient)) (nat_cmp b.variable c.variable)

-- the edge of a column, where this variable leaves from the dictionary of this place
abbrev pub edge_of : ℕ → ℕ → RankedColumn → Edge
edge_of from leaving c = record { from = from; leaving = leaving; entering = c.variable; column = c.column; coefficient = c.coefficient; target = 0 }

-- the candidate that its variable is
abbrev pub ranked_candidate : RankedColumn → Candidate
ranked_candidate c = record { variable = c.variable; reduced_cost = c.reduced_cost; coefficient = nat_abs c.coefficient }

-- a list before and after a column of these numerators was put behind, if it has a coefficient and comes behind the last candidate
abbrev pub IsWithColumn : ℕ → ℕ → ℤ → ℤ → Option Candidate → List RankedColumn → List RankedColumn → Type 0
IsWithColumn k v d t last old now = let behind = is_behind last record { variable = v; reduced_cost = nat_abs d; coefficient = nat_abs t } in
    ((now ≡ old) × ((t ≡ pos 0) ⊎ (behind ≡ false)))
    ⊎ ((c : RankedColumn) × (now ≡ old ++ c ∷ []) × (c.column ≡ k) × (c.variable ≡ v) × (c.reduced_cost ≡ nat_abs d) × (c.coefficient ≡ t) × (behind ≡ true))

-- one of the first n columns, with the numerators of its variable
pub record IsRanked (nonbasic : List ℕ) (costs row : List ℤ) (n : ℕ) (c : RankedColumn) : Type 0 where
  pub there : c.column < n
  pub variable : c.variable ≡ slice_index_or nonbasic c.column 0
  pub reduced_cost : c.reduced_cost ≡ nat_abs (number_at costs c.column)
  pub coefficient : c.coefficient ≡ number_at row c.column

-- those of the first n columns that have a coefficient and are wanted, by rising number
pub record AreRanked (nonbasic : List ℕ) (costs row : List ℤ) (wanted : ℕ → Bool) (n : ℕ) (cs : List RankedColumn) : Type 0 where
  pub each : All (IsRanked nonbasic costs row n) cs
  pub are_wanted : All (λ (c : RankedColumn). wanted c.column ≡ true) cs
  pub rise : AllPairs (λ (b c : RankedColumn). b.column < c.column) cs
  pub all : (k : ℕ) → k < n → 0 < nat_abs (number_at row k) → wanted k ≡ true → Any (λ (c : RankedColumn). c.column ≡ k) cs
