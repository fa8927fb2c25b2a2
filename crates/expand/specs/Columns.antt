-- The column in which a node is split.
use Rattle.std.specs.Prelude.{◌≡◌, ℕ, ◌+◌, nat_eq, if◌then◌else◌, List, [], ◌∷◌, Option, Some, None}
use Rattle.pseudo_cost.specs.declared.column_gains.ColumnGains.{ColumnGains}
use Rattle.pseudo_cost.specs.ColumnGains.{IsBestColumn}
use Rattle.dual_simplex.specs.Relaxation.{RationalPoint}

-- the columns whose numbers aren't whole, the first number being that of column j
abbrev pub fractional_from : ℕ → RationalPoint → List ℕ
fractional_from j [] = []
fractional_from j (q ∷ x) = if nat_eq q.den 1 then fractional_from (j + 1) x else j ∷ fractional_from (j + 1) x

-- the columns whose value is no whole number
abbrev pub fractional_columns : RationalPoint → List ℕ
fractional_columns x = fractional_from 0 x

-- of these columns the one of greatest score; none where there are none
abbrev pub IsChosen : List ColumnGains → List ℕ → Option ℕ → Type 0
IsChosen costs [] column = column ≡ None
IsChosen costs (j ∷ js) None = ⊥
IsChosen costs (j ∷ js) (Some k) = IsBestColumn costs (j ∷ js) k

-- the column of greatest score among those where the point isn't whole; none where it is whole
abbrev pub IsSplitColumn : List ColumnGains → RationalPoint → Option ℕ → Type 0
IsSplitColumn costs x column = IsChosen costs (fractional_columns x) column
