-- A pivot: variable r leaves the basis, to the bound that it violates, and variable c enters it.
use Rattle.std.specs.Prelude.{ℕ, ◌+◌, pos, slice_index_or, slice_set, List, [], ◌∷◌, Option, Some}
use Rattle.std.specs.Option.{option_and_then, option_map}
use Rattle.std.specs.List.{swap}
use Rattle.fraction.specs.Rational.{ℚ, whole}
use Rattle.fraction.specs.Checked.{dot_checked}
use Rattle.tableau.specs.declared.bounds.Direction.{Direction}
use Rattle.tableau.specs.declared.bounds.Direction.TheVariants.{Rise, Fall}
use Rattle.tableau.specs.declared.status.BasisStatus.{BasisStatus}
use Rattle.tableau.specs.declared.status.BasisStatus.TheVariants.{Basic, AtLower, AtUpper}
use Rattle.tableau.specs.Elimination.{Coefficients, substituted, others_substituted, solved_for}
use Rattle.tableau.specs.Leaving.{violation, violated_bound}
use Rattle.tableau.specs.Tableau.{Tableau, bounds_of, value_of}

-- ---- values
-- the value of a variable: its bound, or where it is basic the sum of its row over the nonbasic values
abbrev pub computed_value : List ℚ → BasisStatus → ℚ → Coefficients → Option ℚ
computed_value xs Basic x row = dot_checked row xs
computed_value xs AtLower x row = Some x
computed_value xs AtUpper x row = Some x

-- for each variable
abbrev pub computed_values : List ℚ → List BasisStatus → List ℚ → List Coefficients → Option (List ℚ)
computed_values xs [] ys rows = Some []
computed_values xs (s ∷ ss) [] rows = Some []
computed_values xs (s ∷ ss) (y ∷ ys) [] = Some []
computed_values xs (s ∷ ss) (y ∷ ys) (row ∷ rows) =
    option_and_then (λ v. option_map (λ vs. v ∷ vs) (computed_values xs ss ys rows)) (computed_value xs s y row)

-- computed anew, with which the pivot is whole
abbrev pub revalued : Tableau → Option Tableau
revalued t =
    option_map (λ values. record t { values = values; pivots = t.pivots + 1 }) (computed_values t.nonbasic_values t.statuses t.nonbasic_values t.rows)

-- ---- rows and reduced costs
-- row r, solved for c, stands in its own place, and c is substituted in each other row
abbrev pub rows_eliminated : ℕ → ℕ → List Coefficients → Option (List Coefficients)
rows_eliminated r c rows = option_and_then (λ new. others_substituted r c (slice_set rows r new)) (solved_for r c (slice_index_or rows r []))

-- c is substituted in the reduced costs too
abbrev pub eliminated : ℕ → ℕ → Tableau → Option Tableau
eliminated r c t = option_and_then
    (λ rows. option_map (λ costs. record t { rows = rows; reduced_costs = costs }) (substituted c (slice_index_or rows r []) t.reduced_costs))
    (rows_eliminated r c t.rows)

-- ---- the basis
-- where a leaving variable is then, by the direction that it took
abbrev pub status_after : Direction → BasisStatus
status_after Rise = AtLower
status_after Fall = AtUpper

-- r goes out of the basis and c comes into it, with the row that was solved for it
abbrev pub basis_exchanged : ℕ → ℕ → Direction → Tableau → Tableau
basis_exchanged r c w t = record t {
  statuses = slice_set (slice_set t.statuses r (status_after w)) c Basic;
  nonbasic_values = slice_set (slice_set t.nonbasic_values r (violated_bound w (bounds_of t r))) c (whole (pos 0));
  rows = swap t.rows r c;
}

-- the tableau after a pivot on row r and column c; none where a step is cramped
abbrev pub exchanged : ℕ → ℕ → Direction → Tableau → Option Tableau
exchanged r c w t = option_and_then (λ u. revalued (basis_exchanged r c w u)) (eliminated r c t)

-- none where an operation is cramped; also where r violates no bound or has no coefficient of c, which no place asks for
abbrev pub pivoted : ℕ → ℕ → Tableau → Option Tableau
pivoted r c t = option_and_then (λ w. exchanged r c w t) (violation (bounds_of t r) (value_of t r))
