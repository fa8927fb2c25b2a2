-- Steps of stored dictionaries, as the laws have them.
use Rattle.std.proofs.Common.{◌≡◌, ℕ, ◌*◌, ◌<◌, ◌^◌, refl, sym, subst, Some, List, [], length, set}
use Rattle.std.specs.Prelude.{ℤ, pos}
use Rattle.fraction.specs.Rational.{whole}
use Rattle.tableau.specs.Leaving.{violated_bound, violation}
use Rattle.tableau.specs.LinearProgram.{LinearProgram}
use Rattle.tableau.specs.Place.{IsPivotThere}
use Rattle.tableau.specs.Tableau.{HasSize, bounds_of, value_of}
use Rattle.tableau.specs.declared.bounds.Direction.{Direction}
use Rattle.integer_tableau.proofs.ToFractions.{bounds_many, costs_many, nonbasic_values_many, statuses_many, values_many, rows_many}
use Rattle.integer_tableau.specs.Combined.{IsCompact, expanded}
use Rattle.integer_tableau.specs.IntegerTableau.{IntegerTableau, tableau_of}
use Rattle.integer_tableau.specs.Pivot.{IsPivoted}
use Rattle.integer_tableau.specs.Dictionary.{HasSameMatrix, IsDictionaryOf}
use Rattle.integer_tableau.specs.IntegerDictionary.{AreColumnSums, IntegerDictionary, IsBehind, IsStored, dictionary_of, stepped}
use Rattle.integer_tableau.proofs.IntegerStep.{made_compact, step_is_pivot}
use Rattle.integer_tableau.proofs.Stored.{as_stored, from_stored, pivoted_dictionary}

-- the same under other numbers of rows
other_numbers : (ps : List (List ℤ)) (t : IntegerTableau) (r c : ℕ) (numbers : List ℕ) → IsPivotThere (tableau_of (length t.rows) [] (expanded ps t)) r c → IsPivotThere (tableau_of (length t.rows) numbers (expanded ps t)) r c
other_numbers ps t r c numbers h = record { coefficient = h.coefficient; direction = h.direction; violated = h.violated; leaving = h.leaving; entering = h.entering }

same_program : (p : LinearProgram) → HasSameMatrix p p
same_program p = record { rows = refl; costs = refl }

pub step_is : (ps : List (List ℤ)) (weight reach : ℕ) (p : LinearProgram) (t : IntegerTableau) (m : IntegerDictionary) (r c : ℕ) (w : Direction) (b : ℤ) (values : List ℤ)
    → IsCompact ps weight reach t → IsStored ps weight p (dictionary_of t) → IsStored ps weight p m
    → r < length t.positions → c < length t.positions → IsPivotThere (tableau_of (length t.rows) [] (expanded ps t)) r c
    → violation (bounds_of (tableau_of (length t.rows) [] (expanded ps t)) r) (value_of (tableau_of (length t.rows) [] (expanded ps t)) r) ≡ Some w
    → violated_bound w (bounds_of (tableau_of (length t.rows) [] (expanded ps t)) r) ≡ whole b
    → IsBehind r c (dictionary_of t) m → AreColumnSums m (set (set t.nonbasic_values r b) c (pos 0)) values → reach * m.denominator < 2 ^ 63
    → IsPivoted ps weight reach r c t (stepped r c w b m values t)
step_is ps weight reach p t m r c w b values compact s stored lr lc there direction bound behind sums near = record {
  columns = behind.columns;
  pivoted = λ numbers. step_is_pivot ps weight reach t compact numbers p p (same_program p) m stored r c w b values (from_stored ps weight reach t compact numbers p s)
      lr lc (other_numbers ps t r c numbers there) direction bound behind sums.0 sums.1 near;
  compact = made_compact ps weight reach t compact [] p p (same_program p) m stored r c w b values (from_stored ps weight reach t compact [] p s)
      lr lc there direction bound behind sums.0 sums.1 near;
}

pub size_of : (ps : List (List ℤ)) (weight reach : ℕ) (t : IntegerTableau) (numbers : List ℕ) → IsCompact ps weight reach t → HasSize (length t.positions) (tableau_of (length t.rows) numbers (expanded ps t))
size_of ps weight reach t numbers compact = record {
  bounds = bounds_many (length t.rows) numbers ps weight reach t (tableau_of (length t.rows) numbers (expanded ps t)) compact refl refl;
  statuses = statuses_many (length t.rows) numbers ps weight reach t (tableau_of (length t.rows) numbers (expanded ps t)) compact refl refl;
  nonbasic_values = nonbasic_values_many (length t.rows) numbers ps weight reach t (tableau_of (length t.rows) numbers (expanded ps t)) compact refl refl;
  rows = rows_many (length t.rows) numbers ps weight reach t (tableau_of (length t.rows) numbers (expanded ps t)) compact refl refl;
  reduced_costs = costs_many (length t.rows) numbers ps weight reach t (tableau_of (length t.rows) numbers (expanded ps t)) compact refl refl;
  values = values_many (length t.rows) numbers ps weight reach t (tableau_of (length t.rows) numbers (expanded ps t)) compact refl refl;
}

pub pivot_stored : (ps : List (List ℤ)) (weight reach : ℕ) (p : LinearProgram) (t u : IntegerTableau) (r c : ℕ)
    → IsCompact ps weight reach t → IsStored ps weight p (dictionary_of t) → length u.positions ≡ length t.positions
    → r < length t.positions → c < length t.positions → IsPivotThere (tableau_of (length t.rows) [] (expanded ps t)) r c
    → IsPivoted ps weight reach r c t u → IsStored ps weight p (dictionary_of u)
pivot_stored ps weight reach p t u r c compact s many lr lc there x =
    as_stored ps weight reach u x.compact [] p
    (subst (λ n. IsDictionaryOf n p (tableau_of (length u.rows) [] (expanded ps u))) (sym many)
    (subst (λ n. IsDictionaryOf (length t.positions) p (tableau_of n [] (expanded ps u))) (sym x.columns)
    (pivoted_dictionary (length t.positions) p (tableau_of (length t.rows) [] (expanded ps t)) (tableau_of (length t.rows) [] (expanded ps u)) r c
    (size_of ps weight reach t [] compact) (from_stored ps weight reach t compact [] p s) lr lc there (x.pivoted []))))
