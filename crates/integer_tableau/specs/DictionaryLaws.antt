-- What dictionaries promise.
use Rattle.std.specs.Prelude.{◌≡◌, ◌<◌, ◌*◌, ◌^◌, ◌-ℤ◌, ◌*ℤ◌, ℕ, ℤ, pos, nat_abs, List, [], length, slice_index_or, slice_set, Some, IsSome}
use Rattle.fraction.specs.Lemmas.Bounds.{dot_value}
use Rattle.fraction.specs.Rational.{ℚ, whole}
use Rattle.tableau.specs.Elimination.{entry}
use Rattle.tableau.specs.Invariants.{IsNonbasic}
use Rattle.tableau.specs.Leaving.{violated_bound, violation}
use Rattle.tableau.specs.LinearProgram.{LinearProgram}
use Rattle.tableau.specs.Pivot.{computed_values, eliminated, pivoted}
use Rattle.tableau.specs.Place.{IsPivotThere}
use Rattle.tableau.specs.Start.{started}
use Rattle.tableau.specs.Tableau.{HasSize, Tableau, bounds_of, row_of, status_of, value_of}
use Rattle.tableau.specs.WellFormed.{IsWellFormed}
use Rattle.tableau.specs.declared.bounds.Direction.{Direction}
use Rattle.tableau.specs.declared.status.BasisStatus.TheVariants.{Basic}
use Rattle.integer_tableau.specs.Combined.{IsCompact, expanded, expanded_rows, expanded_values}
use Rattle.integer_tableau.specs.Dictionary.{AreValuesAfter, HasExchangedBasis, HasSameBasis, HasSameDictionary, HasSameMatrix, IsDictionaryOf, pivoted_to}
use Rattle.integer_tableau.specs.IntegerDictionary.{AreColumnSums, IntegerDictionary, IsBehind, IsStored, dictionary_of, program_of, stepped}
use Rattle.integer_tableau.specs.IntegerProgram.{fraction_program}
use Rattle.integer_tableau.specs.IntegerTableau.{IntegerTableau, tableau_of}
use Rattle.integer_tableau.specs.Numbers.{number_at, total_size}
use Rattle.integer_tableau.specs.Pivot.{AreSubstitutedValues, IsPivoted}
use Rattle.integer_tableau.specs.Range.{size_limit}
use Rattle.integer_tableau.specs.SmallDictionary.{HasSmallDictionary, IsSmallPoint}
use Rattle.integer_tableau.specs.Substitution.{quotient_numerator}
use Rattle.integer_tableau.specs.declared.integer_bounds.IntegerBounds.{IntegerBounds}
use Rattle.integer_tableau.specs.declared.position.Position.TheVariants.{InBasis, InColumn}

-- a basis fixes its dictionary
abbrev pub BasesFixDictionaries : Type 0
BasesFixDictionaries =
    (n : ℕ) (p q : LinearProgram) (t u : Tableau)
    → HasSameMatrix p q → IsDictionaryOf n p t → IsDictionaryOf n q u → HasSameBasis n t u → HasSameDictionary t u

-- a pivot whose elimination isn't cramped comes to any dictionary of the basis behind it
abbrev pub PivotsComeToDictionaries : Type 0
PivotsComeToDictionaries =
    (n : ℕ) (p q : LinearProgram) (t u : Tableau) (r c : ℕ)
    → HasSameMatrix p q → HasSize n t → IsDictionaryOf n p t → IsDictionaryOf n q u
    → r < n → c < n → IsPivotThere t r c → HasExchangedBasis n r c t u → IsSome (eliminated r c t)
    → pivoted r c t ≡ pivoted_to r c u.rows u.reduced_costs t

-- in small numbers no elimination is cramped
abbrev pub EliminationsAreNotCramped : Type 0
EliminationsAreNotCramped =
    (d r c : ℕ) (t : Tableau) → HasSmallDictionary d t → r < length t.rows → 0 < nat_abs (entry (row_of t r) c).num → IsSome (eliminated r c t)

-- and no value
abbrev pub ValuesAreNotCramped : Type 0
ValuesAreNotCramped =
    (e : ℕ) (t : Tableau) → HasSmallDictionary e t → IsSmallPoint t.nonbasic_values → IsSome (computed_values t.nonbasic_values t.statuses t.nonbasic_values t.rows)

-- ---- on whole numbers
-- a step by a stored dictionary is the pivot: nothing of it is to be tested but that the denominator is near
abbrev pub StepsByDictionariesArePivots : Type 0
StepsByDictionariesArePivots =
    (ps : List (List ℤ)) (weight reach : ℕ) (p : LinearProgram) (t : IntegerTableau) (m : IntegerDictionary) (r c : ℕ) (w : Direction) (b : ℤ) (values : List ℤ)
    → IsCompact ps weight reach t → IsStored ps weight p (dictionary_of t) → IsStored ps weight p m
    → r < length t.positions → c < length t.positions → IsPivotThere (tableau_of (length t.rows) [] (expanded ps t)) r c
    → violation (bounds_of (tableau_of (length t.rows) [] (expanded ps t)) r) (value_of (tableau_of (length t.rows) [] (expanded ps t)) r) ≡ Some w
    → violated_bound w (bounds_of (tableau_of (length t.rows) [] (expanded ps t)) r) ≡ whole b
    → IsBehind r c (dictionary_of t) m → AreColumnSums m (slice_set (slice_set t.nonbasic_values r b) c (pos 0)) values → reach * m.denominator < 2 ^ 63
    → IsPivoted ps weight reach r c t (stepped r c w b m values t)

-- and a pivot that was made leaves a dictionary that can be stored
abbrev pub PivotsLeaveDictionaries : Type 0
PivotsLeaveDictionaries =
    (ps : List (List ℤ)) (weight reach : ℕ) (p : LinearProgram) (t u : IntegerTableau) (r c : ℕ)
    → IsCompact ps weight reach t → IsStored ps weight p (dictionary_of t) → length u.positions ≡ length t.positions
    → r < length t.positions → c < length t.positions → IsPivotThere (tableau_of (length t.rows) [] (expanded ps t)) r c
    → IsPivoted ps weight reach r c t u → IsStored ps weight p (dictionary_of u)

-- the dictionary at the start can be stored
abbrev pub StartsLeaveDictionaries : Type 0
StartsLeaveDictionaries =
    (ps : List (List ℤ)) (weight reach : ℕ) (costs : List ℤ) (bounds : List IntegerBounds) (numbers : List ℕ) (t : IntegerTableau)
    → IsCompact ps weight reach t → IsWellFormed (fraction_program ps costs bounds numbers)
    → started (fraction_program ps costs bounds numbers) ≡ Some (tableau_of (length t.rows) numbers (expanded ps t)) → IsStored ps weight (program_of ps costs) (dictionary_of t)

-- ---- values
-- the values after a step are there by the dictionary before it: each changes by one coefficient times the way of the entering variable
abbrev pub ValuesStepByColumns : Type 0
ValuesStepByColumns =
    (n : ℕ) (p q : LinearProgram) (t u : Tableau) (r c : ℕ) (xs : List ℚ) (value bound : ℚ)
    → HasSameMatrix p q → IsDictionaryOf n p t → IsDictionaryOf n q u → r < n → c < n → status_of t r ≡ Basic → IsNonbasic (status_of t c)
    → HasExchangedBasis n r c t u → length xs ≡ n → dot_value (row_of t r) (slice_set xs c value) ≡ bound → AreValuesAfter n r c t u xs value bound

-- on whole numbers: by the column of the entering variable before the step, where the dictionary's denominator is the size of the pivot
abbrev pub ColumnsStepByColumns : Type 0
ColumnsStepByColumns =
    (ps : List (List ℤ)) (weight reach : ℕ) (p : LinearProgram) (t : IntegerTableau) (m : IntegerDictionary) (r c k : ℕ) (b : ℤ) (values : List ℤ)
    → IsCompact ps weight reach t → IsStored ps weight p (dictionary_of t) → IsStored ps weight p m → IsBehind r c (dictionary_of t) m
    → slice_index_or t.positions r InBasis ≡ InBasis → slice_index_or t.positions c InBasis ≡ InColumn k → total_size (slice_set (slice_set t.nonbasic_values r b) c (pos 0)) < size_limit
    → let row = slice_index_or (expanded_rows t.denominator ps t.positions t.rows) r [] in
    let value = number_at (expanded_values t.denominator ps t.positions t.nonbasic_values t.values) r in
    let x = number_at t.nonbasic_values c in
    m.denominator ≡ nat_abs (number_at row k)
    → AreSubstitutedValues c k (pos t.denominator) (pos m.denominator) x (quotient_numerator (number_at row k) (value -ℤ number_at row k *ℤ x -ℤ pos t.denominator *ℤ b)) (length t.rows) t.rows t.values values
    → AreColumnSums m (slice_set (slice_set t.nonbasic_values r b) c (pos 0)) values
