-- Runs from the first of kept dictionaries.
use Rattle.std.proofs.Common.{◌≡◌, ℕ, ◌+◌, ◌<◌, arith, refl, ap, sym, ◌∙◌, subst, Option, Some, List, [], ◌∷◌, ◌++◌, length, drop, map, take, All}
use Rattle.std.specs.Prelude.{ℤ, Result, Ok, Err, IfOk, IfSome}
use Rattle.std.proofs.lemmas.List.{length-append, length-drop, length-map}
use Rattle.integer_tableau.proofs.Programs.{program_over}
use Rattle.integer_tableau.proofs.ToFractions.{statuses_many}
use Rattle.integer_tableau.specs.IntegerProgram.{CanStart, column_bounds, fraction_program}
use Rattle.integer_tableau.specs.Kept.{AreKept, IsAt, IsStartDictionary, IsStartSolution, KeptDictionaries, KeptDictionary, kept_at, tableau_at, view_of}
use Rattle.integer_tableau.specs.RowSums.{AreColumnsOf, AreColumnSums}
use Rattle.integer_tableau.specs.StoredRun.{IsStoredEnd, IsStoredRun, dictionary_at, view_with}
use Rattle.integer_tableau.specs.declared.coefficient_columns.CoefficientColumns.{CoefficientColumns}
use Rattle.integer_tableau.specs.declared.integer_bounds.IntegerBounds.{IntegerBounds}
use Rattle.integer_tableau.specs.declared.basic_solution.BasicSolution.{BasicSolution}
use Rattle.integer_tableau.specs.declared.start_sums.StartSums.{StartSums}
use Rattle.integer_tableau.specs.declared.stored_run.StoredEnd.{StoredEnd}
use Rattle.problem_box.specs.declared.span.Span.{Span}
use Rattle.tableau.specs.LinearProgram.{LinearProgram, over}
use Rattle.tableau.specs.Run.{run_from}
use Rattle.tableau.specs.Start.{started}
use Rattle.tableau.specs.Tableau.{Tableau}

-- over a box
pub can_start_over : (ps : List (List ℤ)) (weight : ℕ) (costs : List ℤ) (bs : List IntegerBounds) (area : List Span) → length area ≡ length costs → CanStart ps weight costs bs
    → CanStart ps weight costs (map column_bounds area ++ drop (length costs) bs)
can_start_over ps weight costs bs area many can = record {
  rows_full = can.rows_full;
  bounds_there = omega (arith, length-append (map column_bounds area) (drop (length costs) bs), length-map area column_bounds, length-drop (length costs) bs, many, can.bounds_there);
  rows_within = can.rows_within;
  costs_within = can.costs_within;
  weights = can.weights;
  light = can.light;
}

first_is : (ps : List (List ℤ)) (costs : List ℤ) (ds : List KeptDictionary) → 0 < length ds → All (IsStartDictionary ps costs) (take 1 ds) → IsStartDictionary ps costs (kept_at ds 0)
first_is ps costs [] l a = absurd (let f : ⊥ = omega (arith, l) in f)
first_is ps costs (x ∷ xs) l a = a 0 x (omega arith)

module _ (ps : List (List ℤ)) (weight : ℕ) (costs : List ℤ) (bounds : List IntegerBounds) (k : KeptDictionaries) (n : BasicSolution) (can : CanStart ps weight costs bounds)
    (kept : AreKept ps weight costs k) (some : 0 < length k.all) (columns : Option CoefficientColumns) (sums : StartSums) (start : IsStartSolution columns sums costs bounds n) where
  pub at_first : IfSome columns (AreColumnsOf ps) → AreColumnSums ps sums.values.items sums.sums.items → IsAt ps weight (kept_at k.all 0) n
  at_first are sums_are = start.at ps weight (kept_at k.all 0) are sums_are can (first_is ps costs k.all some kept.first)

  -- its tableau has a status for each column and for each row
  pub statuses_at : IfSome columns (AreColumnsOf ps) → AreColumnSums ps sums.values.items sums.sums.items → (numbers : List ℕ)
      → length (view_with numbers ps (dictionary_at k 0) n).statuses ≡ length costs + length ps
  statuses_at are sums_are numbers =
      let d = kept_at k.all 0 in
      let compact = (at_first are sums_are).compact in
      let many = statuses_many (length d.rows) numbers ps weight n.reach (tableau_at d n) (view_of numbers ps d n) compact refl refl in
      omega (arith, many, compact.variables, compact.costs, ap length (first_is ps costs k.all some kept.first).reduced_costs)

  pub started_at : (numbers : List ℕ) → started (fraction_program ps costs bounds numbers) ≡ Some (view_with numbers ps (dictionary_at k 0) n)
  started_at numbers = start.started ps weight numbers (kept_at k.all 0) can (first_is ps costs k.all some kept.first)

-- the run of a linear program, by that from its start
pub stored_run : {E : Type 0} (numbers : List ℕ) (ps : List (List ℤ)) (weight : ℕ) (k : KeptDictionaries) (p : LinearProgram) (most : ℕ) (t : Tableau) (r : Result StoredEnd E) → started p ≡ Some t
    → IfOk r (IsStoredEnd numbers ps weight k most (run_from most t)) → IfOk r (IsStoredRun numbers ps weight k p most)
stored_run numbers ps weight k p most t (Ok x) starts ends = record { start = t; starts = starts; ends = ends }
stored_run numbers ps weight k p most t (Err x) starts ends = tt

-- it is that of the linear program over a box, which has these parts
pub run_over_box : (ps : List (List ℤ)) (weight : ℕ) (costs : List ℤ) (bounds bs : List IntegerBounds) (numbers ns others : List ℕ) (p : LinearProgram) (area : List Span) (k : KeptDictionaries) (most : ℕ) (x : StoredEnd)
    → fraction_program ps costs bounds numbers ≡ p → bs ≡ bounds → ns ≡ numbers → others ≡ numbers
    → IsStoredRun ns ps weight k (fraction_program ps costs (map column_bounds area ++ drop (length costs) bs) ns) most x → IsStoredRun others ps weight k (over p area) most x
run_over_box ps weight costs bounds bs numbers ns others p area k most x view e f g run =
    subst (λ q. IsStoredRun others ps weight k q most x) (program_is bs ns e f) (subst (λ us. IsStoredRun us ps weight k (fraction_program ps costs (map column_bounds area ++ drop (length costs) bs) ns) most x) (f ∙ sym g) run)
  where
    program_is : (bs : List IntegerBounds) (ns : List ℕ) → bs ≡ bounds → ns ≡ numbers → fraction_program ps costs (map column_bounds area ++ drop (length costs) bs) ns ≡ over p area
    program_is bs ns e f = (λ i. fraction_program ps costs (map column_bounds area ++ drop (length costs) (e i)) (f i)) ∙ sym (program_over ps costs bounds numbers area) ∙ ap (λ p. over p area) view
