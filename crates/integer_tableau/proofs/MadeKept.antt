-- A dictionary that a pivot makes of one to keep is one to keep.
use Rattle.std.proofs.Common.{◌≡◌, ℕ, ◌<◌, ap, sym, ◌∙◌, Some, List, [], length}
use Rattle.std.specs.Prelude.{ℤ, pos, ◌<ℤ◌}
use Rattle.tableau.specs.Pivot.{pivoted}
use Rattle.tableau.specs.Place.{IsPivotThere}
use Rattle.integer_tableau.proofs.StoredSteps.{pivot_stored}
use Rattle.integer_tableau.specs.BasicColumns.{basic_from}
use Rattle.integer_tableau.specs.Combined.{IsCompact}
use Rattle.integer_tableau.specs.IntegerDictionary.{program_of}
use Rattle.integer_tableau.specs.IntegerTableau.{of_parts}
use Rattle.integer_tableau.specs.Kept.{IsKept, KeptDictionary, tableau_at, view_of}
use Rattle.integer_tableau.specs.Pivot.{IsPivoted}
use Rattle.integer_tableau.specs.Positions.{AreNonbasic}
use Rattle.integer_tableau.specs.declared.basic_solution.BasicSolution.{BasicSolution}

-- ---- a copy has the same tableaus
pub same_tableau : (d e : KeptDictionary) (n : BasicSolution) → e.positions ≡ d.positions → e.rows ≡ d.rows → e.reduced_costs ≡ d.reduced_costs → e.denominator ≡ d.denominator → tableau_at e n ≡ tableau_at d n
same_tableau d e n positions rows costs denominator = λ i. of_parts n.bounds.items (positions i) n.at_upper.items n.nonbasic_values.items (rows i) (costs i) n.values.items (denominator i) n.pivots

-- ---- a pivot of the solution n at the dictionary d comes to the solution k at the dictionary e
module _ (ps : List (List ℤ)) (weight : ℕ) (d e : KeptDictionary) (n k : BasicSolution) (r c : ℕ) (p : IsPivoted ps weight n.reach r c (tableau_at d n) (tableau_at e k)) where
  pub made_pivot : (numbers : List ℕ) → pivoted r c (view_of numbers ps d n) ≡ Some (view_of numbers ps e k)
  made_pivot numbers = p.pivoted numbers ∙ ap (λ columns. Some (record (view_of numbers ps e k) { columns = columns })) (sym p.columns)

  pub made_kept : (costs : List ℤ) → IsKept ps weight costs d → IsCompact ps weight n.reach (tableau_at d n) → r < length d.positions → c < length d.positions → IsPivotThere (view_of [] ps d n) r c
      → pos 0 <ℤ e.denominator → AreNonbasic e.positions e.nonbasic → length e.nonbasic ≡ length d.nonbasic → e.basic_columns ≡ basic_from 0 (length e.rows) e.positions
      → length e.positions ≡ length d.positions → IsKept ps weight costs e
  made_kept costs kept compact lr lc there positive nonbasic many_nonbasic basic many = record {
    stored = pivot_stored ps weight n.reach (program_of ps costs) (tableau_at d n) (tableau_at e k) r c compact kept.stored many lr lc there p;
    positive = positive;
    nonbasic = nonbasic;
    columns = many_nonbasic ∙ kept.columns ∙ sym p.columns;
    basic = basic;
  }
