-- Tableaus in the course of a run, by their parts.
use Rattle.std.specs.Prelude.{◌≡◌, ℕ, ◌≤◌, ℤ, pos, nat_abs, ◌<ℤ◌, List, [], length, slice_index_or}
use Rattle.tableau.specs.Tableau.{Tableau}
use Rattle.integer_tableau.specs.BasicColumns.{basic_from}
use Rattle.integer_tableau.specs.Combined.{IsCompact, expanded, expanded_rows}
use Rattle.integer_tableau.specs.IntegerTableau.{IntegerTableau, of_parts, tableau_of}
use Rattle.integer_tableau.specs.Positions.{AreNonbasic}
use Rattle.integer_tableau.specs.declared.running_tableau.RunningTableau.{RunningTableau}

-- on whole numbers
abbrev pub running_parts : RunningTableau → IntegerTableau
running_parts t = of_parts t.fixed.bounds.items t.positions.items t.at_upper.items t.nonbasic_values.items t.rows.items t.reduced_costs t.values.items t.denominator t.pivots

-- as a tableau of fractions
abbrev pub running_view : RunningTableau → Tableau
running_view t = tableau_of (length t.rows.items) t.fixed.numbers.items (expanded t.fixed.rows.items.value.items (running_parts t))

-- what each holds
pub record IsRunning (t : RunningTableau) : Type 0 where
  pub compact : IsCompact t.fixed.rows.items.value.items t.fixed.weight t.fixed.reach (running_parts t)
  pub positive : pos 0 <ℤ t.denominator
  pub nonbasic : AreNonbasic t.positions.items t.nonbasic.items
  pub columns : length t.nonbasic.items ≡ length t.rows.items
  pub basic : t.basic_columns.items ≡ basic_from 0 (length t.rows.items) t.positions.items

-- this is the row of variable r, if that is the variable of a row
abbrev pub HasRow : RunningTableau → ℕ → List ℤ → Type 0
HasRow t r row = length t.rows.items ≤ r → row ≡ slice_index_or (expanded_rows (nat_abs t.denominator) t.fixed.rows.items.value.items t.positions.items t.rows.items) r []
