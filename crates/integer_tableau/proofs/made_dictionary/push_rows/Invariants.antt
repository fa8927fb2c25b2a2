use Rattle.std.proofs.Common.{◌≡◌, List, ◌++◌, length, take}
use Rattle.std.specs.Prelude.{ℤ}
use Rattle.integer_tableau.specs.Arena.{AreMadeRows, row_by}
use Rattle.integer_tableau.specs.Kept.{rows_of}
use Rattle.integer_tableau.specs.Numbers.{IsWithin}
use Rattle.integer_tableau.proofs.made_dictionary.push_rows.Given as goal

abbrev pub invariant-loop-column : goal.invariant-loop-column
invariant-loop-column l = (made : List ℤ) × (l.numerators.items ≡ l.initial.numerators.items ++ made)
    × AreMadeRows l.own.divisor.number l.pivot_size l.turn.column l.turn.entering (length l.solved) l.solved (row_by (length l.solved) l.old_columns (rows_of (length l.solved) l.initial.numerators.items l.own)) (take l.column-index l.columns) made
    × IsWithin l.size made
