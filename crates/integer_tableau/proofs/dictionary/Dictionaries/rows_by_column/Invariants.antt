use Rattle.std.proofs.Common.{◌≡◌, take}
use Rattle.integer_tableau.specs.Arena.{rows_by}
use Rattle.integer_tableau.proofs.dictionary.Dictionaries.rows_by_column.Given as goal

abbrev pub invariant-loop-index : goal.invariant-loop-index
invariant-loop-index l = l.rows.items ≡ rows_by l.self.width (take l.index l.column-items) l.numerators
