use Rattle.std.proofs.Common.{◌≡◌, take}
use Rattle.integer_tableau.specs.Arena.{positions_by}
use Rattle.integer_tableau.proofs.dictionary.Dictionaries.positions.Given as goal

abbrev pub invariant-loop-column : goal.invariant-loop-column
invariant-loop-column l = l.positions.items ≡ positions_by l.self.variables (take l.column l.variable-items)
