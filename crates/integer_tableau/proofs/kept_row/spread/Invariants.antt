use Rattle.std.proofs.Common.{◌≡◌, take}
use Rattle.integer_tableau.specs.Entries.{spread}
use Rattle.integer_tableau.proofs.kept_row.spread.Given as goal

abbrev pub invariant-loop-entry : goal.invariant-loop-entry
invariant-loop-entry l = l.into.items ≡ spread 0 l.width (take l.entry-index l.entry-items)
