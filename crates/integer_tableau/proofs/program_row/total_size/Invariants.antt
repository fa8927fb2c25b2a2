use Rattle.std.proofs.Common.{◌≡◌, take}
use Rattle.integer_tableau.specs.Entries.{entry_size}
use Rattle.integer_tableau.proofs.program_row.total_size.Given as goal

abbrev pub invariant-loop-entry : goal.invariant-loop-entry
invariant-loop-entry l = l.total ≡ entry_size (take l.entry-index l.entries)
