use Rattle.std.proofs.Common.{◌≡◌, map, take}
use Rattle.fraction.specs.Rational.{whole}
use Rattle.integer_tableau.specs.Entries.{entry_by}
use Rattle.integer_tableau.proofs.integer_program.integer_entries.Given as goal

abbrev pub invariant-loop-entry : goal.invariant-loop-entry
invariant-loop-entry l = map (entry_by whole) l.integers.items ≡ take l.entry-index l.entries
