use Rattle.std.proofs.Common.{◌≡◌, map, take}
use Rattle.fraction.specs.Rational.{whole}
use Rattle.integer_tableau.specs.Entries.{entry_by}
use Rattle.integer_tableau.specs.Scales.{scaled_by}
use Rattle.integer_tableau.proofs.scaling.scaled_entries.Given as goal

abbrev pub invariant-loop-entry : goal.invariant-loop-entry
invariant-loop-entry l = map (entry_by (λ z. scaled_by 1 l.scale (whole z))) l.integers.items ≡ take l.entry-index l.entries
