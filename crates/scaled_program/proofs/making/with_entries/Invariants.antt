use Rattle.std.proofs.Common.{◌<◌}
use Rattle.scaled_program.proofs.making.with_entries.Given as goal

abbrev pub invariant-loop-entry : goal.invariant-loop-entry
invariant-loop-entry l = 0 < l.scale
