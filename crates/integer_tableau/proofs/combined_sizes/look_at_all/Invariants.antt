use Rattle.std.proofs.Common.{◌≡◌}
use Rattle.integer_tableau.proofs.combined_sizes.look_at_all.Given as goal

abbrev pub invariant-loop-column : goal.invariant-loop-column
invariant-loop-column l = l.rows ≡ l.initial.rows
