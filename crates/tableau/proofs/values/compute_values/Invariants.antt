use Rattle.std.proofs.Common.{◌≡◌, take, drop, ◌++◌}
use Rattle.std.specs.Option.{option_map}
use Rattle.tableau.specs.Pivot.{computed_values}
use Rattle.tableau.proofs.values.compute_values.Given as goal

abbrev pub invariant-loop-i : goal.invariant-loop-i
invariant-loop-i l = computed_values l.nonbasic_values l.statuses l.nonbasic_values l.rows ≡ option_map (λ vs. take l.i l.values ++ vs) (computed_values l.nonbasic_values (drop l.i l.statuses) (drop l.i l.nonbasic_values) (drop l.i l.rows))
