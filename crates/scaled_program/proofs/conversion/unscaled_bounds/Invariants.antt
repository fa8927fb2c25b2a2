use Rattle.std.proofs.Common.{◌≡◌, take}
use Rattle.integer_tableau.specs.Scales.{all_bounds, scale_at}
use Rattle.scaled_program.proofs.conversion.unscaled_bounds.Given as goal

abbrev pub invariant-loop-i : goal.invariant-loop-i
invariant-loop-i l = l.all.items ≡ all_bounds (scale_at l.columns l.scales.rows.items.value.items) 0 (take l.i l.bounds)
