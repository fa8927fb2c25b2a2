use Rattle.std.proofs.Common.{◌≡◌, take}
use Rattle.integer_tableau.specs.Scales.{scale_at, unscaled_row}
use Rattle.scaled_program.proofs.unscaling.unscaled_row.Given as goal

abbrev pub invariant-loop-i : goal.invariant-loop-i
invariant-loop-i l = l.all.items ≡ unscaled_row (scale_at l.columns l.scales.rows.items.value.items) l.unit l.first (take l.i l.numbers)
