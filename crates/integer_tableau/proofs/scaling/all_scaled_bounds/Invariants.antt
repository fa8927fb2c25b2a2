use Rattle.std.proofs.Common.{◌≡◌, length}
use Rattle.integer_tableau.specs.Scales.{AreScaledBounds}
use Rattle.integer_tableau.proofs.scaling.all_scaled_bounds.Given as goal

abbrev pub invariant-loop-i : goal.invariant-loop-i
invariant-loop-i l = record {
  count : length l.integers.items ≡ l.i;
  value : AreScaledBounds l.columns l.scales l.integers.items l.all;
}
