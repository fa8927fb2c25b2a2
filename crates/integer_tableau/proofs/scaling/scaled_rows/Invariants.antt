use Rattle.std.proofs.Common.{◌≡◌, ◌<◌, ℕ, [], length, get_or}
use Rattle.integer_tableau.specs.Scales.{AreScaledRows}
use Rattle.integer_tableau.proofs.scaling.scaled_rows.Given as goal

abbrev pub invariant-loop-i : goal.invariant-loop-i
invariant-loop-i l = record {
  count : length l.rows.items ≡ l.i;
  value : AreScaledRows l.scales l.rows.items l.program.rows;
  width : (j : ℕ) → j < length l.rows.items → length (get_or l.rows.items j []) ≡ length l.program.costs;
}
