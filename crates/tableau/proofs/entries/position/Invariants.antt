use Rattle.std.proofs.Common.{◌-◌, ◌<◌, ◌≤◌, length, ℕ, get_or}
use Rattle.fraction.specs.Rational.{ℚ}
use Rattle.tableau.proofs.entries.position.Given as goal

abbrev pub invariant-loop-low : goal.invariant-loop-low
invariant-loop-low l = record {
  order : l.low ≤ l.high;
  there : l.high ≤ length l.entries;
  before : (k : ℕ) (d : ℕ × ℚ) → k < l.low → (get_or l.entries k d).0 < l.variable;
  from : (k : ℕ) (d : ℕ × ℚ) → l.high ≤ k → k < length l.entries → l.variable ≤ (get_or l.entries k d).0;
}

abbrev pub decreases-loop-low : goal.decreases-loop-low
decreases-loop-low l = l.high - l.low
