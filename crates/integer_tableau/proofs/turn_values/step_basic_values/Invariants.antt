use Rattle.std.proofs.Common.{◌≡◌, ◌≢◌, ℕ, ◌<◌, ◌+ℤ◌, ◌-ℤ◌, ◌*ℤ◌, get_or}
use Rattle.integer_tableau.specs.Arena.{flat_row}
use Rattle.integer_tableau.specs.Numbers.{number_at}
use Rattle.integer_tableau.proofs.turn_values.step_basic_values.Given as goal

abbrev pub invariant-loop-index : goal.invariant-loop-index
invariant-loop-index l = record {
  done : (p : ℕ) → p < l.index → number_at l.values (get_or l.basic_columns p 0) *ℤ l.divisor.number
      ≡ (number_at l.initial.values (get_or l.basic_columns p 0) -ℤ number_at (flat_row l.width l.rows p) l.column *ℤ l.left) *ℤ l.size +ℤ l.entering *ℤ number_at (flat_row l.width l.rows p) l.column;
  left : (v : ℕ) → ((p : ℕ) → p < l.index → get_or l.basic_columns p 0 ≢ v) → number_at l.values v ≡ number_at l.initial.values v;
}
