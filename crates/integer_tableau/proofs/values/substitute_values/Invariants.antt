use Rattle.std.proofs.Common.{◌≡◌, ◌≢◌, ℕ, ◌<◌, [], get_or}
use Rattle.integer_tableau.specs.Numbers.{number_at}
use Rattle.integer_tableau.specs.Pivot.{IsSubstitutedValue}
use Rattle.integer_tableau.proofs.values.substitute_values.Given as goal

abbrev pub invariant-loop-basic : goal.invariant-loop-basic
invariant-loop-basic l = record {
  done : (p : ℕ) → p < l.basic-index → IsSubstitutedValue l.width l.column l.nonbasic_value l.pivot_size l.entering l.divisor.number (get_or l.rows (get_or l.basic_columns p 0) [])
      (number_at l.initial.values (get_or l.basic_columns p 0)) (number_at l.values (get_or l.basic_columns p 0));
  left : (v : ℕ) → ((p : ℕ) → p < l.basic-index → get_or l.basic_columns p 0 ≢ v) → number_at l.values v ≡ number_at l.initial.values v;
}
