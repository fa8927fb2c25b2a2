use Rattle.std.proofs.Common.{◌≡◌, ◌≢◌, ℕ, ◌<◌, [], get_or}
use Rattle.integer_tableau.specs.Substitution.{IsSubstitutedIfFull}
use Rattle.integer_tableau.proofs.elimination.substitute_all.Given as goal

abbrev pub invariant-loop-basic : goal.invariant-loop-basic
invariant-loop-basic l = record {
  done : (p : ℕ) → p < l.basic-index → IsSubstitutedIfFull l.divisor.number l.pivot_size l.column l.source (get_or l.initial.rows (get_or l.basic_columns p 0) []) (get_or l.rows (get_or l.basic_columns p 0) []);
  left : (v : ℕ) → ((p : ℕ) → p < l.basic-index → get_or l.basic_columns p 0 ≢ v) → get_or l.rows v [] ≡ get_or l.initial.rows v [];
}
