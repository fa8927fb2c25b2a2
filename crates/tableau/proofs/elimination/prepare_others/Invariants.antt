use Rattle.std.proofs.Common.{◌≡◌, ◌<◌, ◌≤◌, ℕ, [], Some, length, get_or}
use Rattle.tableau.specs.Elimination.{substituted}
use Rattle.tableau.specs.SparseSteps.{next_row}
use Rattle.tableau.proofs.elimination.prepare_others.Given as goal

abbrev pub invariant-loop-i : goal.invariant-loop-i
invariant-loop-i l = record {
  there : length l.rows ≤ length l.ready;
  done : (k : ℕ) → k < l.i → (k ≡ l.leaving → ⊥) → substituted l.variable l.source (get_or l.rows k []) ≡ Some (next_row l.variable (get_or l.rows k []) (get_or l.ready k []));
}
