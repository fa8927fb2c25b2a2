use Rattle.std.proofs.Common.{◌≡◌, ◌<◌, drop, None, length}
use Rattle.std.specs.Prelude.{IfSome}
use Rattle.tableau.specs.SparseSteps.{entering_by_entries}
use Rattle.tableau.proofs.entering.least_ratio.Given as goal

abbrev pub invariant-loop-term : goal.invariant-loop-term
invariant-loop-term l = record {
  so_far : entering_by_entries l.direction l.best l.statuses l.bounds l.reduced_costs (drop l.term-index l.entries) ≡ entering_by_entries l.direction None l.statuses l.bounds l.reduced_costs l.entries;
  within : IfSome l.best (λ b. b.0 < length l.statuses);
}
