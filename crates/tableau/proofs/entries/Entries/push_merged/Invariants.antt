use Rattle.std.proofs.Common.{◌≡◌, ◌≤◌, ◌++◌, drop, length}
use Rattle.std.specs.Prelude.{All}
use Rattle.std.specs.Option.{option_map}
use Rattle.tableau.specs.Sparse.{HasFraction, without}
use Rattle.tableau.specs.SparseSteps.{merged}
use Rattle.tableau.proofs.entries.Entries.push_merged.Given as goal

abbrev pub invariant-loop-entry : goal.invariant-loop-entry
invariant-loop-entry l = record {
  entries : option_map (λ es. l.self ++ es) (merged l.width l.factor (without l.variable (drop l.entry-index l.row)) (drop l.next l.source))
      ≡ option_map (λ es. l.fn.self ++ es) (merged l.width l.factor (without l.variable l.row) l.source);
  there : l.next ≤ length l.source;
  fractions : All HasFraction l.fn.self → All HasFraction l.self;
}
