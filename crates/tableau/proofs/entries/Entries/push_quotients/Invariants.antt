use Rattle.std.proofs.Common.{◌≡◌, ◌++◌, drop}
use Rattle.std.specs.Prelude.{All}
use Rattle.std.specs.Option.{option_map}
use Rattle.problem.specs.Linear.{Terms}
use Rattle.tableau.specs.Sparse.{HasFraction, without}
use Rattle.tableau.specs.SparseSteps.{entry_quotients}
use Rattle.tableau.proofs.entries.Entries.push_quotients.Given as goal

abbrev pub invariant-loop-entry : goal.invariant-loop-entry
invariant-loop-entry l = record {
  entries : (others : Terms)
      → option_map (λ es. l.self ++ es) (entry_quotients l.pivot (without l.variable (drop l.entry-index l.entries) ++ others))
      ≡ option_map (λ es. l.fn.self ++ es) (entry_quotients l.pivot (without l.variable l.entries ++ others));
  fractions : All HasFraction l.fn.self → All HasFraction l.self;
}
