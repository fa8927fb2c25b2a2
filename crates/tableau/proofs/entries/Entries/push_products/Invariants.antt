use Rattle.std.proofs.Common.{◌≡◌, ◌++◌, drop, Option}
use Rattle.std.specs.Prelude.{All}
use Rattle.std.specs.Option.{option_map}
use Rattle.problem.specs.Linear.{Terms}
use Rattle.tableau.specs.Sparse.{HasFraction}
use Rattle.tableau.specs.SparseSteps.{products_below}
use Rattle.tableau.proofs.entries.Entries.push_products.Given as goal

abbrev pub invariant-loop-i : goal.invariant-loop-i
invariant-loop-i l = record {
  entries : (next : Terms → Option Terms)
      → option_map (λ es. l.self ++ es) (products_below l.factor l.limit next (drop l.i l.source)) ≡ option_map (λ es. l.fn.self ++ es) (products_below l.factor l.limit next l.source);
  fractions : All HasFraction l.fn.self → All HasFraction l.self;
}
