use Rattle.std.proofs.Common.{◌≡◌, ◌++◌, drop}
use Rattle.std.specs.Prelude.{All}
use Rattle.tableau.specs.Sparse.{HasFraction, kept_below}
use Rattle.tableau.proofs.entries.Entries.push_terms.Given as goal

abbrev pub invariant-loop-term : goal.invariant-loop-term
invariant-loop-term l = record {
  entries : l.self ++ kept_below l.width (drop l.term-index l.terms) ≡ l.fn.self ++ kept_below l.width l.terms;
  fractions : All HasFraction l.fn.self → All HasFraction l.self;
}
