use Rattle.std.proofs.Common.{◌≡◌, drop}
use Rattle.std.specs.Prelude.{All}
use Rattle.fraction.specs.Fits.{FitsFraction}
use Rattle.derivation_book.specs.Adding.{columns_added}
use Rattle.problem.specs.Rising.{AreRising}
use Rattle.derivation_book.proofs.combination.add_short_terms.Given as goal

abbrev pub invariant-loop-index : goal.invariant-loop-index
invariant-loop-index l = record {
  held : All FitsFraction l.sums;
  rising : AreRising (drop l.index l.terms);
  left : columns_added l.sums 0 l.factor (drop l.index l.terms) ≡ columns_added l.initial.sums 0 l.factor l.terms;
}
