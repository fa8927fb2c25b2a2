use Rattle.std.proofs.Common.{◌≡◌, drop}
use Rattle.std.specs.Prelude.{All}
use Rattle.fraction.specs.Fits.{FitsFraction}
use Rattle.derivation_book.specs.Adding.{columns_added}
use Rattle.problem.specs.Rising.{AreRising}
use Rattle.derivation_book.proofs.combination.add_any_terms.Given as goal

abbrev pub invariant-loop-term : goal.invariant-loop-term
invariant-loop-term l = record {
  held : All FitsFraction l.sums;
  rising : AreRising (drop l.term-index l.terms);
  left : columns_added l.sums 0 l.factor (drop l.term-index l.terms) ≡ columns_added l.initial.sums 0 l.factor l.terms;
}
