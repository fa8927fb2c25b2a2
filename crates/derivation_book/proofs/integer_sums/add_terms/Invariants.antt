use Rattle.std.proofs.Common.{◌≡◌, take, drop}
use Rattle.std.specs.Prelude.{All, map}
use Rattle.fraction.specs.Rational.{whole}
use Rattle.fraction.specs.Whole.{IsWhole}
use Rattle.problem.specs.Rising.{AreRising}
use Rattle.derivation_book.specs.Adding.{columns_added}
use Rattle.derivation_book.specs.IntegerSums.{FitsInteger}
use Rattle.derivation_book.proofs.integer_sums.add_terms.Given as goal

abbrev pub invariant-loop-term : goal.invariant-loop-term
invariant-loop-term l = record {
  held : All FitsInteger l.sums;
  rising : AreRising (drop l.term-index l.terms);
  integers : All (λ t. IsWhole t.1) (take l.term-index l.terms);
  left : columns_added (map whole l.sums) 0 (whole l.factor) (drop l.term-index l.terms) ≡ columns_added (map whole l.initial.sums) 0 (whole l.factor) l.terms;
}
