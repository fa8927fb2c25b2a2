use Rattle.std.proofs.Common.{sym, subst}
use Rattle.problem.specs.Rising.{AreRising, AreNonzero}
use Rattle.derivation_book.specs.Lemmas.Rounded.{terms_rise, terms_nonzero}
use Rattle.derivation_book.proofs.combination.Combination.rounded.Goals as goal

pub make-requires-clause-rising : goal.make-requires-clause-rising
make-requires-clause-rising c = subst AreRising (sym c.in_ok-terms.ensures) (terms_rise 0 c.deref-2.result.now)

pub make-requires-clause-nonzero : goal.make-requires-clause-nonzero
make-requires-clause-nonzero c = subst AreNonzero (sym c.in_ok-terms.ensures) (terms_nonzero 0 c.deref-2.result.now)
