use Rattle.std.proofs.Common.{◌≡◌, drop}
use Rattle.std.specs.Prelude.{◌++◌}
use Rattle.derivation_book.specs.Rounded.{nonzero_terms}
use Rattle.derivation_book.proofs.cut_rows.nonzero_terms.Given as goal

abbrev pub invariant-loop-column : goal.invariant-loop-column
invariant-loop-column l = l.terms ++ nonzero_terms l.column (drop l.column l.coefficients) ≡ nonzero_terms 0 l.coefficients
