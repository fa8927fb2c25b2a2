use Rattle.std.proofs.Common.{refl, sym, subst, pos}
use Rattle.std.specs.Prelude.{if◌then◌else◌}
use Rattle.fraction.specs.Rational.{whole}
use Rattle.tableau.specs.Elimination.{zero_ℚ}
use Rattle.gomory_cuts.proofs.Columns.{HasColumn, without_zero}
use Rattle.gomory_cuts.proofs.filled_column.push_counted.Goals as goal

pub returns-then-at_zero : goal.returns-then-at_zero
returns-then-at_zero c =
    subst (λ k. HasColumn c.args.terms.now c.args.terms.now c.args.column (if k then zero_ℚ else whole c.args.coefficient)) (sym c.if-at_zero.true)
    (without_zero c.args.terms.now c.args.column (pos 0) refl)
