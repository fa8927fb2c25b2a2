use Rattle.std.proofs.Common.{arith, refl, w64, to_z, of_z}
use Rattle.std.proofs.lemmas.Int.{to_z-of_z}
use Rattle.integer_tableau.specs.Numbers.{number_at}
use Rattle.integer_tableau.proofs.Loops.{back64, back_neg, fits_at, substituted_from}
use Rattle.integer_tableau.proofs.substitution.substitute.Goals as goal

pub substitute_narrow-requires-clause-fits : goal.substitute_narrow-requires-clause-fits
substitute_narrow-requires-clause-fits c = λ k. fits_at (number_at c.args.row.now k) (to_z w64 (of_z w64 c.args.row_factor)) (number_at c.args.source.now k) (to_z w64 (of_z w64 c.args.source_factor)) c.args.row_size c.args.source_size
    (c.requires.row_within k) (c.requires.source_within k) (c.if-is_narrow.ensures refl)

pub returns-else-is_narrow : goal.returns-else-is_narrow
returns-else-is_narrow c = λ a. substituted_from c.args.divisor.number _ c.args.row_factor _ c.args.source_factor _ c.args.row.now c.args.source.now c.substitute_wide.new.row
    (back64 c.args.divisor.number (omega (arith, c.args.divisor.small))) (back_neg c.args.row_factor c.requires.row_factor_small) (to_z-of_z w64 c.args.source_factor c.ranges.source_factor) (c.substitute_wide.ensures a)
