use Rattle.std.proofs.Common.{sym, subst}
use Rattle.fraction.specs.Rational.{ℚ}
use Rattle.mps_reader.specs.RangedRows.{IsTextNumber}
use Rattle.mps_reader.proofs.RangedRows.{abs_held}
use Rattle.mps_reader.proofs.ranged_rows.size_of.Goals as goal

pub returns-clause-held : goal.returns-clause-held
returns-clause-held c = subst (λ (q : ℚ). IsTextNumber q) (sym c.abs.ensures.value) (abs_held c.args.range c.requires)
