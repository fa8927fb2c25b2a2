use Rattle.std.proofs.Common.{◌∙◌, ap, sym, to_z, w64}
use Rattle.std.proofs.lemmas.Int.{wrapping_mul_is}
use Rattle.integer_tableau.proofs.divisor.reach_of.Goals as goal

pub returns-then-product-clause-inverts : goal.returns-then-product-clause-inverts
returns-then-product-clause-inverts c = λ _. sym (wrapping_mul_is w64 c.args.odd c.args.inverse c.ranges.odd c.ranges.inverse) ∙ ap (to_z w64) c.if-odd-inverse-eq1.true
