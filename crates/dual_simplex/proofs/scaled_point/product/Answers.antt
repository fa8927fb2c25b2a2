use Rattle.std.proofs.Common.{◌≡◌, ◌*ℤ◌, ap, ◌∙◌}
use Rattle.std.specs.Int.{w128}
use Rattle.std.proofs.lemmas.Int.{to_z-of_z}
use mir.Val.{to_z, of_z}
use Rattle.dual_simplex.proofs.Scaling.{product_small, product_fits}
use Rattle.dual_simplex.proofs.scaled_point.product.Goals as goal

factors : (c : goal.Start) → to_z w128 (of_z w128 (to_z w128 (of_z w128 c.args.coefficient) *ℤ to_z w128 (of_z w128 c.args.numerator))) ≡ c.args.coefficient *ℤ c.args.numerator
factors c =
    ap (λ z. to_z w128 (of_z w128 z)) (λ i. to_z-of_z w128 c.args.coefficient c.ranges.coefficient i *ℤ to_z-of_z w128 c.args.numerator c.ranges.numerator i)
    ∙ to_z-of_z w128 (c.args.coefficient *ℤ c.args.numerator) (product_fits _ (product_small c.args.coefficient c.args.numerator c.requires.coefficient c.requires.numerator))

pub returns-clause-value : goal.returns-clause-value
returns-clause-value c = factors c

pub returns-clause-small : goal.returns-clause-small
returns-clause-small c = rw (factors c) (product_small c.args.coefficient c.args.numerator c.requires.coefficient c.requires.numerator)
