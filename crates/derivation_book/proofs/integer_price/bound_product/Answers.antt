use Rattle.std.proofs.Common.{◌≡◌, ◌*ℤ◌, ap, ◌∙◌}
use Rattle.std.specs.Int.{w64, w128}
use Rattle.std.proofs.lemmas.Int.{to_z-of_z}
use mir.Val.{to_z, of_z}
use Rattle.derivation_book.proofs.IntegerPrice.{bound_product_small, bound_product_fits, wide_fits}
use Rattle.derivation_book.proofs.integer_price.bound_product.Goals as goal

product : (c : goal.After-from) → to_z w128 (of_z w128 (to_z w128 (of_z w128 c.args.left) *ℤ to_z w128 (of_z w128 c.from.result))) ≡ c.args.left *ℤ c.args.bound
product c =
    let same = c.from.ensures ∙ to_z-of_z w64 c.args.bound c.ranges.bound in
    ap (λ z. to_z w128 (of_z w128 z)) (λ i. to_z-of_z w128 c.args.left c.ranges.left i *ℤ (to_z-of_z w128 c.from.result (wide_fits c.from.result c.from.type_inv) ∙ same) i)
    ∙ to_z-of_z w128 (c.args.left *ℤ c.args.bound) (bound_product_fits _ (bound_product_small c.args.left c.args.bound c.requires.left c.requires.bound))

pub returns-clause-value : goal.returns-clause-value
returns-clause-value c = product c

pub returns-clause-small : goal.returns-clause-small
returns-clause-small c = rw (product c) (bound_product_small c.args.left c.args.bound c.requires.left c.requires.bound)
