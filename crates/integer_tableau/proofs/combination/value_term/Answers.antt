use Rattle.std.proofs.Common.{◌∙◌, ◌*ℤ◌, rules, w64}
use Rattle.std.specs.Int.{w128}
use mir.Val.{SFits}
use Rattle.std.proofs.lemmas.Int.{to_z-of_z}
use Rattle.integer_tableau.specs.Combined.{value_numerator}
use Rattle.integer_tableau.proofs.combination.value_term.Goals as goal

pub returns : goal.returns
returns c =
    let f : SFits w128 c.product.result = search rules in
    let g : SFits w64 c.column_value.result = search rules in
    to_z-of_z w128 c.product.result f ∙ c.product.ensures
    ∙ (λ i. to_z-of_z w64 c.args.coefficient c.ranges.coefficient i *ℤ (to_z-of_z w64 c.column_value.result g ∙ c.column_value.ensures
    ∙ (λ j. value_numerator (to_z-of_z w64 c.args.denominator c.ranges.denominator j) c.args.position (to_z-of_z w64 c.args.nonbasic_value c.ranges.nonbasic_value j) (to_z-of_z w64 c.args.value c.ranges.value j))) i)
