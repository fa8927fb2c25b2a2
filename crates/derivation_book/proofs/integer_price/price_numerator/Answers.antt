use Rattle.std.proofs.Common.{◌≡◌, ◌<◌, ◌≤◌, ◌+◌, ◌*◌, ◌∙◌, pos, get_or, ap, sym, subst, arith, rules, drop, length}
use Rattle.std.specs.Prelude.{nat_abs, map}
use Rattle.std.specs.Int.{w128}
use Rattle.std.proofs.lemmas.Int.{to_z-of_z}
use Rattle.std.proofs.lemmas.List.{length-map, get_or_default}
use mir.Val.{SFits, to_z}
use Rattle.fraction.specs.Rational.{frac, whole}
use Rattle.derivation_book.specs.OverOne.{over}
use Rattle.derivation_book.specs.Price.{with_columns, with_reduced_cost}
use Rattle.derivation_book.specs.Lemmas.Price.{next_column}
use Rattle.derivation_book.proofs.Numerators.{over_at}
use Rattle.derivation_book.proofs.integer_price.price_numerator.Goals as goal
use Rattle.derivation_book.specs.Sizes.{largest_addend}

pub loop-column-preserved : goal.loop-column-preserved
loop-column-preserved c =
    let d = c.args.denominator in
    let j = c.loop-column.column in
    let cs = c.args.coefficients.now in
    let us = map (over d) (map whole cs) in
    let q = get_or cs j (pos 0) in
    let before = to_z w128 c.loop-column.total-bits in
    let fits : SFits w128 c.in_ok-total.total = search rules in
    let q_fits : SFits w128 q = search rules in
    let same = to_z-of_z w128 c.in_ok-total.total fits in
    let there : j < length cs = omega arith in
    let long : length us ≡ length cs = length-map (map whole cs) (over d) ∙ length-map cs whole in
    record {
      rising = c.wanted_at-wanted.ensures.rising;
      small = subst (λ z. nat_abs z ≤ (j + 1 + 1) * largest_addend) (sym same) (omega (arith, c.in_ok-total.ensures.small, c.loop-column.invariant.small));
      left = ap (λ z. with_columns (frac z d) (drop c.wanted_at-wanted.result.1 c.args.target.now) (j + 1) (drop (j + 1) us) (drop (j + 1) c.args.area.now)) same
          ∙ next_column us c.args.area.now j (frac q d) (omega (arith, long)) (over_at d cs j q (get_or_default cs j (pos 0) q there)) (c.requires.columns ∙ sym long)
          c.span.result c.span.ensures (frac before d) c.wanted_at-wanted.result.0 (drop c.loop-column.next c.args.target.now) c.wanted_at-wanted.ensures.coefficient
          (frac c.in_ok-total.total d) (drop c.wanted_at-wanted.result.1 c.args.target.now)
          (ap (λ z. with_reduced_cost (frac before d) c.wanted_at-wanted.result.0 (frac z d) c.span.result) (sym (to_z-of_z w128 q q_fits)) ∙ c.in_ok-total.ensures.value) c.wanted_at-wanted.ensures.later
          ∙ c.loop-column.invariant.left;
    }
