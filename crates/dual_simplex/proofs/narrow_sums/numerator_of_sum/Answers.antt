use Rattle.std.proofs.Common.{◌≤◌, ◌+◌, ◌*◌, ◌∙◌, ap, sym, subst, arith, rules, drop}
use Rattle.std.specs.Prelude.{nat_abs}
use Rattle.std.specs.Int.{w128}
use Rattle.std.proofs.lemmas.Int.{to_z-of_z}
use mir.Val.{SFits, to_z}
use Rattle.fraction.specs.Rational.{frac}
use Rattle.dual_simplex.specs.Scaled.{point_over, largest_product}
use Rattle.derivation_book.specs.Lemmas.OneDenominator.{zero_over}
use Rattle.dual_simplex.proofs.Scaling.{next_over}
use Rattle.dual_simplex.proofs.Sparse.{sum_of_terms, checked_sum-terms}
use Rattle.dual_simplex.proofs.narrow_sums.numerator_of_sum.Goals as goal

pub loop-term-init : goal.loop-term-init
loop-term-init c = record {
  small = omega arith;
  sum = λ d o. ap (λ s. sum_of_terms s c.args.terms.now (point_over d c.args.numerators.now)) (sym (zero_over d o.positive))
      ∙ sym (checked_sum-terms (point_over d c.args.numerators.now) c.args.terms.now c.requires.rising);
}

pub loop-term-preserved : goal.loop-term-preserved
loop-term-preserved c =
    let i = c.loop-term.term-index in
    let t = c.term-item.result in
    let zs = c.args.numerators.now in
    let fits : SFits w128 c.in_ok-total.total = search rules in
    let same = to_z-of_z w128 c.in_ok-total.total fits in
    let before = to_z w128 c.loop-term.total-bits in
    record {
      small = subst (λ z. nat_abs z ≤ (i + 1) * largest_product) (sym same) (omega (arith, c.in_ok-total.ensures.small, c.loop-term.invariant.small));
      sum = λ d o. ap (λ z. sum_of_terms (frac z d) (drop (i + 1) c.args.terms.now) (point_over d zs)) same
          ∙ next_over zs c.args.terms.now i t before c.in_ok-total.total (omega arith) (omega arith) c.term-item.is c.loop-term.invariant.small c.requires.numerators c.in_ok-total.ensures.integer c.in_ok-total.ensures.value d o
          ∙ c.loop-term.invariant.sum d o;
    }
