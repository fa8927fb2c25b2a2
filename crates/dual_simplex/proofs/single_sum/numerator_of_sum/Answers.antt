use Rattle.std.proofs.Common.{◌≤◌, ◌+◌, ◌*◌, ◌∙◌, ap, sym, subst, arith, rules, drop}
use Rattle.std.specs.Prelude.{nat_abs}
use Rattle.std.specs.Int.{w128}
use Rattle.std.proofs.lemmas.Int.{to_z-of_z}
use mir.Val.{SFits, to_z}
use Rattle.fraction.specs.Rational.{frac}
use Rattle.dual_simplex.specs.Scaled.{largest_product}
use Rattle.derivation_book.specs.Lemmas.OneDenominator.{zero_over}
use Rattle.dual_simplex.proofs.Sparse.{sum_of_terms, next_term, checked_sum-terms}
use Rattle.dual_simplex.proofs.single_sum.numerator_of_sum.Goals as goal

pub loop-term-init : goal.loop-term-init
loop-term-init c = record {
  small = omega arith;
  sum = ap (λ s. sum_of_terms s c.args.terms.now c.args.point.now) (sym (zero_over c.args.denominator c.requires.denominator.positive))
      ∙ sym (checked_sum-terms c.args.point.now c.args.terms.now c.requires.rising);
}

pub loop-term-preserved : goal.loop-term-preserved
loop-term-preserved c =
    let i = c.loop-term.term-index in
    let t = c.term-item.result in
    let x = c.args.point.now in
    let d = c.args.denominator in
    let fits : SFits w128 c.in_ok-total.total = search rules in
    let same = to_z-of_z w128 c.in_ok-total.total fits in
    let before = to_z w128 c.loop-term.total-bits in
    record {
      small = subst (λ z. nat_abs z ≤ (i + 1) * largest_product) (sym same) (omega (arith, c.in_ok-total.ensures.small, c.loop-term.invariant.small));
      sum = ap (λ z. sum_of_terms (frac z d) (drop (i + 1) c.args.terms.now) x) same
          ∙ next_term x c.args.terms.now i t (frac before d) (frac c.in_ok-total.total d) (omega arith) c.term-item.is c.in_ok-total.ensures.value
          ∙ c.loop-term.invariant.sum;
    }
