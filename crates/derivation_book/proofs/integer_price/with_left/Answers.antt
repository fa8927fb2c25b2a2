use Rattle.std.proofs.Common.{◌≡◌, ◌≤◌, ◌∙◌, ap, sym, subst, arith, rules, Some}
use Rattle.std.specs.Prelude.{pos, ◌+ℤ◌, ◌*ℤ◌, nat_abs, int_lt, if◌then◌else◌}
use Rattle.std.specs.Int.{w64, w128}
use Rattle.std.proofs.lemmas.Int.{to_z-of_z}
use mir.Val.{SFits, to_z, of_z}
use Rattle.fraction.specs.Rational.{frac}
use Rattle.derivation_book.proofs.IntegerPrice.{bound_product_small, nothing_left, times_bound}
use Rattle.derivation_book.proofs.integer_price.with_left.Goals as goal
use Rattle.derivation_book.specs.Sizes.{largest_price_bound}

pub returns-then-left-eq0-clause-value : goal.returns-then-left-eq0-clause-value
returns-then-left-eq0-clause-value c = λ d o l.
    let zero : c.args.left ≡ pos 0 = sym (to_z-of_z w128 c.args.left c.ranges.left) ∙ ap (to_z w128) c.if-left-eq0.true in
    nothing_left d c.args.total c.args.left c.args.span o zero ∙ ap (λ z. Some (frac z d)) (sym (to_z-of_z w128 c.args.total c.ranges.total))

pub returns-then-unsigned_abs-le-LARGEST_PRICE_BOUND-clause-value : goal.returns-then-unsigned_abs-le-LARGEST_PRICE_BOUND-clause-value
returns-then-unsigned_abs-le-LARGEST_PRICE_BOUND-clause-value c = λ d o l.
    let b = c.bound_taken-bound.result in
    let bound_fits : SFits w64 b = search rules in
    let sum_fits : SFits w128 c.with_product.result = search rules in
    let bound : to_z w64 (of_z w64 b) ≡ b = to_z-of_z w64 b bound_fits in
    let left : to_z w128 (of_z w128 c.args.left) ≡ c.args.left = to_z-of_z w128 c.args.left c.ranges.left in
    let bound_small : nat_abs b ≤ largest_price_bound = subst (λ z. nat_abs z ≤ largest_price_bound) bound (omega (arith, c.unsigned_abs.ensures.value, c.if-unsigned_abs-le-LARGEST_PRICE_BOUND.true)) in
    times_bound d c.args.total c.args.left c.with_product.result b c.args.span o l (λ e. c.if-left-eq0.false (ap (of_z w128) e)) c.requires.total
    (bound_product_small c.args.left b c.requires.left bound_small)
    (c.bound_taken-bound.ensures ∙ ap (λ z. if int_lt (pos 0) z then c.args.span.lo else c.args.span.hi) left)
    (c.with_product.ensures.value ∙ (λ i. to_z-of_z w128 c.args.total c.ranges.total i +ℤ left i *ℤ bound i))
    ∙ ap (λ z. Some (frac z d)) (sym (to_z-of_z w128 c.with_product.result sum_fits))
