use Rattle.std.proofs.Common.{◌≡◌, ◌<◌, ◌^◌, ◌+ℤ◌, ◌*ℤ◌, ◌∙◌, ℤ, pos, nat_abs, to_z, of_z, arith, ap, sym, subst, w64}
use Rattle.std.specs.Int.{w128}
use Rattle.std.proofs.lemmas.Int.{ints, fits_signed_from_abs, to_z-of_z}
use Rattle.fraction.specs.Lemmas.Integers.{back128}
use Rattle.fraction.proofs.numbers.short_cross.Goals as goal

sum_small : (x y : ℤ) → nat_abs x < 2 ^ 126 → nat_abs y < 2 ^ 126 → nat_abs (x +ℤ y) < 2 ^ 127
sum_small x y h k = omega (arith, ints)

sum_back : (x y : ℤ) → nat_abs x < 2 ^ 126 → nat_abs y < 2 ^ 126 → to_z w128 (of_z w128 x) +ℤ to_z w128 (of_z w128 y) ≡ x +ℤ y
sum_back x y h k = λ i. back128 x (omega (arith, h)) i +ℤ back128 y (omega (arith, k)) i

pub overflow_add-result : goal.overflow_add-result
overflow_add-result c =
    fits_signed_from_abs w128 _ (subst (λ (z : ℤ). nat_abs z < 2 ^ 127) (sym (sum_back c.short_scaled.result c.short_scaled-2.result c.short_scaled.ensures.small c.short_scaled-2.ensures.small))
    (sum_small c.short_scaled.result c.short_scaled-2.result c.short_scaled.ensures.small c.short_scaled-2.ensures.small))

sum : (c : goal.After-short_scaled-2) → to_z w128 (of_z w128 (to_z w128 (of_z w128 c.short_scaled.result) +ℤ to_z w128 (of_z w128 c.short_scaled-2.result))) ≡ c.short_scaled.result +ℤ c.short_scaled-2.result
sum c =
    ap (λ (z : ℤ). to_z w128 (of_z w128 z)) (sum_back c.short_scaled.result c.short_scaled-2.result c.short_scaled.ensures.small c.short_scaled-2.ensures.small)
    ∙ back128 _ (sum_small c.short_scaled.result c.short_scaled-2.result c.short_scaled.ensures.small c.short_scaled-2.ensures.small)

pub returns-clause-value : goal.returns-clause-value
returns-clause-value c =
    sum c
    ∙ (λ i. (c.short_scaled.ensures.value ∙ ap (λ (z : ℤ). z *ℤ pos c.args.by) (to_z-of_z w64 c.args.a c.ranges.a)) i
    +ℤ (c.short_scaled-2.ensures.value ∙ ap (λ (z : ℤ). z *ℤ pos c.args.other_by) (to_z-of_z w64 c.args.c c.ranges.c)) i)

pub returns-clause-small : goal.returns-clause-small
returns-clause-small c = subst (λ (z : ℤ). nat_abs z < 2 ^ 127) (sym (sum c)) (sum_small c.short_scaled.result c.short_scaled-2.result c.short_scaled.ensures.small c.short_scaled-2.ensures.small)
