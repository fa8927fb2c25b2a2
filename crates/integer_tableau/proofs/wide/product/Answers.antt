use Rattle.std.proofs.Common.{◌^◌, ◌≤◌, ◌*ℤ◌, ◌∙◌, ℤ, nat_abs, arith, sym, subst, w64}
use mir.Val.{SFits}
use Rattle.std.specs.Int.{w128}
use Rattle.std.proofs.Math.Nat.{mul-le-mul}
use Rattle.std.proofs.lemmas.Int.{ints, unsigned_abs-mul, to_z-of_z, fits_signed_mul}
use Rattle.integer_tableau.proofs.wide.product.Goals as goal

below : (a b : ℤ) → nat_abs a ≤ 2 ^ 63 → nat_abs b ≤ 2 ^ 62 → nat_abs (a *ℤ b) ≤ 2 ^ 125
below a b h k = rw unsigned_abs-mul (mul-le-mul h k)

pub overflow_mul-result : goal.overflow_mul-result
overflow_mul-result c =
    let fa : SFits w128 c.from.result = record { sfits = c.from.type_inv } in
    let fb : SFits w128 c.from-2.result = record { sfits = c.from-2.type_inv } in
    let a_is = to_z-of_z w128 c.from.result fa ∙ c.from.ensures ∙ to_z-of_z w64 c.args.a c.ranges.a in
    let b_is = to_z-of_z w128 c.from-2.result fb ∙ c.from-2.ensures ∙ to_z-of_z w64 c.args.b c.ranges.b in
    let a_small : nat_abs c.args.a ≤ 2 ^ 63 = omega (arith, ints, c.ranges.a) in
    let b_small : nat_abs c.args.b ≤ 2 ^ 62 = omega (arith, c.requires) in
    subst (SFits w128) (sym (λ i. a_is i *ℤ b_is i)) (fits_signed_mul w128 c.args.a c.args.b (2 ^ 63) (2 ^ 62) a_small b_small (omega arith))

pub returns-clause-small : goal.returns-clause-small
returns-clause-small c =
    let fa : SFits w128 c.from.result = record { sfits = c.from.type_inv } in
    let fb : SFits w128 c.from-2.result = record { sfits = c.from-2.type_inv } in
    let a_is = to_z-of_z w128 c.from.result fa ∙ c.from.ensures ∙ to_z-of_z w64 c.args.a c.ranges.a in
    let b_is = to_z-of_z w128 c.from-2.result fb ∙ c.from-2.ensures ∙ to_z-of_z w64 c.args.b c.ranges.b in
    let small : nat_abs (c.args.a *ℤ c.args.b) ≤ 2 ^ 125 = below c.args.a c.args.b (omega (arith, ints, c.ranges.a)) (omega (arith, c.requires)) in
    subst (λ (z : ℤ). nat_abs z ≤ 2 ^ 125) (sym (to_z-of_z w128 _ (overflow_mul-result c) ∙ (λ i. a_is i *ℤ b_is i))) small
