use Rattle.std.proofs.Common.{◌≡◌, ◌<◌, ◌≤◌, ◌-◌, ◌*◌, ◌^◌, ◌*ℤ◌, pos, ◌∙◌, ℕ, ℤ, nat_abs, to_z, of_z, arith, ap, sym, subst, w64}
use mir.Val.{SFits}
use Rattle.std.specs.Int.{w128}
use Rattle.std.proofs.Math.Nat.{mul-le-mul}
use Rattle.std.proofs.lemmas.Int.{ints, fits_signed_from_abs, to_z-of_z, unsigned_abs-mul}
use Rattle.fraction.specs.Lemmas.Integers.{back128}
use Rattle.fraction.proofs.numbers.short_scaled.Goals as goal

times : (x y : ℤ) (m n : ℕ) → nat_abs x ≤ m → nat_abs y ≤ n → nat_abs (x *ℤ y) ≤ m * n
times x y m n h k = rw unsigned_abs-mul (mul-le-mul h k)

natural : (n : ℕ) → n < 2 ^ 63 → to_z w64 n ≡ pos n
natural n h = omega (arith, ints)

factors : (c : goal.After-from-2) → to_z w128 (of_z w128 c.from.result) *ℤ to_z w128 (of_z w128 c.from-2.result) ≡ c.args.a *ℤ pos c.args.by
factors c =
    let f : SFits w128 c.from.result = record { sfits = c.from.type_inv } in
    let g : SFits w128 c.from-2.result = record { sfits = c.from-2.type_inv } in
    λ i. (to_z-of_z w128 c.from.result f ∙ c.from.ensures ∙ to_z-of_z w64 c.args.a c.ranges.a) i *ℤ (to_z-of_z w128 c.from-2.result g ∙ c.from-2.ensures ∙ natural c.args.by c.requires) i

small : (c : goal.After-from-2) → nat_abs (c.args.a *ℤ pos c.args.by) < 2 ^ 126
small c =
    let a_small : nat_abs c.args.a ≤ 2 ^ 63 = omega (arith, ints, c.ranges.a) in
    let by_small : nat_abs (pos c.args.by) ≤ 2 ^ 63 - 1 = omega (arith, c.requires) in
    omega (arith, times c.args.a (pos c.args.by) (2 ^ 63) (2 ^ 63 - 1) a_small by_small)

wider : (c : goal.After-from-2) → nat_abs (c.args.a *ℤ pos c.args.by) < 2 ^ 127
wider c = omega (arith, small c)

pub overflow_mul-result : goal.overflow_mul-result
overflow_mul-result c = fits_signed_from_abs w128 _ (subst (λ (z : ℤ). nat_abs z < 2 ^ 127) (sym (factors c)) (wider c))

pub returns-clause-value : goal.returns-clause-value
returns-clause-value c = ap (λ (z : ℤ). to_z w128 (of_z w128 z)) (factors c) ∙ back128 _ (wider c)

pub returns-clause-small : goal.returns-clause-small
returns-clause-small c = subst (λ (z : ℤ). nat_abs z < 2 ^ 126) (sym (returns-clause-value c)) (small c)
