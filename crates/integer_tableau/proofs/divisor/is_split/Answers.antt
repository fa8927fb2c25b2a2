use Rattle.std.proofs.Common.{◌≡◌, ◌∙◌, ◌-◌, ◌^◌, ◌<◌, ◌≤◌, ◌*ℤ◌, ℕ, ℤ, pos, nat_abs, to_z, of_z, subst, arith, ap, sym, w64}
use borrow.Author.Tests.{eqb-true}
use mir.Val.{SFits}
use Rattle.std.specs.Int.{w128}
use Rattle.std.proofs.lemmas.Int.{ints, to_z-of_z, fits_signed_mul}
use Rattle.std.proofs.lemmas.Nat.{one_shl, pow_below}
use Rattle.integer_tableau.proofs.divisor.is_split.Goals as goal

-- a product of 64 bits by 64 bits has 128 bits
product_back : (a b : ℤ) → nat_abs a ≤ 2 ^ 63 → nat_abs b < 2 ^ 64 → SFits w128 (a *ℤ b)
product_back a b h k = fits_signed_mul w128 a b (2 ^ 63) (2 ^ 64 - 1) h (omega (arith, k)) (omega arith)

small_power : (k : ℕ) → k < 64 → nat_abs (pos (2 ^ k)) < 2 ^ 64
small_power k h = pow_below k 64 h

equal_from : (p n : ℤ) → SFits w128 p → SFits w128 n → of_z w128 p ≡ of_z w128 n → p ≡ n
equal_from p n f g e = sym (to_z-of_z w128 p f) ∙ ap (to_z w128) e ∙ to_z-of_z w128 n g

pub returns : goal.returns
returns c = λ a.
    let fa : SFits w128 c.from.result = record { sfits = c.from.type_inv } in
    let fb : SFits w128 c.from-2.result = record { sfits = c.from-2.type_inv } in
    let fn : SFits w128 c.from-3.result = record { sfits = c.from-3.type_inv } in
    let odd_is = c.from.ensures ∙ to_z-of_z w64 c.args.odd c.ranges.odd in
    let power_is = c.from-2.ensures ∙ ap pos (one_shl c.args.zeros 64 c.requires) in
    let number_is = c.from-3.ensures ∙ to_z-of_z w64 c.args.number c.ranges.number in
    equal_from (c.args.odd *ℤ pos (2 ^ c.args.zeros)) c.args.number (product_back c.args.odd (pos (2 ^ c.args.zeros)) (omega (arith, ints)) (small_power c.args.zeros c.requires))
    (wide c.args.number c.ranges.number)
    (sym (λ i. of_z w128 ((to_z-of_z w128 c.from.result fa ∙ odd_is) i *ℤ (to_z-of_z w128 c.from-2.result fb ∙ power_is) i)) ∙ eqb-true _ _ a ∙ ap (of_z w128) number_is)
  where
    wide : (z : ℤ) → SFits w64 z → SFits w128 z
    wide z f = omega (arith, ints)

pub overflow_mul-result : goal.overflow_mul-result
overflow_mul-result c =
    let fa : SFits w128 c.from.result = record { sfits = c.from.type_inv } in
    let fb : SFits w128 c.from-2.result = record { sfits = c.from-2.type_inv } in
    let odd_is = to_z-of_z w128 c.from.result fa ∙ c.from.ensures ∙ to_z-of_z w64 c.args.odd c.ranges.odd in
    let power_is = to_z-of_z w128 c.from-2.result fb ∙ c.from-2.ensures ∙ ap pos (one_shl c.args.zeros 64 c.requires) in
    subst (SFits w128) (sym (λ i. odd_is i *ℤ power_is i)) (product_back c.args.odd (pos (2 ^ c.args.zeros)) (omega (arith, ints)) (small_power c.args.zeros c.requires))
