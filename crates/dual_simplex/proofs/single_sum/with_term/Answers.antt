use Rattle.std.specs.Prelude.{if◌then◌else◌, nat_lt, slice_get}
use Rattle.std.proofs.Common.{◌≡◌, ◌<◌, ◌≤◌, ◌*◌, ◌+◌, ◌^◌, ◌+ℤ◌, ◌*ℤ◌, ◌∙◌, Bool, true, Some, ℕ, ℤ, length, nat_abs, to_z, of_z, arith, rules, ap, sym}
use mir.Val.{SFits}
use Rattle.std.specs.Int.{w64, w128}
use Rattle.std.proofs.lemmas.Bool.{lt-ltb}
use Rattle.std.proofs.lemmas.Int.{ints, to_z-of_z, fits_signed_from_abs}
use Rattle.std.proofs.lemmas.Option.{get_or_from_slice_get}
use Rattle.fraction.specs.Rational.{ℚ, frac}
use Rattle.problem.specs.Limits.{most_columns}
use Rattle.derivation_book.specs.Sums.{with_product}
use Rattle.dual_simplex.specs.Relaxation.{rational_at}
use Rattle.dual_simplex.specs.Scaled.{largest_numerator, largest_product}
use Rattle.dual_simplex.proofs.Scaling.{term_over}
use Rattle.dual_simplex.proofs.single_sum.with_term.Goals as goal

sum_small : (t p : ℤ) → nat_abs t ≤ most_columns * largest_product → nat_abs p ≤ largest_product → nat_abs (t +ℤ p) < 2 ^ 127
sum_small t p h k = omega (arith, ints)

-- the numerator of the sum
total_is : (c : goal.After-product) → to_z w128 (of_z w128 (to_z w128 (of_z w128 c.args.total) +ℤ to_z w128 (of_z w128 c.product.result))) ≡ c.args.total +ℤ c.args.term.now.1.num *ℤ c.in_ok-numerator.numerator
total_is c =
    let k = c.in_ok-coefficient.coefficient in
    let y = c.from.result in
    let z = c.in_ok-numerator.numerator in
    let fk : SFits w128 k = search rules in
    let fy : SFits w128 y = record { sfits = c.from.type_inv } in
    let fz : SFits w64 z = search rules in
    let fp : SFits w128 c.product.result = record { sfits = c.product.type_inv } in
    (λ i. to_z w128 (of_z w128 (to_z-of_z w128 c.args.total c.ranges.total i +ℤ to_z-of_z w128 c.product.result fp i)))
    ∙ to_z-of_z w128 _ (fits_signed_from_abs w128 _ (sum_small c.args.total c.product.result c.requires.total c.product.ensures.small))
    ∙ ap (λ (p : ℤ). c.args.total +ℤ p) (c.product.ensures.value
    ∙ (λ i. (to_z-of_z w128 k fk ∙ c.in_ok-coefficient.ensures.value) i *ℤ (to_z-of_z w128 y fy ∙ c.from.ensures ∙ to_z-of_z w64 z fz) i))

pub returns-clause-value : goal.returns-clause-value
returns-clause-value c =
    let t = c.args.term.now in
    let x = c.args.point.now in
    let d = c.args.denominator in
    let z = c.in_ok-numerator.numerator in
    let fz : SFits w64 z = search rules in
    let there : nat_lt t.0 (length x) ≡ true = lt-ltb _ _ (omega (arith, c.column-column.ensures, c.len.ensures, c.if-column-len.false)) in
    let small : nat_abs z ≤ largest_numerator = omega (arith, ints, fz.sfits) in
    let given : slice_get x t.0 ≡ Some c.get.result = ap (slice_get x) (sym c.column-column.ensures) ∙ c.get.ensures in
    let number : rational_at x t.0 ≡ frac z d = get_or_from_slice_get x t.0 c.get.result _ given ∙ sym c.in_ok-numerator.ensures in
    ap (λ (b : Bool). if b then with_product (frac c.args.total d) t.1 (rational_at x t.0) else Some (frac c.args.total d)) there
    ∙ ap (λ (q : ℚ). with_product (frac c.args.total d) t.1 q) number
    ∙ term_over d c.requires.denominator c.args.total z t.1 c.requires.total small c.in_ok-coefficient.ensures.integer
    ∙ ap (λ (n : ℤ). Some (frac n d)) (sym (total_is c))
