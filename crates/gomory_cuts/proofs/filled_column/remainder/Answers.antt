use Rattle.std.proofs.Common.{◌≡◌, arith, sym, subst, ap, ◌∙◌, pos, to_z, of_z}
use Rattle.std.specs.Prelude.{ℤ, ◌-ℤ◌, ◌*ℤ◌}
use Rattle.std.specs.Int.{w64, w128, int_div_euclid, int_rem_euclid}
use Rattle.std.specs.Int.RustNames.{FitsSigned}
use Rattle.std.proofs.lemmas.Int.{ints, to_z-of_z}
use Rattle.gomory_cuts.proofs.Rounding.{quotient_sum, remainder_small}
use Rattle.gomory_cuts.proofs.filled_column.remainder.Goals as goal

difference : (c : goal.After-short_product) → to_z w128 (of_z w128 (to_z w128 (of_z w128 c.from.result) -ℤ to_z w128 (of_z w128 c.short_product.result))) ≡ int_rem_euclid c.args.numerator (pos c.args.denominator)
difference c =
    let n = c.args.numerator in
    let d = c.args.denominator in
    let e : to_z w64 d ≡ pos d = omega (arith, ints, c.requires.small) in
    let product : c.short_product.result ≡ int_div_euclid n (pos d) *ℤ pos d =
    c.short_product.ensures.value ∙ (λ i. to_z-of_z w64 c.args.quotient c.ranges.quotient i *ℤ e i) ∙ ap (λ q. q *ℤ pos d) c.requires.quotient in
    let r = remainder_small n d c.requires.positive in
    omega (arith, ints, c.from.ensures, product, r.0, r.1, c.requires.small, quotient_sum n d c.requires.positive)

pub overflow_cast-result : goal.overflow_cast-result
overflow_cast-result c =
    let r = remainder_small c.args.numerator c.args.denominator c.requires.positive in
    subst (FitsSigned w64) (sym (difference c)) (omega (arith, ints, r.0, r.1, c.requires.small))

pub returns : goal.returns
returns c =
    let r = remainder_small c.args.numerator c.args.denominator c.requires.positive in
    ap (λ (z : ℤ). to_z w64 (of_z w64 z)) (difference c) ∙ omega (arith, ints, r.0, r.1, c.requires.small)
