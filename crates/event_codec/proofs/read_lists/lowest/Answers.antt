use Rattle.std.proofs.Common.{◌≡◌, sym, ap, ◌∙◌, arith}
use Rattle.std.specs.Prelude.{pos, ◌<ℤ◌, nat_abs}
use Rattle.std.specs.Int.{w128}
use Rattle.std.proofs.lemmas.Int.{ints, to_z-of_z}
use Rattle.fraction.specs.Rational.{frac, whole}
use Rattle.event_codec.proofs.Lowest.{lowest_kept, not_lowest, whole_kept}
use Rattle.event_codec.proofs.read_lists.lowest.Goals as goal

pub returns-then-den-eq1 : goal.returns-then-den-eq1
returns-then-den-eq1 c =
    let num = c.args.num in
    let den = c.args.den in
    let one : den ≡ pos 1 = omega (arith, ints) in
    whole_kept num den c.of.result one (c.of.ensures ∙ ap whole (to_z-of_z w128 num c.ranges.num))

pub returns-then-denom-unsigned_abs : goal.returns-then-denom-unsigned_abs
returns-then-denom-unsigned_abs c =
    let num = c.args.num in
    let den = c.args.den in
    let positive : pos 0 <ℤ den = omega (arith, ints) in
    let made : c.make-fraction.result ≡ frac num (nat_abs den) = c.make-fraction.ensures ∙ (λ i. frac (to_z-of_z w128 num c.ranges.num i) (nat_abs (to_z-of_z w128 den c.ranges.den i))) in
    let size : c.unsigned_abs.result ≡ nat_abs den = c.unsigned_abs.ensures.value ∙ ap nat_abs (to_z-of_z w128 den c.ranges.den) in
    lowest_kept num den c.make-fraction.result positive made (sym c.denom.ensures ∙ c.if-denom-unsigned_abs.true ∙ size)

pub returns-else-denom-unsigned_abs : goal.returns-else-denom-unsigned_abs
returns-else-denom-unsigned_abs c =
    let num = c.args.num in
    let den = c.args.den in
    let positive : pos 0 <ℤ den = omega (arith, ints) in
    let made : c.make-fraction.result ≡ frac num (nat_abs den) = c.make-fraction.ensures ∙ (λ i. frac (to_z-of_z w128 num c.ranges.num i) (nat_abs (to_z-of_z w128 den c.ranges.den i))) in
    let size : c.unsigned_abs.result ≡ nat_abs den = c.unsigned_abs.ensures.value ∙ ap nat_abs (to_z-of_z w128 den c.ranges.den) in
    not_lowest num den c.make-fraction.result positive made (λ e. c.if-denom-unsigned_abs.false (c.denom.ensures ∙ e ∙ sym size))
