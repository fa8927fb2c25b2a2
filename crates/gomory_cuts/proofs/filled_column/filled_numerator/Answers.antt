use Rattle.std.proofs.Common.{◌≡◌, arith, rules, sym, ap, ◌∙◌, pos, to_z, of_z}
use Rattle.std.specs.Prelude.{ℤ, ◌+ℤ◌, ◌*ℤ◌, if◌then◌else◌}
use Rattle.std.specs.Int.{w64, w128, int_div_euclid, int_rem_euclid}
use Rattle.std.proofs.lemmas.Int.{ints, to_z-of_z}
use mir.Val.{SFits}
use Rattle.fraction.specs.Rational.{frac, floor, ceil}
use Rattle.gomory_cuts.specs.Multipliers.{is_at_upper}
use Rattle.gomory_cuts.proofs.Rounding.{quotient_sum, remainder_small, floor_is, ceil_above, exact_to, next_product}
use Rattle.gomory_cuts.proofs.filled_column.filled_numerator.Goals as goal

pub returns-then-is_at_upper-clause-coefficient : goal.returns-then-is_at_upper-clause-coefficient
returns-then-is_at_upper-clause-coefficient c =
    let n = c.args.numerator in
    let d = c.args.denominator in
    let z = to_z-of_z w64 n c.ranges.numerator in
    let e : to_z w64 d ≡ pos d = omega (arith, ints, c.requires.small) in
    let down : to_z w128 (of_z w128 c.from-down.result) ≡ c.div_euclid-quotient.result = omega (arith, ints, c.from-down.ensures) in
    down ∙ c.div_euclid-quotient.ensures ∙ (λ i. int_div_euclid (z i) (e i)) ∙ sym (floor_is n d c.requires.positive)
    ∙ sym (ap (λ b. if b then floor (frac n d) else ceil (frac n d)) (sym c.is_at_upper.ensures ∙ c.if-is_at_upper.true))

pub returns-else-is_at_upper-clause-coefficient : goal.returns-else-is_at_upper-clause-coefficient
returns-else-is_at_upper-clause-coefficient c =
    let n = c.args.numerator in
    let d = c.args.denominator in
    let z = to_z-of_z w64 n c.ranges.numerator in
    let e : to_z w64 d ≡ pos d = omega (arith, ints, c.requires.small) in
    let down : c.div_euclid-quotient.result ≡ int_div_euclid n (pos d) = c.div_euclid-quotient.ensures ∙ (λ i. int_div_euclid (z i) (e i)) in
    let up : to_z w128 (of_z w128 (to_z w128 (of_z w128 c.from-down.result) +ℤ pos 1)) ≡ c.div_euclid-quotient.result +ℤ pos 1 = omega (arith, ints, c.from-down.ensures) in
    let rest : c.remainder-part.result ≡ int_rem_euclid n (pos d) = c.remainder-part.ensures ∙ ap (λ (x : ℤ). int_rem_euclid x (pos d)) z in
    up ∙ ap (λ q. q +ℤ pos 1) down
    ∙ sym (ceil_above n d c.requires.positive (λ f. omega (arith, ints, c.if-part-eq0.false, rest ∙ f)))
    ∙ sym (ap (λ b. if b then floor (frac n d) else ceil (frac n d)) (sym c.is_at_upper.ensures ∙ c.if-is_at_upper.false))

pub returns-else-is_at_upper-clause-filling : goal.returns-else-is_at_upper-clause-filling
returns-else-is_at_upper-clause-filling c =
    let n = c.args.numerator in
    let d = c.args.denominator in
    let z = to_z-of_z w64 n c.ranges.numerator in
    let e : to_z w64 d ≡ pos d = omega (arith, ints, c.requires.small) in
    let down : c.div_euclid-quotient.result ≡ int_div_euclid n (pos d) = c.div_euclid-quotient.ensures ∙ (λ i. int_div_euclid (z i) (e i)) in
    let up : to_z w128 (of_z w128 (to_z w128 (of_z w128 c.from-down.result) +ℤ pos 1)) ≡ c.div_euclid-quotient.result +ℤ pos 1 = omega (arith, ints, c.from-down.ensures) in
    let rest : c.remainder-part.result ≡ int_rem_euclid n (pos d) = c.remainder-part.ensures ∙ ap (λ (x : ℤ). int_rem_euclid x (pos d)) z in
    let r = remainder_small n d c.requires.positive in
    ap (λ q. q *ℤ pos d) (up ∙ ap (λ q. q +ℤ pos 1) down)
    ∙ omega (arith, ints, e, rest, r.0, r.1, c.requires.small, quotient_sum n d c.requires.positive, next_product (int_div_euclid n (pos d)) d)

pub returns-then-part-eq0 : goal.returns-then-part-eq0
returns-then-part-eq0 c =
    let n = c.args.numerator in
    let d = c.args.denominator in
    let z = to_z-of_z w64 n c.ranges.numerator in
    let e : to_z w64 d ≡ pos d = omega (arith, ints, c.requires.small) in
    let down : c.div_euclid-quotient.result ≡ int_div_euclid n (pos d) = c.div_euclid-quotient.ensures ∙ (λ i. int_div_euclid (z i) (e i)) in
    let same : to_z w128 (of_z w128 c.from-down.result) ≡ c.div_euclid-quotient.result = omega (arith, ints, c.from-down.ensures) in
    let rest : c.remainder-part.result ≡ int_rem_euclid n (pos d) = c.remainder-part.ensures ∙ ap (λ (x : ℤ). int_rem_euclid x (pos d)) z in
    let zero : int_rem_euclid n (pos d) ≡ pos 0 = sym rest ∙ omega (arith, ints, c.if-part-eq0.true) in
    record {
      coefficient = same ∙ down ∙ sym (exact_to (is_at_upper c.args.status) n d c.requires.positive zero);
      filling = ap (λ q. q *ℤ pos d) (same ∙ down) ∙ omega (arith, ints, zero, quotient_sum n d c.requires.positive);
      small_coefficient = omega (arith, ints, same);
    }

pub remainder-part-requires-clause-quotient : goal.remainder-part-requires-clause-quotient
remainder-part-requires-clause-quotient c =
    let q = c.div_euclid-quotient.result in
    let fits : SFits w64 q = search rules in
    let e : to_z w64 c.args.denominator ≡ pos c.args.denominator = omega (arith, ints, c.requires.small) in
    to_z-of_z w64 q fits ∙ c.div_euclid-quotient.ensures ∙ ap (λ (d : ℤ). int_div_euclid (to_z w64 (of_z w64 c.args.numerator)) d) e

pub returns-then-is_at_upper-clause-filling : goal.returns-then-is_at_upper-clause-filling
returns-then-is_at_upper-clause-filling c =
    let n = c.args.numerator in
    let d = c.args.denominator in
    let z = to_z-of_z w64 n c.ranges.numerator in
    let e : to_z w64 d ≡ pos d = omega (arith, ints, c.requires.small) in
    let down : c.div_euclid-quotient.result ≡ int_div_euclid n (pos d) = c.div_euclid-quotient.ensures ∙ (λ i. int_div_euclid (z i) (e i)) in
    let same : to_z w128 (of_z w128 c.from-down.result) ≡ c.div_euclid-quotient.result = omega (arith, ints, c.from-down.ensures) in
    let rest : c.remainder-part.result ≡ int_rem_euclid n (pos d) = c.remainder-part.ensures ∙ ap (λ (x : ℤ). int_rem_euclid x (pos d)) z in
    let r = remainder_small n d c.requires.positive in
    ap (λ q. q *ℤ pos d) (same ∙ down) ∙ omega (arith, ints, rest, r.0, r.1, c.requires.small, quotient_sum n d c.requires.positive)
