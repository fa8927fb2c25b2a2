use Rattle.std.proofs.Common.{ap, sym, ◌∙◌}
use Rattle.mps_lines.specs.Decimals.{spelt_of}
use Rattle.mps_lines.specs.Infinities.{is_vast}
use Rattle.mps_lines.specs.Vast.{vast_above, vast_below}
use Rattle.mps_lines.proofs.Vast.{vast_above_is, vast_below_is}
use Rattle.std.proofs.Common.{◌<◌, ◌^◌, subst}
use Rattle.mps_lines.proofs.values.is_vast.Goals as goal

pub returns-then-below : goal.returns-then-below
returns-then-below c negative p e =
    let whole = c.args.whole.now in
    let part = c.args.part.now in
    let digits = c.digit_count-digits.ensures.value in
    let scale = c.scale_of-scale.ensures.value in
    c.is_vast_below.ensures ∙ (λ i. vast_below (digits i) (scale i) c.args.power)
    ∙ vast_below_is negative whole part p c.args.power c.requires.whole c.requires.part e (subst (λ n. n < 2 ^ 66) digits c.digit_count-digits.ensures.bound)
    ∙ ap (λ b. is_vast (spelt_of negative whole part (b, p))) (sym c.if-below.true)

pub returns-else-below : goal.returns-else-below
returns-else-below c negative p e =
    let whole = c.args.whole.now in
    let part = c.args.part.now in
    let digits = c.digit_count-digits.ensures.value in
    let scale = c.scale_of-scale.ensures.value in
    c.is_vast_above.ensures ∙ (λ i. vast_above (digits i) (scale i) c.args.power)
    ∙ vast_above_is negative whole part p c.args.power c.requires.whole c.requires.part e (subst (λ n. n < 2 ^ 64) scale c.scale_of-scale.ensures.bound)
    ∙ ap (λ b. is_vast (spelt_of negative whole part (b, p))) (sym c.if-below.false)
