use Rattle.std.proofs.Common.{◌+◌, ◌*◌, get_or, refl, ap, ◌∙◌}
use Rattle.mps_lines.specs.Decimals.{capped}
use Rattle.mps_lines.proofs.Places.{capped_more}
use Rattle.mps_lines.proofs.decimals.capped_number.Goals as goal

pub loop-digit-preserved : goal.loop-digit-preserved
loop-digit-preserved c = (
  capped_more c.args.digits.now c.loop-digit.digit-index c.loop-digit.number (get_or c.args.digits.now c.loop-digit.digit-index 0) c.at_most_cap-number.result c.loop-digit-test.true c.requires c.loop-digit.invariant.0 refl
      (c.at_most_cap-number.ensures.value ∙ ap (λ x. capped (c.loop-digit.number * 10 + x)) c.from.ensures),
  c.at_most_cap-number.ensures.small,
)
