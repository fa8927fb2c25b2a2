use Rattle.std.proofs.Common.{rules}
use Rattle.mps_lines.proofs.Vast.{vast_parts}
use Rattle.mps_lines.proofs.values.vast.Goals as goal

pub returns-in-Some : goal.returns-in-Some
returns-in-Some c =
    vast_parts c.args.field.now c.sign_at-negative.result.1.now c.digits_at.result.0.now c.digits_at.result.1.now c.point_at.result.0.now c.point_at.result.1.now c.sign_at-negative.result.0 c.in-Some.power c.vast_with.result
    c.sign_at-negative.ensures c.digits_at.ensures.digits c.digits_at.ensures.rest c.point_at.ensures.parts (search rules) c.in-Some.ensures.value c.vast_with.ensures
