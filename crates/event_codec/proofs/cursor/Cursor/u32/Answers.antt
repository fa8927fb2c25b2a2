use Rattle.std.proofs.Common.{arith}
use Rattle.std.specs.Int.{w32}
use Rattle.std.proofs.Math.Facts.{Fits-of_lt}
use Rattle.event_codec.proofs.Fields.{varint_limited}
use Rattle.event_codec.proofs.cursor.Cursor.u32.Goals as goal

pub overflow_cast-result : goal.overflow_cast-result
overflow_cast-result c =
    let small = varint_limited c.from.result _ _ c.in_ok-varint-in-Two.field-0 c.in_ok-varint-in-Two.ensures in
    Fits-of_lt {w = w32} (omega (arith, small, c.from.ensures))
