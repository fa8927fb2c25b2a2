use Rattle.std.proofs.Common.{get_or, refl, arith}
use Rattle.mps_reader.proofs.Counted.{one_byte}
use Rattle.mps_reader.proofs.lines.line_count.Goals as goal

pub loop-byte-preserved : goal.loop-byte-preserved
loop-byte-preserved c =
    let text = c.args.text.now in
    let i = c.loop-byte.byte-index in
    let e = one_byte c.loop-byte.is_open text i (get_or text i 0) c.loop-byte-test.true refl in
    record {
      counted = omega (arith, e, c.one_if-count.ensures.value, c.loop-byte.invariant.counted);
      small = omega (arith, c.one_if-count.ensures.small, c.loop-byte.invariant.small);
    }
