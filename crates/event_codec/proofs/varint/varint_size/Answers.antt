use Rattle.std.proofs.Common.{sym, arith}
use Rattle.event_codec.proofs.Varints.{size_at, size_none}
use Rattle.event_codec.proofs.varint.varint_size.Goals as goal

pub returns-then-bytes-place-lt128 : goal.returns-then-bytes-place-lt128
returns-then-bytes-place-lt128 c = sym (size_at c.args.bytes.now c.loop-place.place c.loop-place-test.true c.loop-place.invariant c.if-bytes-place-lt128.true)

pub returns : goal.returns
returns c = sym (size_none c.args.bytes.now (λ k lt. c.loop-place.invariant k (omega (arith, lt))))
