use Rattle.std.proofs.Common.{ℕ, ◌+◌, ◌*◌, ◌^◌, ◌∙◌, ap, arith}
use Rattle.event_codec.proofs.Varints.{value_of_none, value_more, value_done, value_too_large}
use Rattle.event_codec.proofs.varint.wide_varint_value.Goals as goal

pub loop-place-init : goal.loop-place-init
loop-place-init c = value_of_none c.args.bytes.now

pub returns-then-value : goal.returns-then-value
returns-then-value c = value_too_large c.args.bytes.now c.loop-place.place c.loop-place.value (2 ^ 128) c.loop-place-test.true (omega arith) c.loop-place.invariant

pub loop-place-preserved : goal.loop-place-preserved
loop-place-preserved c =
    ap (λ (n : ℕ). c.loop-place.value * 128 + n) c.from-in-loop-place.ensures ∙ value_more c.args.bytes.now c.loop-place.place c.loop-place.value c.loop-place-test.true c.loop-place.invariant

pub returns : goal.returns
returns c = value_done c.args.bytes.now c.loop-place.place c.loop-place.value (2 ^ 128) c.loop-place-test.false (omega arith) c.loop-place.invariant
