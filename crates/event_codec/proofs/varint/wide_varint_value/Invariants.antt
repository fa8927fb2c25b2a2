use Rattle.std.proofs.Common.{◌≡◌, ◌-◌, length, drop}
use Rattle.event_codec.specs.Varints.{varint_value}
use Rattle.event_codec.proofs.varint.wide_varint_value.Given as goal

-- the value of the last bytes
abbrev pub invariant-loop-place : goal.invariant-loop-place
invariant-loop-place l = l.value ≡ varint_value (drop (length l.bytes - l.place) l.bytes)
