use Rattle.std.proofs.Common.{ℕ, ◌<◌, ◌≤◌, get_or}
use Rattle.event_codec.proofs.varint.varint_size.Given as goal

-- each byte so far has its top bit set
abbrev pub invariant-loop-place : goal.invariant-loop-place
invariant-loop-place l = (k : ℕ) → k < l.place → 128 ≤ get_or l.bytes k 0
