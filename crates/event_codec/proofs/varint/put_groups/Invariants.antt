use Rattle.std.proofs.Common.{◌≡◌, ◌++◌}
use Rattle.event_codec.specs.Varints.{varint_code}
use Rattle.event_codec.proofs.varint.put_groups.Given as goal

-- what is put and what is left spell the number
abbrev pub invariant-loop-rest : goal.invariant-loop-rest
invariant-loop-rest l = l.out.items ++ varint_code l.rest ≡ l.fn.out.items ++ varint_code l.number

abbrev pub decreases-loop-rest : goal.decreases-loop-rest
decreases-loop-rest l = l.rest
