use Rattle.std.proofs.Common.{◌≡◌, ◌≤◌}
use Rattle.mps_lines.specs.Left.{left, room, text_len}
use Rattle.mps_lines.proofs.lines.Lines.next.Given as goal

abbrev pub invariant-loop-alloc : goal.invariant-loop-alloc
invariant-loop-alloc l = (left l.self ≡ left l.fn.self) × (room l.self ≤ room l.fn.self) × (text_len l.self ≤ text_len l.fn.self)

abbrev pub decreases-loop-alloc : goal.decreases-loop-alloc
decreases-loop-alloc l = text_len l.self
