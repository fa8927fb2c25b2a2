use Rattle.std.proofs.Common.{◌≡◌, ◌+◌, ◌-◌, ◌≤◌, ◌++◌, true, vec_len}
use Rattle.outside.proofs.whole_source.read_all.Given as goal

abbrev pub invariant-loop-buf : goal.invariant-loop-buf
invariant-loop-buf g l = (g.S.Source.faults l.source ≡ g.S.Source.faults l.fn.source) × (vec_len l.all ≤ l.limit + 1) × (g.S.Source.tells ≡ true → g.S.Source.left l.fn.source ≡ l.all.items ++ g.S.Source.left l.source)

abbrev pub decreases-loop-buf : goal.decreases-loop-buf
decreases-loop-buf g l = l.limit + 1 - vec_len l.all
