use Rattle.std.proofs.Common.{◌≡◌, [], replicate}
use Rattle.integer_tableau.proofs.start.empty_rows.Given as goal

abbrev pub invariant-loop-i : goal.invariant-loop-i
invariant-loop-i l = l.rows.items ≡ replicate l._i []
