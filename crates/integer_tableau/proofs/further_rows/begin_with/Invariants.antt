use Rattle.std.proofs.Common.{◌≡◌, take}
use Rattle.integer_tableau.proofs.further_rows.begin_with.Given as goal

abbrev pub invariant-loop-index : goal.invariant-loop-index
invariant-loop-index l = take l.index l.rows ≡ take l.index l.first
