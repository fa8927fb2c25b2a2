use Rattle.std.proofs.Common.{◌≡◌, ◌+◌, ◌≤◌, drop}
use Rattle.vipr_print.specs.Spelling.{count_nonzero}
use Rattle.vipr_print.proofs.pieces.count_nonzero.Given as goal

abbrev pub invariant-loop-number : goal.invariant-loop-number
invariant-loop-number l = (l.count ≤ l.number-index) × (l.count + count_nonzero (drop l.number-index l.point) ≡ count_nonzero l.point)
