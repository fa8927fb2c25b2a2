use Rattle.std.proofs.Common.{◌-◌, length}
use Rattle.resume.proofs.Differences.{AgreeTo}
use Rattle.resume.proofs.difference.first_difference.Given as goal

abbrev pub invariant-loop-at : goal.invariant-loop-at
invariant-loop-at l = AgreeTo l.a l.b l.at

abbrev pub decreases-loop-at : goal.decreases-loop-at
decreases-loop-at l = length l.a - l.at
