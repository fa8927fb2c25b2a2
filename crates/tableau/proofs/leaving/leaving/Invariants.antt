use Rattle.std.proofs.Common.{◌≡◌, drop}
use Rattle.tableau.specs.Leaving.{leaving_from}
use Rattle.tableau.proofs.leaving.leaving.Given as goal

abbrev pub invariant-loop-i : goal.invariant-loop-i
invariant-loop-i l = leaving_from l.i (drop l.i l.statuses) (drop l.i l.bounds) (drop l.i l.values) ≡ leaving_from 0 l.statuses l.bounds l.values
