use Rattle.std.proofs.Common.{◌≡◌, drop}
use Rattle.gomory_cuts.specs.Separation.{is_found}
use Rattle.gomory_cuts.proofs.separation.is_found.Given as goal

abbrev pub invariant-loop-other : goal.invariant-loop-other
invariant-loop-other l = is_found l.mult (drop l.other-index l.found) ≡ is_found l.mult l.found
