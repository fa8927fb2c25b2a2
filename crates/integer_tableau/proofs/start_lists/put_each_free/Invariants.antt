use Rattle.std.proofs.Common.{◌≡◌, ◌++◌, drop, take}
use Rattle.integer_tableau.specs.Exits.{are_free}
use Rattle.integer_tableau.proofs.start_lists.put_each_free.Given as goal

abbrev pub invariant-loop-variable : goal.invariant-loop-variable
invariant-loop-variable l = l.free ≡ are_free (take l.variable l.bounds) ++ drop l.variable l.initial.free
