use Rattle.std.proofs.Common.{◌≡◌, ◌+◌, ◌-◌}
use Rattle.tableau.specs.Run.{run_from}
use Rattle.tableau.proofs.tableau.Tableau.run.Given as goal

abbrev pub invariant-loop-i : goal.invariant-loop-i
invariant-loop-i l = record {
  rest : run_from (l.cap - l._i) l.self ≡ run_from l.cap l.fn.self;
  count : l.self.pivots ≡ l.fn.self.pivots + l._i;
}
