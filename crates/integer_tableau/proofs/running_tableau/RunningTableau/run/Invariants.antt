use Rattle.std.proofs.Common.{◌≡◌, ◌+◌, ◌-◌}
use Rattle.tableau.specs.Run.{run_from}
use Rattle.integer_tableau.specs.RowSums.{AreRowSums}
use Rattle.integer_tableau.specs.Running.{IsRunning, running_view}
use Rattle.integer_tableau.proofs.running_tableau.RunningTableau.run.Given as goal

abbrev pub invariant-loop-made : goal.invariant-loop-made
invariant-loop-made l = record {
  running : IsRunning l.running;
  fixed : l.running.fixed ≡ l.fn.self.fixed;
  sums : AreRowSums l.running.fixed.rows.items.value.items l.running.positions.items l.running.nonbasic_values.items l.row_sums.items;
  same : run_from (l.cap - l.made) (running_view l.running) ≡ run_from l.cap (running_view l.fn.self);
  counted : l.running.pivots ≡ l.fn.self.pivots + l.made;
}
