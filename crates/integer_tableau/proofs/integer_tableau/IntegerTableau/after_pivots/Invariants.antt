use Rattle.std.proofs.Common.{◌≡◌, ◌+◌, ◌-◌, ℕ}
use Rattle.tableau.specs.Run.{run_from}
use Rattle.integer_tableau.specs.RowSums.{AreRowSums}
use Rattle.integer_tableau.specs.Running.{IsRunning, running_view}
use Rattle.integer_tableau.proofs.integer_tableau.IntegerTableau.after_pivots.Given as goal

abbrev pub invariant-loop-i : goal.invariant-loop-i
invariant-loop-i l = record {
  running : IsRunning l.running;
  sums : AreRowSums l.running.fixed.rows.items.value.items l.running.positions.items l.running.nonbasic_values.items l.row_sums.items;
  same : (cap : ℕ) → run_from (l.count - l._i + cap) (running_view l.running) ≡ run_from (l.count + cap) l.fn.self;
  counted : l.running.pivots ≡ l.fn.self.pivots + l._i;
}
