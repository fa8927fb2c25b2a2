-- What the worker keeps between nodes.
use Rattle.std.specs.Prelude.{◌≡◌, ◌≤◌, length}
use Rattle.dual_simplex.specs.Prepared.{IsRelaxationOf}
use Rattle.event_core.specs.States.{State}
use Rattle.core_search.specs.declared.worker.Worker.{Worker}
use Rattle.problem.specs.Limits.{most_cuts}

-- the relaxation has all cuts of the state, and there are costs for each column
pub record IsPrepared (s : State) (w : Worker) : Type 0 where
  pub all_cuts : w.relaxation.cuts ≡ length s.cuts
  pub prepared : IsRelaxationOf s.problem s.cuts w.relaxation
  pub costs : length w.costs ≡ length s.problem.spans
  pub limit : w.limit ≤ most_cuts
