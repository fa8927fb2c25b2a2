-- What legal histories promise of budgets.
use Rattle.std.specs.Prelude.{◌<◌, ◌+◌, ◌*◌, List, length}
use Rattle.problem.specs.Problem.{Problem}
use Rattle.event_core.specs.declared.entry.Entry.{Entry}
use Rattle.event_core.specs.Histories.{state_of, AreLegal}
use Rattle.core_search.specs.Endings.{AdmitsSplit}
use Rattle.problem_box.specs.PointCount.{point_count}

-- where a split is admitted, the nodes with those of the split are fewer than twice the points of the problem's box
abbrev pub SplitsHavePoints : Problem → Type 0
SplitsHavePoints p = (es : List Entry) → AreLegal p es → AdmitsSplit (state_of p es) → length (state_of p es).nodes + 2 < 2 * point_count p.spans
