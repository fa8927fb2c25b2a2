use Rattle.std.proofs.Common.{◌≡◌, take, true}
use Rattle.std.specs.List.{list_all}
use Rattle.problem.specs.declared.row.Row.{Row}
use Rattle.event_core.specs.Relaxed.{satisfies_row}
use Rattle.event_core.proofs.relaxed.satisfies_rows.Given as goal

abbrev pub invariant-loop-index : goal.invariant-loop-index
invariant-loop-index l = list_all (λ (r : Row). satisfies_row l.sums r) (take l.index l.problem.rows) ≡ true
